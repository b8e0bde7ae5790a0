-- The row of a merged clock: by flags, and as the pairs of which it is the first.
use Rattle.std.proofs.Common.{◌≡◌, ◌≢◌, ℕ, zero, suc, ◌+◌, ◌-◌, ◌<◌, ◌≤◌, Bool, true, false, List, [], ◌++◌, refl, ap, ◌∙◌, inl, inr, arith}
use Rattle.std.specs.Prelude.{◌==◌, ◌⊎◌}
use Rattle.std.specs.List.{filter, list_any}
use Rattle.std.proofs.lemmas.Bool.Decides.{nat_tests}
use Rattle.std.proofs.lemmas.List.{append-nil}
use Rattle.std.proofs.lemmas.List.Elements.{filter-append}
use Rattle.timing_types.specs.declared.clocks.Pair.{Pair}
use Rattle.clock_map.specs.declared.timings.Timing.{Timing}
use Rattle.clock_map.specs.Timings.{AreFlags, lets_time, pair_unless, others_from, row_from, row, rows_from}
use Rattle.std.proofs.lemmas.Bool.{cases_eq}

-- ---- by flags

pub others_are_row : (timings : List Timing) (count first : ℕ) (flags : List Bool) (b n : ℕ)
    → AreFlags count first (λ k. list_any (lets_time first k) timings) flags → first < b → b + n ≤ count
    → others_from flags first b n ≡ row_from timings first b n
others_are_row timings count first flags b zero known after within = refl
others_are_row timings count first flags b (suc n) known after within =
    ap (λ t. pair_unless t first b ++ others_from flags first (suc b) n) (known.1 b after (omega arith))
    ∙ ap (λ rest. pair_unless (list_any (lets_time first b) timings) first b ++ rest)
    (others_are_row timings count first flags (suc b) n known (omega arith) (omega arith))

-- ---- as the pairs of which it is the first

abbrev is_first : ℕ → Pair → Bool
is_first first pair = pair.first == first

one_kept : (t : Bool) (a b : ℕ) → filter (is_first a) (pair_unless t a b) ≡ pair_unless t a b
one_kept true a b = refl
one_kept false a b = let t : (a == a) ≡ true = grind (arith, nat_tests) in rw t refl

one_dropped : (t : Bool) (first a b : ℕ) → a ≢ first → filter (is_first first) (pair_unless t a b) ≡ []
one_dropped true first a b other = refl
one_dropped false first a b other = let t : (a == first) ≡ false = grind (arith, nat_tests) in rw t refl

row_kept : (timings : List Timing) (a b n : ℕ) → filter (is_first a) (row_from timings a b n) ≡ row_from timings a b n
row_kept timings a b zero = refl
row_kept timings a b (suc n) =
    let here = pair_unless (list_any (lets_time a b) timings) a b in
    filter-append (is_first a) here (row_from timings a (suc b) n)
    ∙ ap (λ l. l ++ filter (is_first a) (row_from timings a (suc b) n)) (one_kept (list_any (lets_time a b) timings) a b)
    ∙ ap (λ l. here ++ l) (row_kept timings a (suc b) n)

row_dropped : (timings : List Timing) (first a b n : ℕ) → a ≢ first → filter (is_first first) (row_from timings a b n) ≡ []
row_dropped timings first a b zero other = refl
row_dropped timings first a b (suc n) other =
    let here = pair_unless (list_any (lets_time a b) timings) a b in
    filter-append (is_first first) here (row_from timings a (suc b) n)
    ∙ ap (λ l. l ++ filter (is_first first) (row_from timings a (suc b) n)) (one_dropped (list_any (lets_time a b) timings) first a b other)
    ∙ row_dropped timings first a (suc b) n other

pub rows_without : (timings : List Timing) (count first a n : ℕ) → (first < a) ⊎ (a + n ≤ first) → filter (is_first first) (rows_from timings count a n) ≡ []
rows_without timings count first a zero past = refl
rows_without timings count first a (suc n) past =
    let other : a ≢ first = λ e. elim past [ inl low ↦ absurd (omega arith) | inr high ↦ absurd (omega arith) ] in
    let left : (first < suc a) ⊎ (suc a + n ≤ first) = elim past [ inl low ↦ inl (omega arith) | inr high ↦ inr (omega arith) ] in
    filter-append (is_first first) (row timings count a) (rows_from timings count (suc a) n)
    ∙ ap (λ l. l ++ filter (is_first first) (rows_from timings count (suc a) n)) (row_dropped timings first a (a + 1) (count - (a + 1)) other)
    ∙ rows_without timings count first (suc a) n left

pub rows_with : (timings : List Timing) (count first a n : ℕ) → a ≤ first → first < a + n → filter (is_first first) (rows_from timings count a n) ≡ row timings count first
rows_with timings count first a zero low high = absurd (omega arith)
rows_with timings count first a (suc n) low high =
    filter-append (is_first first) (row timings count a) (rows_from timings count (suc a) n)
    ∙ elim (cases_eq a first) [
      | inl same ↦
          ap (λ l. filter (is_first first) (row timings count a) ++ l) (rows_without timings count first (suc a) n (inl (omega arith)))
          ∙ append-nil (filter (is_first first) (row timings count a))
          ∙ ap (λ k. filter (is_first first) (row timings count k)) same
          ∙ row_kept timings first (first + 1) (count - (first + 1))
      | inr other ↦
          ap (λ l. l ++ filter (is_first first) (rows_from timings count (suc a) n)) (row_dropped timings first a (a + 1) (count - (a + 1)) other)
          ∙ rows_with timings count first (suc a) n (omega arith) (omega arith)
    ]
