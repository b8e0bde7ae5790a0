-- Which pairs stand in the rows, and in what order.
use Rattle.std.proofs.Common.{◌≡◌, ℕ, zero, suc, ◌+◌, ◌-◌, ◌<◌, ◌≤◌, Bool, true, false, List, [], ◌++◌, Some, refl, sym, ap, ◌∙◌, subst, inl, inr, arith}
use Rattle.std.specs.Prelude.{slice_get}
use Rattle.std.specs.List.{Contains, list_any}
use Rattle.std.proofs.lemmas.Bool.{false≢true, cases_lt, false_from_ne_true}
use Rattle.std.proofs.lemmas.List.Elements.{Contains-append_left, Contains-append_right, Contains-append_cases, Contains-push, Contains-push_cases}
use Rattle.std.proofs.lemmas.Option.{slice_get_within}
use Rattle.timing_types.specs.declared.clocks.Pair.{Pair}
use Rattle.timing_types.specs.declared.views.View.{View}
use Rattle.merge_model.specs.Exclusive.{ComesBefore, AreExclusivePairs}
use Rattle.text_model.proofs.ListFacts.{contains_at, get_append}
use Rattle.clock_map.specs.declared.timings.Timing.{Timing}
use Rattle.clock_map.specs.Timings.{AreTimings, lets_time, pair_unless, row_from, row, rows_from}
use Rattle.clock_map.proofs.ExclusiveLists.{some_says, some_shows}

abbrev pair : ℕ → ℕ → Pair
pair a b = record { first = a; second = b }

-- ---- members

none_in : (x : Pair) → Contains [] x → ⊥
none_in x h = absurd (omega (arith, h.1))

one_has : (t : Bool) (a b : ℕ) (x : Pair) → Contains (pair_unless t a b) x → (t ≡ false) × (pair a b ≡ x)
one_has true a b x h = absurd (none_in x h)
one_has false a b x h = (refl, elim (Contains-push_cases [] (pair a b) x h) [ inl old ↦ absurd (none_in x old) | inr new ↦ new ])

one_is : (t : Bool) (a b : ℕ) → t ≡ false → Contains (pair_unless t a b) (pair a b)
one_is t a b e = subst (λ (u : Bool). Contains (pair_unless u a b) (pair a b)) (sym e) (Contains-push [] (pair a b))

-- what is known of a pair in the row of a merged clock
pub record InRow (timings : List Timing) (a low high : ℕ) (x : Pair) : Type 0 where
  pub first : x.first ≡ a
  pub from : low ≤ x.second
  pub below : x.second < high
  pub untimed : list_any (lets_time a x.second) timings ≡ false

pub row_members : (timings : List Timing) (a b n : ℕ) (x : Pair) → Contains (row_from timings a b n) x → InRow timings a b (b + n) x
row_members timings a b zero x h = absurd (none_in x h)
row_members timings a b (suc n) x h =
    elim (Contains-append_cases (pair_unless (list_any (lets_time a b) timings) a b) (row_from timings a (suc b) n) x h) [
      | inl here ↦
          let one = one_has (list_any (lets_time a b) timings) a b x here in
          let first : x.first ≡ a = ap (λ (p : Pair). p.first) (sym one.1) in
          let second : x.second ≡ b = ap (λ (p : Pair). p.second) (sym one.1) in
          record { first = first; from = omega arith; below = omega arith; untimed = ap (λ k. list_any (lets_time a k) timings) second ∙ one.0 }
      | inr there ↦
          let rest = row_members timings a (suc b) n x there in
          let low = rest.from in
          let high = rest.below in
          record { first = rest.first; from = omega arith; below = omega arith; untimed = rest.untimed }
    ]

pub row_has : (timings : List Timing) (a b n y : ℕ) → b ≤ y → y < b + n → list_any (lets_time a y) timings ≡ false → Contains (row_from timings a b n) (pair a y)
row_has timings a b zero y low high e = absurd (omega arith)
row_has timings a b (suc n) y low high e =
    elim (cases_lt b y) [
      | inl less ↦ Contains-append_right (pair_unless (list_any (lets_time a b) timings) a b) (row_from timings a (suc b) n) (pair a y)
          (row_has timings a (suc b) n y (omega arith) (omega arith) e)
      | inr more ↦
          let same : b ≡ y = omega arith in
          let here : list_any (lets_time a b) timings ≡ false = ap (λ k. list_any (lets_time a k) timings) same ∙ e in
          Contains-append_left (pair_unless (list_any (lets_time a b) timings) a b) (row_from timings a (suc b) n) (pair a y)
          (subst (λ (k : ℕ). Contains (pair_unless (list_any (lets_time a b) timings) a b) (pair a k)) same (one_is (list_any (lets_time a b) timings) a b here))
    ]

pub record InRows (timings : List Timing) (count low high : ℕ) (x : Pair) : Type 0 where
  pub from : low ≤ x.first
  pub below : x.first < high
  pub rises : x.first < x.second
  pub within : x.second < count
  pub untimed : list_any (lets_time x.first x.second) timings ≡ false

pub rows_members : (timings : List Timing) (count a n : ℕ) (x : Pair) → a + n ≤ count → Contains (rows_from timings count a n) x → InRows timings count a (a + n) x
rows_members timings count a zero x short h = absurd (none_in x h)
rows_members timings count a (suc n) x short h =
    elim (Contains-append_cases (row timings count a) (rows_from timings count (suc a) n) x h) [
      | inl here ↦
          let one = row_members timings a (a + 1) (count - (a + 1)) x here in
          let first = one.first in
          let low = one.from in
          let high = one.below in
          record {
            from = omega arith;
            below = omega arith;
            rises = omega arith;
            within = omega arith;
            untimed = ap (λ k. list_any (lets_time k x.second) timings) first ∙ one.untimed;
          }
      | inr there ↦
          let rest = rows_members timings count (suc a) n x (omega arith) there in
          let low = rest.from in
          let high = rest.below in
          record { from = omega arith; below = omega arith; rises = rest.rises; within = rest.within; untimed = rest.untimed }
    ]

pub rows_have : (timings : List Timing) (count a n x y : ℕ) → a ≤ x → x < a + n → x < y → y < count → list_any (lets_time x y) timings ≡ false
    → Contains (rows_from timings count a n) (pair x y)
rows_have timings count a zero x y low high rises within e = absurd (omega arith)
rows_have timings count a (suc n) x y low high rises within e =
    elim (cases_lt a x) [
      | inl less ↦ Contains-append_right (row timings count a) (rows_from timings count (suc a) n) (pair x y)
          (rows_have timings count (suc a) n x y (omega arith) (omega arith) rises within e)
      | inr more ↦
          let same : x ≡ a = omega arith in
          let there : list_any (lets_time a y) timings ≡ false = ap (λ k. list_any (lets_time k y) timings) (sym same) ∙ e in
          Contains-append_left (row timings count a) (rows_from timings count (suc a) n) (pair x y)
          (subst (λ (k : ℕ). Contains (row timings count a) (pair k y)) (sym same)
          (row_has timings a (a + 1) (count - (a + 1)) y (omega arith) (omega arith) there))
    ]

-- ---- order

abbrev InOrder : List Pair → Type 0
InOrder xs = (p q : ℕ) (x y : Pair) → p < q → slice_get xs p ≡ Some x → slice_get xs q ≡ Some y → ComesBefore x y

in_order_append : (xs ys : List Pair) → InOrder xs → InOrder ys → ((x y : Pair) → Contains xs x → Contains ys y → ComesBefore x y) → InOrder (xs ++ ys)
in_order_append xs ys first second across p q x y less e f =
    elim (get_append xs ys p x e) [
      | inl old ↦ elim (get_append xs ys q y f) [
        | inl old' ↦ first p q x y less old old'
        | inr new' ↦ across x y (contains_at xs p x old) (contains_at ys new'.0 y new'.2)
      ]
      | inr new ↦ elim (get_append xs ys q y f) [
        | inl old' ↦ let within = slice_get_within xs q y old' in absurd (omega (arith, less, within, new.1))
        | inr new' ↦ second new.0 new'.0 x y (omega (arith, less, new.1, new'.1)) new.2 new'.2
      ]
    ]

none_in_order : InOrder []
none_in_order p q x y less e f = cc

one_in_order : (t : Bool) (a b : ℕ) → InOrder (pair_unless t a b)
one_in_order true a b p q x y less e f = cc
one_in_order false a b p zero x y less e f = absurd (omega arith)
one_in_order false a b p (suc q) x y less e f = cc

row_in_order : (timings : List Timing) (a b n : ℕ) → InOrder (row_from timings a b n)
row_in_order timings a b zero = none_in_order
row_in_order timings a b (suc n) =
    in_order_append (pair_unless (list_any (lets_time a b) timings) a b) (row_from timings a (suc b) n)
    (one_in_order (list_any (lets_time a b) timings) a b) (row_in_order timings a (suc b) n)
    (λ x y h k.
    let one = one_has (list_any (lets_time a b) timings) a b x h in
    let rest = row_members timings a (suc b) n y k in
    let first : x.first ≡ a = ap (λ (p : Pair). p.first) (sym one.1) in
    let second : x.second ≡ b = ap (λ (p : Pair). p.second) (sym one.1) in
    let low = rest.from in
    inr (first ∙ sym rest.first, omega arith))

rows_in_order : (timings : List Timing) (count a n : ℕ) → a + n ≤ count → InOrder (rows_from timings count a n)
rows_in_order timings count a zero short = none_in_order
rows_in_order timings count a (suc n) short =
    in_order_append (row timings count a) (rows_from timings count (suc a) n)
    (row_in_order timings a (a + 1) (count - (a + 1))) (rows_in_order timings count (suc a) n (omega arith))
    (λ x y h k.
    let one = row_members timings a (a + 1) (count - (a + 1)) x h in
    let rest = rows_members timings count (suc a) n y (omega arith) k in
    let first = one.first in
    let low = rest.from in
    inl (omega arith))

-- ---- all pairs

pub rows_are_pairs : (views : List View) (maps : List (List ℕ)) (timings : List Timing) (count : ℕ) → AreTimings count views maps timings
    → AreExclusivePairs views maps count (rows_from timings count 0 count)
rows_are_pairs views maps timings count known = record {
  members = λ a b. (
    (λ h. let found = rows_members timings count 0 count (pair a b) (omega arith) h in
        let rises = found.rises in
        let within = found.within in
        (rises, within, λ lets. false≢true (sym found.untimed ∙ some_shows count views maps timings a b known (omega arith) within lets))),
    (λ h. rows_have timings count 0 count a b (omega arith) (omega (arith, h.0, h.1)) h.0 h.1
        (false_from_ne_true (list_any (lets_time a b) timings) (λ e. h.2 (some_says count views maps timings a b known (omega (arith, h.0, h.1)) h.1 e)))),
  );
  order = rows_in_order timings count 0 count (omega arith);
}
