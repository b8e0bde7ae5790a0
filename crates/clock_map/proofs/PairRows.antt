-- Rows of pairs, built from their front.
use Rattle.std.proofs.Common.{◌≡◌, ℕ, suc, ◌+◌, ◌-◌, ◌<◌, Bool, false, List, ◌++◌, get_or, sym, ap, ◌∙◌, append_assoc, add-one, arith}
use Rattle.timing_types.specs.declared.clocks.Pair.{Pair}
use Rattle.clock_map.specs.declared.timings.Timing.{Timing}
use Rattle.clock_map.specs.Timings.{pair_unless, others_from, row, rows_from}

pub others_front : (flags : List Bool) (a b count : ℕ) → b < count
    → others_from flags a b (count - b) ≡ pair_unless (get_or flags b false) a b ++ others_from flags a (b + 1) (count - (b + 1))
others_front flags a b count within =
    let left : count - b ≡ suc (count - (b + 1)) = omega arith in
    ap (others_from flags a b) left
    ∙ ap (λ next. pair_unless (get_or flags b false) a b ++ others_from flags a next (count - (b + 1))) (sym (add-one b))

-- one pair more, or none, from the front of what is left
pub others_step : (flags : List Bool) (a b count : ℕ) (pairs pairs' all : List Pair) (timed : Bool) → b < count
    → timed ≡ get_or flags b false → pairs' ≡ pairs ++ pair_unless timed a b
    → pairs ++ others_from flags a b (count - b) ≡ all → pairs' ++ others_from flags a (b + 1) (count - (b + 1)) ≡ all
others_step flags a b count pairs pairs' all timed within timed_is pairs_is known =
    let rest = others_from flags a (b + 1) (count - (b + 1)) in
    ap (λ front. front ++ rest) (pairs_is ∙ ap (λ t. pairs ++ pair_unless t a b) timed_is)
    ∙ append_assoc pairs (pair_unless (get_or flags b false) a b) rest
    ∙ ap (λ tail. pairs ++ tail) (sym (others_front flags a b count within))
    ∙ known

pub rows_front : (timings : List Timing) (count a : ℕ) → a < count
    → rows_from timings count a (count - a) ≡ row timings count a ++ rows_from timings count (a + 1) (count - (a + 1))
rows_front timings count a within =
    let left : count - a ≡ suc (count - (a + 1)) = omega arith in
    ap (rows_from timings count a) left
    ∙ ap (λ next. row timings count a ++ rows_from timings count next (count - (a + 1))) (sym (add-one a))

pub rows_step : (timings : List Timing) (count a : ℕ) (pairs pairs' all : List Pair) → a < count
    → pairs' ≡ pairs ++ row timings count a
    → pairs ++ rows_from timings count a (count - a) ≡ all → pairs' ++ rows_from timings count (a + 1) (count - (a + 1)) ≡ all
rows_step timings count a pairs pairs' all within pairs_is known =
    let rest = rows_from timings count (a + 1) (count - (a + 1)) in
    ap (λ front. front ++ rest) pairs_is
    ∙ append_assoc pairs (row timings count a) rest
    ∙ ap (λ tail. pairs ++ tail) (sym (rows_front timings count a within))
    ∙ known
