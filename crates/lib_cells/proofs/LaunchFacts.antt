-- Counts of launch arcs, and outputs that are launched twice.
use Rattle.std.proofs.Common.{◌≡◌, ◌∙◌, ◌+◌, ◌<◌, ◌≤◌, ◌==◌, ◌||◌, ◌&&◌, ◌≢◌, ℕ, zero, suc, Bool, true, false, cond, List, [], ◌∷◌, add-one, drop, filter, length, length-set, get_or, get_or-set_same, get_or-set_other, map, min, not, nat_le, nat_lt, replicate, set, subst, refl, sym, ap, arith}
use Rattle.std.proofs.Math.Seq.{drop-cons}
use Rattle.std.proofs.lemmas.Bool.Decides.{nat_tests}
use Rattle.std.specs.List.{list_any}
use Rattle.pin_types.specs.declared.library_cells.Direction.{Direction}
use Rattle.pin_types.specs.declared.library_cells.Direction.TheVariants as direction
use Rattle.pin_types.specs.declared.library_cells.LibArc.{LibArc}
use Rattle.library_model.specs.LibertyArcs.{direction_at, is_launched_twice, is_output}
use Rattle.library_model.specs.LibertyCells.{NamedPin, direction_of}
use Rattle.lib_cells.specs.Launches.{AreCounts, CountsSoFar, launches_to, twice_at, with_launch}

zeros : (n pin : ℕ) → get_or (replicate {A = ℕ} n 0) pin 0 ≡ 0
zeros zero pin = refl
zeros (suc n) zero = refl
zeros (suc n) (suc pin) = zeros n pin

zeros_length : (n : ℕ) → length (replicate {A = ℕ} n 0) ≡ n
zeros_length zero = refl
zeros_length (suc n) = ap suc (zeros_length n)

pub counts_none : (counts : List ℕ) (pins : ℕ) (arcs : List LibArc) → counts ≡ replicate {A = ℕ} pins 0 → CountsSoFar counts pins arcs arcs
counts_none counts pins arcs is = (
  ap length is ∙ zeros_length pins,
  λ pin h. ap (λ c. min 2 (c + launches_to arcs pin)) (ap (λ cs. get_or cs pin 0) is ∙ zeros pins pin) ∙ none_more (launches_to arcs pin),
) where
  none_more : (n : ℕ) → min 2 (0 + n) ≡ min 2 n
  none_more n = omega arith

more_at : (old : List ℕ) (to pin r : ℕ) (launch full same : Bool) → nat_le (length old) to ≡ full → (to == pin) ≡ same → pin < length old
    → min 2 (get_or (cond (not launch || full) old (set old to (min 2 (get_or old to 0 + 1)))) pin 0 + r)
    ≡ min 2 (get_or old pin 0 + cond (launch && same) (1 + r) r)
more_at old to pin r false full same e f h = refl
more_at old to pin r true true true e f h =
    let p : length old ≤ to = grind (arith, nat_tests) in
    let q : to ≡ pin = grind (arith, nat_tests) in
    absurd (omega (arith, p, q, h))
more_at old to pin r true true false e f h = refl
more_at old to pin r true false true e f h =
    let p : to < length old = grind (arith, nat_tests) in
    let q : to ≡ pin = grind (arith, nat_tests) in
    let g : get_or (set old to (min 2 (get_or old to 0 + 1))) pin 0 ≡ min 2 (get_or old pin 0 + 1) =
    ap (λ n. get_or (set old to (min 2 (get_or old to 0 + 1))) n 0) (sym q)
    ∙ (get_or-set_same old to (min 2 (get_or old to 0 + 1)) 0 p ∙ ap (λ n. min 2 (get_or old n 0 + 1)) q) in
    ap (λ c. min 2 (c + r)) g ∙ twos (get_or old pin 0) r where
      twos : (c r : ℕ) → min 2 (min 2 (c + 1) + r) ≡ min 2 (c + (1 + r))
      twos c r = omega arith
more_at old to pin r true false false e f h =
    let q : pin ≢ to = grind (arith, nat_tests) in
    ap (λ c. min 2 (c + r)) (get_or-set_other old to pin (min 2 (get_or old to 0 + 1)) 0 q)

length_cond : (t : Bool) (arc : LibArc) (arcs : List LibArc) → length (cond t (arc ∷ arcs) arcs) ≡ cond t (1 + length arcs) (length arcs)
length_cond true arc arcs = omega arith
length_cond false arc arcs = refl

with_length : (old : List ℕ) (arc : LibArc) → length (with_launch old arc) ≡ length old
with_length old arc = by_test (not arc.launch || nat_le (length old) arc.to) where
  by_test : (t : Bool) → length (cond t old (set old arc.to (min 2 (get_or old arc.to 0 + 1)))) ≡ length old
  by_test true = refl
  by_test false = length-set old arc.to (min 2 (get_or old arc.to 0 + 1))

pub counts_more : (old : List ℕ) (pins : ℕ) (arc : LibArc) (rest arcs : List LibArc) → CountsSoFar old pins (arc ∷ rest) arcs
    → CountsSoFar (with_launch old arc) pins rest arcs
counts_more old pins arc rest arcs so_far = (
  with_length old arc ∙ so_far.0,
  λ pin h. more_at old arc.to pin (launches_to rest pin) arc.launch (nat_le (length old) arc.to) (arc.to == pin) refl refl (within pin h)
      ∙ (ap (λ n. min 2 (get_or old pin 0 + n)) (sym (length_cond (arc.launch && arc.to == pin) arc (rest_to pin))) ∙ so_far.1 pin h),
) where
  rest_to : ℕ → List LibArc
  rest_to pin = filter (λ (one : LibArc). one.launch && one.to == pin) rest

  within : (pin : ℕ) → pin < pins → pin < length old
  within pin h = let e = so_far.0 in omega (arith, e, h)

-- one arc further on in all arcs
pub counts_step : (old new : List ℕ) (pins at : ℕ) (d : LibArc) (arcs : List LibArc) → at < length arcs → CountsSoFar old pins (drop at arcs) arcs
    → new ≡ with_launch old (get_or arcs at d) → CountsSoFar new pins (drop (at + 1) arcs) arcs
counts_step old new pins at d arcs within so_far is =
    let rest_is = drop-cons arcs at d within ∙ ap (λ n. get_or arcs at d ∷ drop n arcs) (sym (add-one at)) in
    subst (λ counts. CountsSoFar counts pins (drop (at + 1) arcs) arcs) (sym is)
    (counts_more old pins (get_or arcs at d) (drop (at + 1) arcs) arcs (subst (λ rest. CountsSoFar old pins rest arcs) rest_is so_far))

pub counts_all : (counts : List ℕ) (pins : ℕ) (arcs : List LibArc) → CountsSoFar counts pins [] arcs → AreCounts counts pins arcs
counts_all counts pins arcs so_far =
    (so_far.0, λ pin h. ap (λ c. min 2 c) (added_none (get_or counts pin 0)) ∙ so_far.1 pin h) where
      added_none : (n : ℕ) → n ≡ n + 0
      added_none n = omega arith

beyond : (ds : List Direction) (place : ℕ) (d : Direction) → length ds ≤ place → get_or ds place d ≡ d
beyond [] place d h = refl
beyond (x ∷ ds) zero d h = absurd (omega arith)
beyond (x ∷ ds) (suc place) d h = beyond ds place d (omega arith)

mapped : (ps : List NamedPin) → length (map direction_of ps) ≡ length ps
mapped [] = refl
mapped (p ∷ ps) = let h = mapped ps in omega (arith, h)

at_step : (ps : List NamedPin) (counts : List ℕ) (n to : ℕ) (full : Bool) → length counts ≡ length ps → nat_le (length counts) to ≡ full
    → (to < length ps → min 2 (get_or counts to 0) ≡ min 2 n)
    → cond full false (is_output (direction_at ps to) && nat_lt 1 (get_or counts to 0)) ≡ (is_output (direction_at ps to) && nat_lt 1 n)
at_step ps counts n to true e f is =
    let h : length counts ≤ to = grind (arith, nat_tests) in
    let m = mapped ps in
    sym (ap (λ d. is_output d && nat_lt 1 n) (beyond (map direction_of ps) to direction.Other (omega (arith, m, e, h))))
at_step ps counts n to false e f is =
    let h : to < length counts = grind (arith, nat_tests) in
    ap (λ t. is_output (direction_at ps to) && t) (two_test (get_or counts to 0) n (is (omega (arith, e, h)))) where
      two_test : (c n : ℕ) → min 2 c ≡ min 2 n → nat_lt 1 c ≡ nat_lt 1 n
      two_test c n same = grind (arith, nat_tests)

any_same : (f g : LibArc → Bool) → ((x : LibArc) → f x ≡ g x) → (xs : List LibArc) → list_any f xs ≡ list_any g xs
any_same f g same [] = refl
any_same f g same (x ∷ xs) = ap (λ t. t || list_any f xs) (same x) ∙ ap (λ t. g x || t) (any_same f g same xs)

pub twice_same : (ps : List NamedPin) (counts : List ℕ) (arcs : List LibArc) → AreCounts counts (length ps) arcs
    → list_any (twice_at ps counts) arcs ≡ list_any (λ (arc : LibArc). is_output (direction_at ps arc.to) && is_launched_twice arcs arc.to) arcs
twice_same ps counts arcs are =
    any_same (twice_at ps counts) (λ (arc : LibArc). is_output (direction_at ps arc.to) && is_launched_twice arcs arc.to)
    (λ arc. at_step ps counts (launches_to arcs arc.to) arc.to (nat_le (length counts) arc.to) are.0 refl (are.1 arc.to)) arcs
