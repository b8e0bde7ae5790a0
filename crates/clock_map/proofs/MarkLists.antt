-- The merged clocks of a mode that are marked once all of its clocks were looked at: those that it times with one of
-- them.
use Rattle.std.proofs.Common.{◌≡◌, ℕ, ◌<◌, ◌≤◌, Bool, true, false, not, List, length, get_or, Option, Some, None, refl, sym, ap, ◌∙◌, arith, min, max}
use Rattle.std.specs.Prelude.{◌&&◌, ◌||◌, nat_lt}
use Rattle.std.specs.List.{list_any}
use Rattle.std.proofs.lemmas.Bool.Decides.{nat_tests}
use Rattle.std.proofs.lemmas.Option.{slice_get_within}
use Rattle.clock_map.specs.declared.timings.Timing.{Timing}
use Rattle.clock_map.specs.Timings.{same_pair, FitsClocks, Marks, lets_at, lets_time}

-- the clock at a place of a mode is one of the first ones, and is timed with the one at another
abbrev pub lets_before : ℕ → List (ℕ × ℕ) → ℕ → Option ℕ → Bool
lets_before i keys a None = false
lets_before i keys a (Some b) = nat_lt b i && not (list_any (same_pair (min a b, max a b)) keys)

all_before : (i a : ℕ) (keys : List (ℕ × ℕ)) (o : Option ℕ) → ((place : ℕ) → o ≡ Some place → place < i)
    → lets_before i keys a o ≡ lets_at keys (Some a) o
all_before i a keys None below = refl
all_before i a keys (Some b) below =
    let less : b < i = below b refl in
    let t : nat_lt b i ≡ true = grind (arith, nat_tests) in
    ap (λ u. u && not (list_any (same_pair (min a b, max a b)) keys)) t

pub marks_done : (first i a : ℕ) (timing : Timing) (start after : List Bool) → FitsClocks (length start) timing → length timing.numbers ≤ i
    → get_or timing.places.items first None ≡ Some a
    → Marks first (λ k. lets_before i timing.exclusive.keys a (get_or timing.places.items k None)) start after
    → Marks first (λ k. lets_time first k timing) start after
marks_done first i a timing start after fits done is known = (
  known.0,
  λ k rest within.
      let place : Option ℕ = get_or timing.places.items k None in
      known.1 k rest within
      ∙ ap (λ u. get_or start k false || u)
      (all_before i a timing.exclusive.keys place
      (λ p e. let below = slice_get_within timing.numbers p k ((fits.1 k p within).0 e) in omega arith)
      ∙ ap (λ o. lets_at timing.exclusive.keys o place) (sym is)),
)
