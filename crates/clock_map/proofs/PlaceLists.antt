-- Where each merged clock stands in a mode.
use Rattle.std.proofs.Common.{◌≡◌, ◌≢◌, ℕ, ◌+◌, ◌<◌, ◌≤◌, List, length, get_or, set, Option, Some, None, sym, ap, ◌∙◌, inl, inr, arith, get_or-set_same, get_or-set_other}
use Rattle.std.specs.Prelude.{◌↔◌, slice_get}
use Rattle.std.proofs.lemmas.Bool.{cases_eq, cases_lt}
use Rattle.std.proofs.lemmas.List.{length-set}
use Rattle.std.proofs.lemmas.Option.{same_Some, slice_get_within}
use Rattle.constraint_model.specs.ListOrder.{HasEachOnce}
use Rattle.clock_map.specs.Timings.{ArePlaces}

-- the merged clocks of the clocks so far have their places
pub record PlacesSoFar (count : ℕ) (numbers : List ℕ) (i : ℕ) (places : List (Option ℕ)) : Type 0 where
  pub long : length places ≡ count
  pub at : (k place : ℕ) → k < count → (get_or places k None ≡ Some place) ↔ ((place < i) × (slice_get numbers place ≡ Some k))

pub place_set : (count : ℕ) (numbers : List ℕ) (i number : ℕ) (places places' : List (Option ℕ)) → HasEachOnce numbers → i < length numbers → slice_get numbers i ≡ Some number
    → number < count → places' ≡ set places number (Some i) → PlacesSoFar count numbers i places → PlacesSoFar count numbers (i + 1) places'
place_set count numbers i number places places' apart within here known places_is so_far = record {
  long = ap length places_is ∙ length-set places number (Some i) ∙ so_far.long;
  at = λ k place below. elim (cases_eq k number) [
    | inl same ↦
        let long = so_far.long in
        let within' : number < length places = omega arith in
        let written : get_or places' k None ≡ Some i = ap (λ ps. get_or ps k None) places_is ∙ ap (λ n. get_or (set places number (Some i)) n None) same ∙ get_or-set_same places number (Some i) None within' in (
          λ e. let is : i ≡ place = same_Some i place (sym written ∙ e) in
              (omega arith, ap (slice_get numbers) (sym is) ∙ here ∙ ap Some (sym same)),
          λ h. let is : i ≡ place = apart i place number here (h.1 ∙ ap Some same) in written ∙ ap Some is,
        )
    | inr other ↦
        let kept : get_or places' k None ≡ get_or places k None = ap (λ ps. get_or ps k None) places_is ∙ get_or-set_other places number k (Some i) None other in (
          λ e. let old = (so_far.at k place below).0 (sym kept ∙ e) in (omega (arith, old.0), old.1),
          λ h. kept ∙ (so_far.at k place below).1 (before k place other h, h.1),
        )
  ];
} where
  before : (k place : ℕ) → k ≢ number → (place < i + 1) × (slice_get numbers place ≡ Some k) → place < i
  before k place other h = elim (cases_lt place i) [
    | inl less ↦ less
    | inr more ↦
        let is : i ≡ place = omega (arith, h.0) in
        absurd (other (same_Some k number (sym h.1 ∙ ap (slice_get numbers) (sym is) ∙ here)))
  ]

pub place_kept : (count : ℕ) (numbers : List ℕ) (i number : ℕ) (places : List (Option ℕ)) → slice_get numbers i ≡ Some number → count ≤ number
    → PlacesSoFar count numbers i places → PlacesSoFar count numbers (i + 1) places
place_kept count numbers i number places here past so_far = record {
  long = so_far.long;
  at = λ k place below. (
    λ e. let old = (so_far.at k place below).0 e in (omega (arith, old.0), old.1),
    λ h. (so_far.at k place below).1 (before k place below h, h.1),
  );
} where
  before : (k place : ℕ) → k < count → (place < i + 1) × (slice_get numbers place ≡ Some k) → place < i
  before k place below h = elim (cases_lt place i) [
    | inl less ↦ less
    | inr more ↦
        let is : i ≡ place = omega (arith, h.0) in
        let same : Some number ≡ Some k = sym here ∙ ap (slice_get numbers) is ∙ h.1 in
        let equal : number ≡ k = cc in
        absurd (omega arith)
  ]

pub no_places : (count : ℕ) (numbers : List ℕ) (places : List (Option ℕ)) → length places ≡ count → ((k : ℕ) → k < count → get_or places k None ≡ None) → PlacesSoFar count numbers 0 places
no_places count numbers places long empty = record {
  long = long;
  at = λ k place below. (λ e. let none : None ≡ Some place = sym (empty k below) ∙ e in cc, λ h. absurd (omega (arith, h.0)));
}

pub places_done : (count : ℕ) (numbers : List ℕ) (i : ℕ) (places : List (Option ℕ)) → length numbers ≤ i → PlacesSoFar count numbers i places → ArePlaces count numbers places
places_done count numbers i places done so_far = (
  so_far.long,
  λ k place below. (
    (λ e. ((so_far.at k place below).0 e).1),
    (λ h. let within = slice_get_within numbers place k h in (so_far.at k place below).1 (omega arith, h)),
  ),
)
