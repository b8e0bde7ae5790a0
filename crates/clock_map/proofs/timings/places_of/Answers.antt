use Rattle.std.proofs.Common.{◌≡◌, ◌∙◌, ◌<◌, ◌≤◌, ◌+◌, ℕ, length, get_or, List, None, Some, replicate, rules, sym, ap, subst}
use Rattle.std.proofs.lemmas.List.{length-replicate, get_or-replicate}
use Rattle.std.specs.Prelude.{Option, slice_get}
use Rattle.std.proofs.lemmas.Option.{slice_get-get_or}
use Rattle.clock_map.proofs.PlaceLists.{PlacesSoFar, place_set, place_kept, no_places, places_done}
use Rattle.clock_map.proofs.timings.places_of.Goals as goal
use Rattle.clock_map.proofs.timings.places_of.Goals.{then-number-count, else-number-count}

pub loop-place-preserved : goal.loop-place-preserved
loop-place-preserved c =
    let numbers = c.args.numbers.now in
    let place = c.loop-place.place in
    let number = get_or c.as_slice-number-items.result.now place 0 in
    let items = c.as_slice-number-items.ensures in
    let within : place < length numbers = rw items at c.loop-place-test.true in
    let here : slice_get numbers place ≡ Some number = slice_get-get_or numbers place 0 within ∙ ap (λ ns. Some (get_or ns place 0)) (sym items) in
    elim c.if-number-count.branch [
      | then-number-count w ↦
          place_set c.args.count numbers place number c.loop-place.places.items c.if-number-count.places.items c.requires within here
          w.if-number-count.true (ap (λ v. v.items) w.places-is) c.loop-place.invariant
      | else-number-count w ↦
          subst (λ (ps : List (Option ℕ)). PlacesSoFar c.args.count numbers (place + 1) ps) (sym (ap (λ v. v.items) w.places-is))
          (place_kept c.args.count numbers place number c.loop-place.places.items here w.if-number-count.false c.loop-place.invariant)
    ]

pub loop-place-init : goal.loop-place-init
loop-place-init c =
    let none : c.in_ok-places.places.items ≡ replicate c.args.count None = c.in_ok-places.ensures.items_if_clones_equal (λ y same. search rules) in
    no_places c.args.count c.args.numbers.now c.in_ok-places.places.items
    (ap length none ∙ length-replicate c.args.count None)
    (λ k below. ap (λ ps. get_or ps k None) none ∙ get_or-replicate c.args.count k None None below)

pub returns : goal.returns
returns c =
    let done : length c.args.numbers.now ≤ c.loop-place.place = rw c.as_slice-number-items.ensures at c.loop-place-test.false in
    places_done c.args.count c.args.numbers.now c.loop-place.place c.loop-place.places.items done c.loop-place.invariant
