use Rattle.std.proofs.Common.{◌<◌, ◌≤◌, List, ℕ, length, arith, sym, subst}
use Rattle.constraint_model.specs.ListOrder.{HasEachOnce}
use Rattle.clock_map.specs.Timings.{ArePlaces}
use Rattle.clock_map.proofs.TimingLists.{distinct_at, timings_step, timings_done}
use Rattle.clock_map.proofs.timings.timings_of.Goals as goal

pub places_of-requires : goal.places_of-requires
places_of-requires c =
    let at = c.loop-at.at in
    let beside = c.requires.beside in
    let within : at < length c.args.modes.now = rw c.as_slice-view-items.ensures at c.loop-at-test.true in
    subst HasEachOnce (sym c.in_ok-numbers.ensures)
    (distinct_at c.args.maps.now at c.index-maps-at.result c.requires.apart (omega arith) (rw c.as_slice-maps.ensures at c.index-maps-at.is))

pub loop-at-preserved : goal.loop-at-preserved
loop-at-preserved c =
    let views = c.as_slice-view-items.ensures in
    let places : ArePlaces c.args.count c.index-maps-at.result c.in_ok-places.places.items =
    subst (λ (ns : List ℕ). ArePlaces c.args.count ns c.in_ok-places.places.items) c.in_ok-numbers.ensures c.in_ok-places.ensures in
    timings_step c.args.count c.args.modes.now c.args.maps.now c.loop-at.at c.loop-at.timings.items c.push.new.self.items
    c.view-item.result c.index-maps-at.result
    (record { places = c.in_ok-places.places; numbers = c.in_ok-numbers.numbers; exclusive = c.in_ok-exclusive.exclusive })
    c.requires.beside (rw views at c.loop-at-test.true) (rw views at c.view-item.is) (rw c.as_slice-maps.ensures at c.index-maps-at.is)
    c.in_ok-numbers.ensures places c.in_ok-exclusive.ensures c.in_ok-push.ensures.items c.loop-at.invariant

pub returns : goal.returns
returns c =
    let done : length c.args.modes.now ≤ c.loop-at.at = rw c.as_slice-view-items.ensures at c.loop-at-test.false in
    timings_done c.args.count c.args.modes.now c.args.maps.now c.loop-at.at c.loop-at.timings.items c.requires.beside done c.loop-at.invariant
