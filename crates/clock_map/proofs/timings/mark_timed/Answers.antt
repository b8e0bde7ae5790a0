use Rattle.std.proofs.Common.{◌≡◌, ◌∙◌, ◌<◌, ◌≤◌, length, get_or, None, Some, sym, arith}
use Rattle.std.proofs.lemmas.List.{get_or_default}
use Rattle.clock_map.proofs.MarkLists.{marks_done}
use Rattle.clock_map.proofs.timings.mark_timed.Goals as goal

pub returns : goal.returns
returns c =
    let timing = c.args.timing.now in
    let done : length timing.numbers ≤ c.loop-other.other = rw c.as_slice-number-items.ensures at c.loop-other-test.false in
    let long : length timing.places.items ≡ length c.args.timed.now = c.requires.fits.0 in
    let within : c.args.first < length timing.places.items = omega (arith, long, c.requires.within) in
    let is : get_or timing.places.items c.args.first None ≡ Some c.in-Some.place =
    get_or_default timing.places.items c.args.first None c.index.result.now within ∙ sym c.index.ensures ∙ c.in-Some.is in
    marks_done c.args.first c.loop-other.other c.in-Some.place timing c.args.timed.now c.loop-other.timed c.requires.fits done is c.loop-other.invariant
