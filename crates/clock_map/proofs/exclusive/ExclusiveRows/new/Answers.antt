use Rattle.clock_map.proofs.TimingLists.{timings_fit}
use Rattle.clock_map.proofs.PairOrder.{rows_are_pairs}
use Rattle.clock_map.proofs.exclusive.ExclusiveRows.new.Goals as goal

pub invariant_of-result : goal.invariant_of-result
invariant_of-result c = timings_fit c.args.count c.args.modes.now c.args.maps.now c.in_ok-timings.timings.items c.in_ok-timings.ensures

pub returns : goal.returns
returns c = rows_are_pairs c.args.modes.now c.args.maps.now c.in_ok-timings.timings.items c.args.count c.in_ok-timings.ensures
