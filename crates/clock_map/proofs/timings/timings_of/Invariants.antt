-- What is kept of the modes so far.
use Rattle.std.proofs.Common.{take}
use Rattle.clock_map.specs.Timings.{AreTimings}
use Rattle.clock_map.proofs.timings.timings_of.Given as goal

abbrev pub invariant-loop-at : goal.invariant-loop-at
invariant-loop-at l = AreTimings l.count (take l.at l.modes) (take l.at l.maps-2) l.timings.items
