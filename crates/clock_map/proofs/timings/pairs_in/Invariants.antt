-- The set holds the pairs so far.
use Rattle.std.proofs.Common.{take}
use Rattle.clock_map.specs.Timings.{HoldsPairs}
use Rattle.clock_map.proofs.timings.pairs_in.Given as goal

abbrev pub invariant-loop-pair : goal.invariant-loop-pair
invariant-loop-pair l = HoldsPairs (take l.pair-index l.pairs) l.set.keys
