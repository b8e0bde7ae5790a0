-- The set has the names of the clocks so far.
use Rattle.std.proofs.Common.{take}
use Rattle.merge_model.specs.ClockIdentity.{names_of}
use Rattle.clock_map.specs.MergedClocks.{HaveSameNames}
use Rattle.clock_map.proofs.merged.own_names.Given as goal

abbrev pub invariant-loop-standing : goal.invariant-loop-standing
invariant-loop-standing l = HaveSameNames l.names.keys (names_of (take l.standing-index l.standings))
