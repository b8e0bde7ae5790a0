use Rattle.std.proofs.Common.{drop}
use Rattle.bool_lanes.proofs.NameFacts.{SetSoFar}
use Rattle.bool_lanes.proofs.names.set_of.Given as goal

abbrev pub invariant-loop-name : goal.invariant-loop-name
invariant-loop-name l = SetSoFar l.set (drop l.name-index l.names) l.names
