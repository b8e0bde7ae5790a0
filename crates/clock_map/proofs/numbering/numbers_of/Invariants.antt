-- The identities so far have their numbers, and the map knows them.
use Rattle.std.proofs.Common.{take}
use Rattle.clock_map.proofs.NumberLists.{Knows}
use Rattle.clock_map.proofs.numbering.numbers_of.Given as goal

abbrev pub invariant-loop-identity : goal.invariant-loop-identity
invariant-loop-identity l = Knows l.known (take l.identity-index l.identities) l.numbers
