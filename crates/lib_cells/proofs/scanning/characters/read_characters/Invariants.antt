use Rattle.std.proofs.Common.{length}
use Rattle.lib_cells.proofs.CharacterFacts.{CharactersSoFar}
use Rattle.lib_cells.proofs.scanning.characters.read_characters.Given as goal

abbrev pub invariant-loop-rest : goal.invariant-loop-rest
invariant-loop-rest l = CharactersSoFar l.text l.rest l.line l.found

abbrev pub decreases-loop-rest : goal.decreases-loop-rest
decreases-loop-rest l = length l.rest
