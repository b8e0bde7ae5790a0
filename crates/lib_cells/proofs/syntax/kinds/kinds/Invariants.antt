use Rattle.lib_cells.proofs.KindFacts.{KindsSoFar}
use Rattle.lib_cells.proofs.syntax.kinds.kinds.Given as goal

abbrev pub invariant-loop-token : goal.invariant-loop-token
invariant-loop-token l = KindsSoFar l.tokens l.token-index l.found.items l.level
