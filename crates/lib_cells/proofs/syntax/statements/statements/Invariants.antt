use Rattle.std.proofs.Common.{length, ◌-◌}
use Rattle.lib_cells.proofs.StatementFacts.{StatementsSoFar}
use Rattle.lib_cells.proofs.syntax.statements.statements.Given as goal

abbrev pub invariant-loop-start : goal.invariant-loop-start
invariant-loop-start l = StatementsSoFar l.tokens l.found.items l.start

abbrev pub decreases-loop-start : goal.decreases-loop-start
decreases-loop-start l = length l.tokens - l.start.at
