use Rattle.std.proofs.Common.{length, ◌-◌}
use Rattle.tcl_eval.proofs.TokenFacts.{PassedTo}
use Rattle.tcl_eval.proofs.expressions.tokens.token_start.Given as goal

abbrev pub invariant-loop-at : goal.invariant-loop-at
invariant-loop-at l = PassedTo l.bytes l.from l.at

abbrev pub decreases-loop-at : goal.decreases-loop-at
decreases-loop-at l = length l.bytes - l.at
