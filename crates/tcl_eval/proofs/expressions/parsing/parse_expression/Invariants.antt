use Rattle.std.proofs.Common.{length, ◌-◌}
use Rattle.tcl_eval.proofs.ParseFacts.{ParsedSoFar}
use Rattle.tcl_eval.proofs.expressions.parsing.parse_expression.Given as goal

abbrev pub invariant-loop-reading : goal.invariant-loop-reading
invariant-loop-reading l = ParsedSoFar l.text l.at l.reading

abbrev pub decreases-loop-reading : goal.decreases-loop-reading
decreases-loop-reading l = length l.text - l.at
