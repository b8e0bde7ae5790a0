use Rattle.std.proofs.Common.{◌≡◌, reverse, length}
use Rattle.tcl_eval.specs.ExpressionReading.{settled}
use Rattle.tcl_eval.proofs.expressions.waiting.settle.Given as goal

-- what is settled of the rest is what is settled of all
abbrev pub invariant-loop-step : goal.invariant-loop-step
invariant-loop-step l = settled l.next l.steps (reverse l.waits.items) ≡ settled l.next l.initial.steps (reverse l.initial.waits.items)

abbrev pub decreases-loop-step : goal.decreases-loop-step
decreases-loop-step l = length l.waits.items
