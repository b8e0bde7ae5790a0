use Rattle.std.proofs.Common.{length, ◌-◌}
use Rattle.text_model.specs.Bytes.{is_digit}
use Rattle.tcl_words.proofs.RunFacts.{RunTo}
use Rattle.tcl_eval.proofs.expressions.numbers.digits_end.Given as goal

abbrev pub invariant-loop-at : goal.invariant-loop-at
invariant-loop-at l = RunTo is_digit l.bytes l.from l.at

abbrev pub decreases-loop-at : goal.decreases-loop-at
decreases-loop-at l = length l.bytes - l.at
