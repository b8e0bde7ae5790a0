use Rattle.std.proofs.Common.{length, ◌-◌}
use Rattle.text_model.specs.Continued.{comment, from_command}
use Rattle.tcl_words.specs.Spans.{Moves}
use Rattle.tcl_words.proofs.between.comment_end.Given as goal

abbrev pub invariant-loop-at : goal.invariant-loop-at
invariant-loop-at l = Moves (from_command comment) (from_command comment) l.bytes l.from l.at

abbrev pub decreases-loop-at : goal.decreases-loop-at
decreases-loop-at l = length l.bytes - l.at
