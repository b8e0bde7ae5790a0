use Rattle.std.proofs.Common.{false, length, ◌-◌}
use Rattle.text_model.specs.Continued.{after_gap}
use Rattle.tcl_words.proofs.GapFacts.{Reached}
use Rattle.tcl_words.proofs.between.gap_end.Given as goal

abbrev pub invariant-loop-at : goal.invariant-loop-at
invariant-loop-at l = Reached (after_gap false) l.bytes l.from l.at

abbrev pub decreases-loop-at : goal.decreases-loop-at
decreases-loop-at l = length l.bytes - l.at
