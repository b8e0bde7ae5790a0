use Rattle.std.proofs.Common.{length, ◌-◌}
use Rattle.text_model.specs.Continued.{from_command, parting}
use Rattle.tcl_words.proofs.GapFacts.{Reached}
use Rattle.tcl_words.proofs.between.command_start.Given as goal

abbrev pub invariant-loop-at : goal.invariant-loop-at
invariant-loop-at l = Reached (from_command parting) l.bytes l.from l.at

abbrev pub decreases-loop-at : goal.decreases-loop-at
decreases-loop-at l = length l.bytes - l.at
