use Rattle.std.proofs.Common.{length, ◌-◌}
use Rattle.tcl_words.proofs.CommandFacts.{CommandsSoFar}
use Rattle.tcl_words.proofs.reader.split.Given as goal

abbrev pub invariant-loop-commands : goal.invariant-loop-commands
invariant-loop-commands l = CommandsSoFar l.text l.at l.line l.commands

abbrev pub decreases-loop-commands : goal.decreases-loop-commands
decreases-loop-commands l = length l.text - l.at
