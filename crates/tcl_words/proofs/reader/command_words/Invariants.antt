use Rattle.std.proofs.Common.{length, ◌-◌}
use Rattle.tcl_words.proofs.CommandFacts.{WordsSoFar}
use Rattle.tcl_words.proofs.reader.command_words.Given as goal

abbrev pub invariant-loop-bytes : goal.invariant-loop-bytes
invariant-loop-bytes l = WordsSoFar l.text l.from l.at l.words

abbrev pub decreases-loop-bytes : goal.decreases-loop-bytes
decreases-loop-bytes l = length l.text - l.at
