use Rattle.std.proofs.Common.{length, ◌-◌}
use Rattle.tcl_words.specs.Taken.{untaken}
use Rattle.tcl_words.proofs.RunFacts.{RunTo}
use Rattle.tcl_words.proofs.list_making.untaken_end.Given as goal

abbrev pub invariant-loop-at : goal.invariant-loop-at
invariant-loop-at l = RunTo untaken l.bytes l.from l.at

abbrev pub decreases-loop-at : goal.decreases-loop-at
decreases-loop-at l = length l.bytes - l.at
