use Rattle.std.proofs.Common.{length, ◌-◌}
use Rattle.tcl_words.proofs.TakenFacts.{WrittenTo}
use Rattle.tcl_words.proofs.list_making.push_taken.Given as goal

abbrev pub invariant-loop-at : goal.invariant-loop-at
invariant-loop-at l = WrittenTo l.fn.made l.item l.at l.made

abbrev pub decreases-loop-at : goal.decreases-loop-at
decreases-loop-at l = length l.item - l.at
