use Rattle.std.proofs.Common.{length, ◌-◌}
use Rattle.tcl_words.proofs.ListFacts.{ItemsSoFar}
use Rattle.tcl_words.proofs.lists.list_items.Given as goal

abbrev pub invariant-loop-bytes : goal.invariant-loop-bytes
invariant-loop-bytes l = ItemsSoFar l.text l.at l.items

abbrev pub decreases-loop-bytes : goal.decreases-loop-bytes
decreases-loop-bytes l = length l.text - l.at
