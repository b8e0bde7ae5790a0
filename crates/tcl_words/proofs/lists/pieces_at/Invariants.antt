use Rattle.std.proofs.Common.{length, ◌-◌}
use Rattle.tcl_words.proofs.ItemRows.{ItemSoFar}
use Rattle.tcl_words.proofs.lists.pieces_at.Given as goal

abbrev pub invariant-loop-item : goal.invariant-loop-item
invariant-loop-item l = ItemSoFar l.form l.text l.from l.at l.item

abbrev pub decreases-loop-item : goal.decreases-loop-item
decreases-loop-item l = length l.text - l.at
