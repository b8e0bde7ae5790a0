use Rattle.std.proofs.Common.{length, ◌-◌}
use Rattle.tcl_words.proofs.PieceRows.{PiecesSoFar}
use Rattle.tcl_words.proofs.spelled.pieces_at.Given as goal

abbrev pub invariant-loop-gathered : goal.invariant-loop-gathered
invariant-loop-gathered l = PiecesSoFar l.form l.text l.from l.at l.gathered

abbrev pub decreases-loop-gathered : goal.decreases-loop-gathered
decreases-loop-gathered l = length l.text - l.at
