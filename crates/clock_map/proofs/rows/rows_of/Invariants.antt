-- The rows so far and the numbers that are left are all numbers, and the modes that are left have so many clocks.
use Rattle.clock_map.proofs.RowLists.{RowsSoFar}
use Rattle.clock_map.proofs.rows.rows_of.Given as goal

abbrev pub invariant-loop-view : goal.invariant-loop-view
invariant-loop-view l = RowsSoFar l.view-items l.numbers l.at l.view-index l.rows
