-- The modes so far are plain, and so many clocks can still be numbered.
use Rattle.clock_map.proofs.PlainLists.{PlainSoFar}
use Rattle.clock_map.proofs.plain_views.are_plain.Given as goal

abbrev pub invariant-loop-view : goal.invariant-loop-view
invariant-loop-view l = PlainSoFar l.modes l.view-index l.left
