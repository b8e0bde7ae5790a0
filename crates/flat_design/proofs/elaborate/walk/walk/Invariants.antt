-- The frames have the faults that are left, the modules that were walked have none.
use Rattle.flat_design.proofs.WalkSteps.{Walking, total, weight}
use Rattle.flat_design.proofs.elaborate.walk.walk.Given as goal

abbrev pub invariant-loop-frame : goal.invariant-loop-frame
invariant-loop-frame l = Walking l.all l.top l.marks.items l.order.items l.stack.items

abbrev pub decreases-loop-frame : goal.decreases-loop-frame
decreases-loop-frame l = total weight l.marks.items
