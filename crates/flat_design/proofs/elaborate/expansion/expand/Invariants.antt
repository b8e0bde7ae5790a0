-- The rows have what was seen, and the modules that are being expanded have the rest.
use Rattle.flat_design.proofs.ExpansionEnds.{rows_left}
use Rattle.flat_design.proofs.ExpansionSteps.{Expanding}
use Rattle.flat_design.proofs.elaborate.expansion.expand.Given as goal

abbrev pub invariant-loop-frame : goal.invariant-loop-frame
invariant-loop-frame l = Expanding l.modules l.library l.body l.elaboration l.stack.items

abbrev pub decreases-loop-frame : goal.decreases-loop-frame
decreases-loop-frame l = rows_left l.modules l.body l.elaboration l.stack.items
