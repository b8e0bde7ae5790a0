-- The components stay, and less and less is to be followed.
use Rattle.flat_design.specs.Cycles.{AreComponentsOf, to_follow}
use Rattle.flat_design.proofs.drivers.cycles.Components.visit.Given as goal

abbrev pub invariant-loop-at : goal.invariant-loop-at
invariant-loop-at l = AreComponentsOf l.table l.self

abbrev pub decreases-loop-at : goal.decreases-loop-at
decreases-loop-at l = to_follow l.self
