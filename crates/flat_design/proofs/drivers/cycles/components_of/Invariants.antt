-- The components of the nets so far.
use Rattle.flat_design.specs.Cycles.{AreComponentsOf}
use Rattle.flat_design.proofs.drivers.cycles.components_of.Given as goal

abbrev pub invariant-loop-net : goal.invariant-loop-net
invariant-loop-net l = AreComponentsOf l.table l.components
