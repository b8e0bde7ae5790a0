-- The steps of the instances so far.
use Rattle.std.proofs.Common.{◌≡◌, map, take}
use Rattle.flat_design.specs.Steps.{step_of}
use Rattle.flat_design.proofs.elaborate.steps.steps_in.Given as goal

abbrev pub invariant-loop-instance : goal.invariant-loop-instance
invariant-loop-instance l = l.steps ≡ map (step_of l.tables.modules.now l.tables.library.now) (take l.instance-index l.body.instances)
