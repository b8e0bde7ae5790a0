-- The steps of the modules so far.
use Rattle.std.proofs.Common.{◌≡◌, map, take}
use Rattle.flat_design.specs.Steps.{steps_in}
use Rattle.flat_design.proofs.elaborate.steps.all_steps.Given as goal

abbrev pub invariant-loop-body : goal.invariant-loop-body
invariant-loop-body l = l.all ≡ map (steps_in l.tables.modules.now l.tables.library.now) (take l.body-index l.tables.modules.now)
