-- The size so far, with what the instances from here on add, is the size of all.
use Rattle.std.proofs.Common.{◌≡◌, drop}
use Rattle.flat_design.specs.Sizes.{module_size, with_steps}
use Rattle.flat_design.proofs.elaborate.sizes.module_size.Given as goal

abbrev pub invariant-loop-step : goal.invariant-loop-step
invariant-loop-step l = with_steps l.library l.sizes l.size (drop l.step-index l.steps) ≡ module_size l.library l.sizes l.nets l.steps
