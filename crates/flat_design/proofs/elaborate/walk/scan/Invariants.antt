-- What stops the walk from here on is what stops it from the beginning on.
use Rattle.std.proofs.Common.{◌≡◌, drop}
use Rattle.flat_design.specs.Walk.{halt_from}
use Rattle.flat_design.proofs.elaborate.walk.scan.Given as goal

abbrev pub invariant-loop-instance : goal.invariant-loop-instance
invariant-loop-instance l = halt_from l.marks l.instance (drop l.instance l.steps) ≡ halt_from l.marks l.from (drop l.from l.steps)
