-- The connections from here on fit where all do.
use Rattle.std.proofs.Common.{◌≡◌, drop}
use Rattle.flat_design.specs.Fitting.{fit_from}
use Rattle.flat_design.proofs.elaborate.connections.fit_in_order.Given as goal

abbrev pub invariant-loop-place : goal.invariant-loop-place
invariant-loop-place l = fit_from l.widths l.place (drop l.place l.connections) ≡ fit_from l.widths 0 l.connections
