-- The connections from here on fit where all do.
use Rattle.std.proofs.Common.{◌≡◌, drop}
use Rattle.flat_design.specs.Fitting.{named_by}
use Rattle.flat_design.proofs.elaborate.connections.fit_by_name.Given as goal

abbrev pub invariant-loop-at : goal.invariant-loop-at
invariant-loop-at l = named_by l.names l.terminals l.widths l.at (drop l.at l.links) ≡ named_by l.names l.terminals l.widths 0 l.links
