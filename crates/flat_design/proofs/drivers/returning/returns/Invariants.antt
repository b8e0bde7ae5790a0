-- What was reached is led to, and what is not left has its sources reached.
use Rattle.std.proofs.Common.{length}
use Rattle.flat_design.specs.Searches.{to_search}
use Rattle.flat_design.proofs.SearchSteps.{Searching}
use Rattle.flat_design.proofs.drivers.returning.returns.Given as goal

abbrev pub invariant-loop-from : goal.invariant-loop-from
invariant-loop-from l = Searching l.table.rows.now (length l.table.last) l.net l.search

abbrev pub decreases-loop-from : goal.decreases-loop-from
decreases-loop-from l = to_search l.search
