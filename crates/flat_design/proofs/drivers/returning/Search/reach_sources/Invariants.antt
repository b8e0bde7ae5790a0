-- The sources that were passed are reached, and those before them are still to be.
use Rattle.flat_design.proofs.SearchFacts.{Reaching}
use Rattle.flat_design.proofs.drivers.returning.Search.reach_sources.Given as goal

abbrev pub invariant-loop-last : goal.invariant-loop-last
invariant-loop-last l = Reaching l.table.rows.now l.net l.wanted l.last l.found l.initial.self l.self

abbrev pub decreases-loop-last : goal.decreases-loop-last
decreases-loop-last l = l.last
