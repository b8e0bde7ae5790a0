use Rattle.std.proofs.Common.{length, ◌-◌}
use Rattle.lib_cells.specs.Starts.{place_seen}
use Rattle.lib_cells.proofs.StartFacts.{StartSoFar}
use Rattle.lib_cells.proofs.syntax.statements.next_start.Given as goal

abbrev pub invariant-loop-start : goal.invariant-loop-start
invariant-loop-start l = StartSoFar l.tokens l.from (place_seen l.fn.place) l.start

abbrev pub decreases-loop-start : goal.decreases-loop-start
decreases-loop-start l = length l.tokens - l.start.at
