-- The standings so far and those of the clocks that are left are all.
use Rattle.clock_map.proofs.StandingLists.{StandingsSoFar}
use Rattle.clock_map.proofs.standings.mode_standings.Given as goal

abbrev pub invariant-loop-place : goal.invariant-loop-place
invariant-loop-place l = StandingsSoFar l.view l.place l.standings
