-- What was found of the first modes, and what is left of the others, is all.
use Rattle.clock_map.proofs.ClockLists.{ClocksSoFar}
use Rattle.clock_map.proofs.all_clocks.all_clocks.Given as goal

abbrev pub invariant-loop-view : goal.invariant-loop-view
invariant-loop-view l = ClocksSoFar l.modes l.view-index l.standings l.identities
