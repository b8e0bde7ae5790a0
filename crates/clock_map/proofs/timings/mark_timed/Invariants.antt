-- The clocks of the mode so far are marked.
use Rattle.std.proofs.Common.{get_or, None}
use Rattle.clock_map.specs.Timings.{Marks}
use Rattle.clock_map.proofs.MarkLists.{lets_before}
use Rattle.clock_map.proofs.timings.mark_timed.Given as goal

abbrev pub invariant-loop-other : goal.invariant-loop-other
invariant-loop-other l =
    Marks l.first (λ k. lets_before l.other l.timing.exclusive.keys l.place (get_or l.timing.places.items k None)) l.initial.timed l.timed
