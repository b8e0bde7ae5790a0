-- The pairs so far, and those of the merged clocks that are left, are those of all.
use Rattle.std.proofs.Common.{◌≡◌, ◌++◌, ◌+◌, ◌-◌}
use Rattle.clock_map.specs.Timings.{others_from}
use Rattle.clock_map.proofs.exclusive.add_others.Given as goal

abbrev pub invariant-loop-second : goal.invariant-loop-second
invariant-loop-second l =
    l.pairs ++ others_from l.timed l.first l.second (l.count - l.second)
    ≡ l.initial.pairs ++ others_from l.timed l.first (l.first + 1) (l.count - (l.first + 1))
