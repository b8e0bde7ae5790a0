-- The pairs so far, and the rows of the merged clocks that are left, are all.
use Rattle.std.proofs.Common.{◌≡◌, ◌++◌, ◌-◌}
use Rattle.clock_map.specs.Timings.{rows_from}
use Rattle.clock_map.proofs.exclusive.ExclusiveRows.all.Given as goal

abbrev pub invariant-loop-first : goal.invariant-loop-first
invariant-loop-first l =
    l.pairs ++ rows_from l.self-inside.timings.items l.self-inside.count l.first (l.self-inside.count - l.first)
    ≡ rows_from l.self-inside.timings.items l.self-inside.count 0 l.self-inside.count
