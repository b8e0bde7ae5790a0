-- The flags say what the modes so far say.
use Rattle.std.proofs.Common.{take}
use Rattle.std.specs.List.{list_any}
use Rattle.clock_map.specs.Timings.{AreFlags, lets_time}
use Rattle.clock_map.proofs.timings.timed_with.Given as goal

abbrev pub invariant-loop-timing : goal.invariant-loop-timing
invariant-loop-timing l = AreFlags l.count l.first (λ k. list_any (lets_time l.first k) (take l.timing-index l.timings)) l.timed.items
