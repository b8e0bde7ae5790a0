-- The items that were taken stand after those that were there.
use Rattle.std.proofs.Common.{◌≡◌, ◌++◌}
use Rattle.clock_map.proofs.all_clocks.append.Given as goal

abbrev pub invariant-loop-item : goal.invariant-loop-item
invariant-loop-item g l = l.list ≡ l.initial.list ++ l.yielded
