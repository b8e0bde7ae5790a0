-- The clocks so far are primary.
use Rattle.std.proofs.Common.{take}
use Rattle.merge_model.specs.PlainViews.{ArePrimary}
use Rattle.clock_map.proofs.plain_views.are_primary.Given as goal

abbrev pub invariant-loop-clock : goal.invariant-loop-clock
invariant-loop-clock l = ArePrimary (take l.clock-index l.clocks)
