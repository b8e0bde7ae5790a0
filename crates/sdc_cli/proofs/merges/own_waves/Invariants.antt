use Rattle.std.proofs.Common.{◌≡◌, ◌++◌, drop}
use Rattle.merge_model.specs.PlainViews.{own_waves}
use Rattle.sdc_cli.proofs.merges.own_waves.Given as goal

-- the waves so far and those of the clocks that are left are those of all clocks
abbrev pub invariant-loop-clock : goal.invariant-loop-clock
invariant-loop-clock l = l.waves ++ own_waves (drop l.clock-index l.clocks) ≡ own_waves l.clocks
