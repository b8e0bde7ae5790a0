use Rattle.std.proofs.Common.{◌≡◌, ◌++◌, ◌-◌}
use Rattle.mode_model.specs.ClockGroups.{others_from}
use Rattle.sdc_cli.proofs.group_pairs.others_of.Given as goal

-- the places so far and those that are left are all of them
abbrev pub invariant-loop-place : goal.invariant-loop-place
invariant-loop-place l = l.others.items ++ others_from l.group l.place (l.count - l.place) ≡ others_from l.group 0 l.count
