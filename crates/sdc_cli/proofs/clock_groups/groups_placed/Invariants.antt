use Rattle.std.proofs.Common.{◌≡◌, ◌++◌, drop, Some}
use Rattle.std.specs.Option.{option_and_then}
use Rattle.mode_model.specs.ClockCommands.{groups_placed}
use Rattle.sdc_cli.proofs.clock_groups.groups_placed.Given as goal

-- the groups so far and those that are left are all groups
abbrev pub invariant-loop-group : goal.invariant-loop-group
invariant-loop-group l =
    option_and_then (λ others. Some (l.placed ++ others)) (groups_placed l.clocks (drop l.group-index l.groups)) ≡ groups_placed l.clocks l.groups
