use Rattle.std.proofs.Common.{◌≡◌, ◌||◌, drop}
use Rattle.timing_types.specs.declared.clocks.Pair.{Pair}
use Rattle.mode_model.specs.ClockGroups.{all_set_apart}
use Rattle.sdc_cli.specs.Exclusive.{has_pair, parts_in}
use Rattle.sdc_cli.proofs.group_pairs.pairs_of_groups.Given as goal

-- the pairs so far and those of the commands that are left are those of all commands
abbrev pub invariant-loop-groups : goal.invariant-loop-groups
invariant-loop-groups l =
    (pair : Pair) → (has_pair l.pairs pair || parts_in (all_set_apart l.count (drop l.groups-index l.commands)) pair) ≡ parts_in (all_set_apart l.count l.commands) pair
