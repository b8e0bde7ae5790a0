use Rattle.std.proofs.Common.{drop}
use Rattle.mode_model.specs.ClockGroups.{every_two}
use Rattle.sdc_cli.proofs.GroupSteps.{Leads}
use Rattle.sdc_cli.proofs.group_pairs.part_every_two.Given as goal

-- the pairs so far and those of the groups that are left are those of all groups
abbrev pub invariant-loop-at : goal.invariant-loop-at
invariant-loop-at l = Leads l.pairs (every_two (drop l.at l.groups)) l.fn.pairs (every_two l.groups)
