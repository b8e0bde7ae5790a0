use Rattle.std.proofs.Common.{take}
use Rattle.sdc_cli.specs.Exclusive.{HasMore, parts_each}
use Rattle.sdc_cli.proofs.group_pairs.part_each.Given as goal

-- the pairs with the groups so far are added
abbrev pub invariant-loop-other : goal.invariant-loop-other
invariant-loop-other l = HasMore l.fn.pairs l.pairs (parts_each l.group (take l.other-index l.others))
