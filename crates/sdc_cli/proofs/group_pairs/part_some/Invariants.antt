use Rattle.std.proofs.Common.{take}
use Rattle.sdc_cli.specs.Exclusive.{HasMore, parts_some}
use Rattle.sdc_cli.proofs.group_pairs.part_some.Given as goal

-- the pairs with the clocks so far are added
abbrev pub invariant-loop-other : goal.invariant-loop-other
invariant-loop-other l = HasMore l.fn.pairs l.pairs (parts_some l.place (take l.other-index l.others))
