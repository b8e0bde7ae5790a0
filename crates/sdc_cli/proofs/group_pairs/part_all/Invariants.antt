use Rattle.std.proofs.Common.{take}
use Rattle.sdc_cli.specs.Exclusive.{HasMore, parts_any}
use Rattle.sdc_cli.proofs.group_pairs.part_all.Given as goal

-- the pairs of the clocks so far are added
abbrev pub invariant-loop-place : goal.invariant-loop-place
invariant-loop-place l = HasMore l.fn.pairs l.pairs (parts_any (take l.place-index l.first) l.second)
