use Rattle.std.proofs.lemmas.Result.{on_ok_weaker}
use Rattle.sdc_cli.proofs.GroupSteps.{alone_parts, one_item, several_part}
use Rattle.sdc_cli.proofs.group_pairs.part_groups.Goals as goal

pub returns-in-len1 : goal.returns-in-len1
returns-in-len1 c =
    let only = one_item c.args.groups.now _ c.in-len1.len_at_least c.in-len1.len_below c.alone-item.is in
    on_ok_weaker c.part_alone.result (alone_parts c.args.pairs.now c.part_alone.new.pairs c.args.count c.args.groups.now _ only)
    (rw c.as_slice.ensures at c.part_alone.ensures)

pub returns-in-len2-up : goal.returns-in-len2-up
returns-in-len2-up c =
    on_ok_weaker c.part_every_two.result (several_part c.args.pairs.now c.part_every_two.new.pairs c.args.count c.args.groups.now c.in-len2-up.len_at_least)
    c.part_every_two.ensures
