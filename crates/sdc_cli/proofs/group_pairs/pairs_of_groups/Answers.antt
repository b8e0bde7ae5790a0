use Rattle.std.proofs.lemmas.List.{drop_all}
use Rattle.tcl_eval.proofs.RunStepFacts.{drop_item}
use Rattle.sdc_cli.proofs.ExclusiveSteps.{exclusive_answer}
use Rattle.sdc_cli.proofs.GroupSteps.{leads_end, leads_step}
use Rattle.sdc_cli.proofs.group_pairs.pairs_of_groups.Goals as goal

pub loop-groups-preserved : goal.loop-groups-preserved
loop-groups-preserved c =
    let here = drop_item c.args.commands.now c.loop-groups.groups-index _ c.loop-groups-test.true c.groups-item.is in
    leads_step _ _ c.args.count _ _ _ c.args.commands.now here (rw c.as_slice.ensures at c.in_ok-part_groups.ensures) c.loop-groups.invariant

pub returns : goal.returns
returns c =
    exclusive_answer c.list_of.result c.loop-groups.pairs.keys c.args.count c.args.commands.now c.list_of.ensures.pairs c.list_of.ensures.rising
    (leads_end c.loop-groups.pairs c.args.count c.args.commands.now _ (drop_all c.loop-groups.groups-index c.args.commands.now c.loop-groups-test.false) c.loop-groups.invariant)
