use Rattle.std.proofs.lemmas.List.{drop_all}
use Rattle.mode_model.specs.ClockGroups.{every_two}
use Rattle.tcl_eval.proofs.RunStepFacts.{drop_item}
use Rattle.sdc_cli.proofs.GroupSteps.{leads_group, leads_through}
use Rattle.sdc_cli.proofs.group_pairs.part_every_two.Goals as goal

pub loop-at-preserved : goal.loop-at-preserved
loop-at-preserved c =
    let here = drop_item c.args.groups.now c.loop-at.at _ c.loop-at-test.true c.index-groups-at.is in
    leads_group c.loop-at.pairs c.part_each.new.pairs c.args.pairs.now _ _ _ (every_two c.args.groups.now) here
    (rw (c.as_slice.ensures, c.after.ensures) at c.in_ok-part_each.ensures) c.loop-at.invariant

pub returns : goal.returns
returns c =
    leads_through c.loop-at.pairs c.args.pairs.now _ (every_two c.args.groups.now)
    (drop_all c.loop-at.at c.args.groups.now c.loop-at-test.false) c.loop-at.invariant
