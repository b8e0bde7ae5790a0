use Rattle.std.proofs.Common.{◌≡◌, ◌∙◌, ◌+◌, ◌-◌, ◌++◌, suc, sym, ap, arith}
use Rattle.mode_model.specs.ClockGroups.{others_from}
use Rattle.sdc_cli.proofs.GroupSteps.{others_more}
use Rattle.sdc_cli.proofs.group_pairs.others_of.Goals as goal

pub loop-place-preserved : goal.loop-place-preserved
loop-place-preserved c =
    let group = c.args.group.now in
    let place = c.loop-place.place in
    let more = c.args.count - (place + 1) in
    let left : c.args.count - place ≡ suc more = omega (arith, c.loop-place-test.true) in
    ap (λ places. places ++ others_from group (place + 1) more) c.in_ok-push_other.ensures
    ∙ (others_more c.loop-place.others.items group place more
    ∙ (ap (λ n. c.loop-place.others.items ++ others_from group place n) (sym left) ∙ c.loop-place.invariant))
