use Rattle.std.proofs.Common.{◌∙◌, ap}
use Rattle.constraint_model.specs.ListOrder.{is_among}
use Rattle.sdc_cli.specs.Exclusive.{HasSame}
use Rattle.sdc_cli.proofs.ExclusiveSteps.{HasMore-distinct}
use Rattle.sdc_cli.proofs.group_pairs.part_two.Goals as goal

pub returns : goal.returns
returns c =
    let first : HasSame c.args.first.now c.as_slice.result.now =
    λ place. ap (is_among place) c.as_slice.ensures.value ∙ c.in_ok-first.ensures place in
    let second : HasSame c.args.second.now c.as_slice-2.result.now =
    λ place. ap (is_among place) c.as_slice-2.ensures.value ∙ c.in_ok-second.ensures place in
    HasMore-distinct c.args.pairs.now c.part_all.new.pairs c.args.first.now c.args.second.now
    c.as_slice.result.now c.as_slice-2.result.now first second c.in_ok-part_all.ensures
