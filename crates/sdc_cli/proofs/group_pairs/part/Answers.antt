use Rattle.sdc_cli.proofs.ExclusiveSteps.{HasMore-insert}
use Rattle.sdc_cli.proofs.group_pairs.part.Goals as goal

pub returns-in_ok-insert : goal.returns-in_ok-insert
returns-in_ok-insert c =
    HasMore-insert c.args.pairs.now c.insert.new.self c.args.place c.args.other (record { first = c.min.result; second = c.max.result })
    c.if-place-other.true c.min.ensures c.max.ensures c.in_ok-insert.ensures.updates.0
