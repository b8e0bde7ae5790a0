use Rattle.std.proofs.Common.{◌∙◌, Some, ap}
use Rattle.bool_lanes.specs.NamedNumbers.{least}
use Rattle.bool_lanes.proofs.NumberFacts.{added}
use Rattle.bool_lanes.proofs.numbers.Numbers.add.Goals as goal

pub returns : goal.returns
returns c =
    added c.args.self.now (record { least = c.insert.new.self }) c.in_ok-key.key c.args.name.now c.args.number c.lesser-kept.result
    (c.in_ok-key.ensures.items ∙ c.as_bytes.ensures) c.in_ok-insert.ensures.updates
    (c.lesser-kept.ensures ∙ ap (least (Some c.args.number)) c.number_of.ensures)
