use Rattle.std.proofs.Common.{◌≡◌, ◌+◌, ◌<◌, ◌^◌, arith}
use Rattle.std.specs.Int.{bit_at}
use Rattle.bool_lanes.proofs.Completions.{with_pin_within}
use Rattle.bool_lanes.proofs.table.Table.changes_at.Goals as goal

pub value_of-requires-2 : goal.value_of-requires-2
value_of-requires-2 c =
    let at_zero : bit_at c.args.completion c.args.pin ≡ 0 = grind (arith, c.bit.ensures, c.if-bit-ne0.false) in
    let room : c.args.completion + 2 ^ c.args.pin < 2 ^ c.args.self.now.inputs =
    with_pin_within c.args.pin c.args.self.now.inputs c.args.completion c.requires.is_input c.requires.within at_zero in
    grind (arith, room, c.bit_of.ensures)
