use Rattle.std.proofs.Common.{◌≡◌, ◌-◌, length, slice_get, Some, ap, arith}
use Rattle.flat_design.specs.SourceTable.{IsLast}
use Rattle.flat_design.proofs.SourceFacts.{row_inside, same_at, two_not, two_of}
use Rattle.flat_design.proofs.drivers.source_table.has_two.Goals as goal

pub item_at-requires : goal.item_at-requires
item_at-requires c =
    let table = c.args.table.now in
    let is : IsLast table.rows.now c.args.net (length table.rows.now) c.item_at-last.result.now =
    c.requires.table.lasts c.args.net c.item_at-last.result.now (same_at c.as_slice.result.now table.last c.args.net c.item_at-last.result.now c.as_slice.ensures c.item_at-last.ensures) in
    omega (arith, row_inside table.rows.now c.args.net c.item_at-last.result.now is c.if-last-gt0.true, ap length c.as_slice-then-last-gt0.ensures, c.requires.table.count)

pub returns-then-last-gt0 : goal.returns-then-last-gt0
returns-then-last-gt0 c =
    let table = c.args.table.now in
    let at = c.item_at-last.result.now in
    let is : IsLast table.rows.now c.args.net (length table.rows.now) at =
    c.requires.table.lasts c.args.net at (same_at c.as_slice.result.now table.last c.args.net at c.as_slice.ensures c.item_at-last.ensures) in
    let before : slice_get table.earlier (at - 1) ≡ Some c.item_at.result.now =
    same_at c.as_slice-then-last-gt0.result.now table.earlier (at - 1) c.item_at.result.now c.as_slice-then-last-gt0.ensures c.item_at.ensures in
    two_of table.rows.now c.args.net at c.item_at.result.now is c.if-last-gt0.true
    (λ row there. c.requires.table.before (at - 1) c.item_at.result.now row there before)

pub returns-else-last-gt0 : goal.returns-else-last-gt0
returns-else-last-gt0 c =
    let table = c.args.table.now in
    let at = c.item_at-last.result.now in
    let is : IsLast table.rows.now c.args.net (length table.rows.now) at =
    c.requires.table.lasts c.args.net at (same_at c.as_slice.result.now table.last c.args.net at c.as_slice.ensures c.item_at-last.ensures) in
    two_not table.rows.now c.args.net at is c.if-last-gt0.false
