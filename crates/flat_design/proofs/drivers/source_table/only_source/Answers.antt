use Rattle.std.proofs.Common.{length}
use Rattle.flat_design.specs.SourceTable.{IsLast}
use Rattle.flat_design.proofs.SourceFacts.{none_of, one_of, row_inside, same_at}
use Rattle.flat_design.proofs.drivers.source_table.only_source.Goals as goal

pub item_at-requires : goal.item_at-requires
item_at-requires c =
    let table = c.args.table.now in
    let at = c.item_at-last.result.now in
    let is : IsLast table.rows.now c.args.net (length table.rows.now) at =
    c.requires.table.lasts c.args.net at (same_at c.as_slice.result.now table.last c.args.net at c.as_slice.ensures c.item_at-last.ensures) in
    row_inside table.rows.now c.args.net at is c.if-last-gt0.true

pub returns-then-last-gt0 : goal.returns-then-last-gt0
returns-then-last-gt0 c =
    let table = c.args.table.now in
    let at = c.item_at-last.result.now in
    let is : IsLast table.rows.now c.args.net (length table.rows.now) at =
    c.requires.table.lasts c.args.net at (same_at c.as_slice.result.now table.last c.args.net at c.as_slice.ensures c.item_at-last.ensures) in
    one_of table.rows.now c.args.net at c.item_at.result.now is c.if-last-gt0.true c.item_at.ensures

pub returns-else-last-gt0 : goal.returns-else-last-gt0
returns-else-last-gt0 c =
    let table = c.args.table.now in
    let at = c.item_at-last.result.now in
    let is : IsLast table.rows.now c.args.net (length table.rows.now) at =
    c.requires.table.lasts c.args.net at (same_at c.as_slice.result.now table.last c.args.net at c.as_slice.ensures c.item_at-last.ensures) in
    λ one. none_of table.rows.now c.args.net at is c.if-last-gt0.false
