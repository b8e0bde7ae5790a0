use Rattle.std.proofs.Common.{◌≡◌, List, slice_get, Some, sym, ◌∙◌, ap}
use Rattle.source_types.specs.declared.netlists.Instance.{Instance}
use Rattle.flat_design.specs.declared.elaborate.elaboration.CellRow.{CellRow}
use Rattle.flat_design.proofs.ConnectionFacts.{has_cell, some_cell}
use Rattle.flat_design.proofs.drivers.cell_connections.cell_links.Goals as goal

pub instance_at-instance-requires-clause-there : goal.instance_at-instance-requires-clause-there
instance_at-instance-requires-clause-there c =
    let row_at : slice_get c.args.design.now.elaboration.cells c.args.cell ≡ Some c.item_at-row.result.now =
    ap (λ (xs : List CellRow). slice_get xs c.args.cell) (sym c.as_slice.ensures) ∙ c.item_at-row.ensures in
    let some = some_cell c.args.design.now c.args.cell c.item_at-row.result.now c.requires.is row_at in
    (some.0.placed, some.1.there)

pub returns : goal.returns
returns c = λ found at.
    let row_at : slice_get c.args.design.now.elaboration.cells c.args.cell ≡ Some c.item_at-row.result.now =
    ap (λ (xs : List CellRow). slice_get xs c.args.cell) (sym c.as_slice.ensures) ∙ c.item_at-row.ensures in
    let has = has_cell c.args.design.now c.args.cell c.item_at-row.result.now found c.requires.is row_at at in
    let links : c.instance_at-instance.result.now.links ≡ found.placed.instance.links =
    ap (λ (i : Instance). i.links) (c.instance_at-instance.ensures found.placed has.there) in
    rw links at c.link_table.ensures
