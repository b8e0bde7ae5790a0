use Rattle.std.proofs.Common.{List, slice_get, sym, ◌∙◌, ap, subst}
use Rattle.source_types.specs.declared.netlists.Instance.{Instance}
use Rattle.flat_model.specs.Instances.{PlacedCell}
use Rattle.flat_design.specs.declared.elaborate.elaboration.CellRow.{CellRow}
use Rattle.flat_design.specs.Hierarchy.{cells_in, scopes_in}
use Rattle.flat_design.specs.Elaboration.{IsPlaced}
use Rattle.flat_design.proofs.CellPlaces.{row_says}
use Rattle.flat_design.proofs.HierarchyFacts.{one_at}
use Rattle.flat_design.proofs.names.cell_faults.line_at.Goals as goal

pub instance_at-requires-clause-there : goal.instance_at-requires-clause-there
instance_at-requires-clause-there c =
    let row = c.item_at-row.result.now in
    let known = c.requires.is.elaboration.cells c.args.place row (ap (λ (xs : List CellRow). slice_get xs c.args.place) (sym c.as_slice.ensures) ∙ c.item_at-row.ensures) in
    (known.cell.placed, known.is)

pub returns : goal.returns
returns c = λ cell at.
    let row = c.item_at-row.result.now in
    let row_at = ap (λ (xs : List CellRow). slice_get xs c.args.place) (sym c.as_slice.ensures) ∙ c.item_at-row.ensures in
    let known = c.requires.is.elaboration.cells c.args.place row row_at in
    let says = row_says c.args.design.now c.args.place row cell c.requires.is row_at at in
    let same = one_at (cells_in c.args.design.now) c.args.place known.cell cell.is known.at says.0 in
    ap (λ (i : Instance). i.line) (c.instance_at.ensures cell.is.placed
    (subst (λ (one : PlacedCell). IsPlaced (scopes_in c.args.design.now) one.placed row.at) same known.is))
