use Rattle.std.proofs.Common.{List, length, slice_get, sym, ◌∙◌, ap, arith}
use Rattle.std.proofs.lemmas.Option.{slice_get_within}
use Rattle.pin_types.specs.declared.library_cells.LibCell.{LibCell}
use Rattle.flat_model.specs.Instances.{PlacedCell}
use Rattle.flat_design.specs.declared.elaborate.elaboration.CellRow.{CellRow}
use Rattle.flat_design.specs.Hierarchy.{cells_in}
use Rattle.flat_design.proofs.HierarchyFacts.{one_at}
use Rattle.flat_design.proofs.names.pin_names.kind_at.Goals as goal

pub item_at-requires : goal.item_at-requires
item_at-requires c =
    let row = c.item_at-row.result.now in
    let known = c.requires.is.elaboration.cells c.args.place row (ap (λ (xs : List CellRow). slice_get xs c.args.place) (sym c.as_slice.ensures) ∙ c.item_at-row.ensures) in
    let low = slice_get_within c.args.design.now.library.now.cells row.kind known.cell.kind known.kind in
    let same = ap length c.as_slice-2.ensures in
    omega (arith, low, same)

pub returns : goal.returns
returns c = λ cell at.
    let row = c.item_at-row.result.now in
    let known = c.requires.is.elaboration.cells c.args.place row (ap (λ (xs : List CellRow). slice_get xs c.args.place) (sym c.as_slice.ensures) ∙ c.item_at-row.ensures) in
    one_at c.args.design.now.library.now.cells row.kind c.item_at.result.now known.cell.kind
    (ap (λ (xs : List LibCell). slice_get xs row.kind) (sym c.as_slice-2.ensures) ∙ c.item_at.ensures) known.kind
    ∙ ap (λ (one : PlacedCell). one.kind) (one_at (cells_in c.args.design.now) c.args.place known.cell cell known.at at)
