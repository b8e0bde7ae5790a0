use Rattle.std.proofs.Common.{◌≡◌, ℕ, List, length, slice_get, Some, sym, ◌∙◌, ap, arith}
use Rattle.pin_types.specs.declared.library_cells.LibCell.{LibCell}
use Rattle.flat_design.specs.declared.elaborate.elaboration.CellRow.{CellRow}
use Rattle.flat_design.proofs.FlatCellFacts.{first_low, row_is}
use Rattle.flat_design.proofs.assemble.design_cells.cell_info.Goals as goal

pub overflow_cast-result : goal.overflow_cast-result
overflow_cast-result c =
    let row_at : slice_get c.args.design.now.elaboration.cells c.args.place ≡ Some c.item_at-row.result.now =
    ap (λ (xs : List CellRow). slice_get xs c.args.place) (sym c.as_slice.ensures) ∙ c.item_at-row.ensures in
    let low = first_low c.args.design.now c.args.place c.item_at-row.result.now c.requires.is row_at in
    omega (arith, low)

pub returns-clause-is : goal.returns-clause-is
returns-clause-is c = λ cell at named.
    let row_at : slice_get c.args.design.now.elaboration.cells c.args.place ≡ Some c.item_at-row.result.now =
    ap (λ (xs : List CellRow). slice_get xs c.args.place) (sym c.as_slice.ensures) ∙ c.item_at-row.ensures in
    let row = row_is c.args.design.now c.args.place cell c.item_at-row.result.now c.requires.is row_at at in
    let own = c.kind_at.ensures cell.is row.is in
    record {
      name = named;
      kind = ap (λ (n : ℕ). slice_get c.args.design.now.library.now.cells n) c.in-Ok.ensures.1 ∙ row.kind;
      first = row.first;
      count = c.in-Ok-try_from.ensures.1 ∙ (c.len-pins.ensures ∙ ap (λ (k : LibCell). length k.pins) own);
    }
