use Rattle.std.proofs.Common.{◌≡◌, ℕ, List, slice_get, Some, sym, ◌∙◌, ap, subst}
use Rattle.pin_types.specs.declared.library_cells.LibCell.{LibCell}
use Rattle.pin_types.specs.declared.library_cells.LibPin.{LibPin}
use Rattle.flat_model.specs.FlatDesign.{pin_load}
use Rattle.design_model.specs.WellFormedDesign.{role_in_cell}
use Rattle.flat_design.specs.declared.elaborate.elaboration.CellRow.{CellRow}
use Rattle.flat_design.specs.Connected.{shown}
use Rattle.flat_design.specs.PinRows.{IsDriven}
use Rattle.flat_design.proofs.ConnectionFacts.{has_cell, pin_low}
use Rattle.flat_design.proofs.HierarchyFacts.{one_at}
use Rattle.flat_design.proofs.assemble.cell_pins.pin_row.Goals as goal

pub item_at-pin-requires : goal.item_at-pin-requires
item_at-pin-requires c =
    let row_at : slice_get c.args.design.now.elaboration.cells c.args.cell ≡ Some c.item_at-row.result.now =
    ap (λ (xs : List CellRow). slice_get xs c.args.cell) (sym c.as_slice.ensures) ∙ c.item_at-row.ensures in
    pin_low c.args.design.now c.args.cell c.args.at c.item_at-row.result.now c.kind_at-kind.result.now c.as_slice-2.result.now c.requires.is row_at c.requires.pin
    c.kind_at-kind.ensures c.as_slice-2.ensures

pub returns-clause-is : goal.returns-clause-is
returns-clause-is c = λ found pin at pin_at.
    let row_at : slice_get c.args.design.now.elaboration.cells c.args.cell ≡ Some c.item_at-row.result.now =
    ap (λ (xs : List CellRow). slice_get xs c.args.cell) (sym c.as_slice.ensures) ∙ c.item_at-row.ensures in
    let has = has_cell c.args.design.now c.args.cell c.item_at-row.result.now found c.requires.is row_at at in
    let own_at : slice_get found.kind.pins c.args.at ≡ Some c.item_at-pin.result.now =
    ap (λ (k : LibCell). slice_get k.pins c.args.at) (sym (c.kind_at-kind.ensures found at))
    ∙ (ap (λ (xs : List LibPin). slice_get xs c.args.at) (sym c.as_slice-2.ensures) ∙ c.item_at-pin.ensures) in
    let same : c.item_at-pin.result.now ≡ pin = one_at found.kind.pins c.args.at c.item_at-pin.result.now pin own_at pin_at in
    let driven = c.pin_driver-driver.ensures found.placed.scope has.there.scope in
    record {
      role = c.role_in_cell-role.ensures ∙ ap (λ (p : LibPin). role_in_cell p.direction) same;
      cell = ap (λ (n : ℕ). Some n) c.in-Ok.ensures.1;
      lib_pin = c.in-Ok-try_from.ensures.1;
      driver = subst (λ (p : LibPin). IsDriven c.args.design.now (pin_load p.direction found.placed.scope.path (shown c.args.connection)) c.pin_driver-driver.result)
          same driven;
    }
