use Rattle.std.proofs.Common.{◌≡◌, ◌+◌, List, Option, slice_get, Some, sym, ◌∙◌, ap, subst, arith}
use Rattle.flat_model.specs.FlatNets.{from_pin, net_at, pin_of}
use Rattle.flat_model.specs.Instances.{PlacedCell, path_of}
use Rattle.text_model.proofs.ListFacts.{all_at}
use Rattle.flat_design.specs.declared.drivers.driver_edges.DriverEdge.{DriverEdge}
use Rattle.flat_design.specs.declared.drivers.driver_edges.Driver.TheVariants as driver
use Rattle.flat_design.specs.declared.elaborate.elaboration.CellRow.{CellRow}
use Rattle.flat_design.specs.Drivers.{HasBit, IsDriverEdgeOf, pin_drive}
use Rattle.flat_design.specs.Hierarchy.{cells_in, scopes_in}
use Rattle.flat_design.proofs.AddedDrivers.{adds_more}
use Rattle.flat_design.proofs.DriverFacts.{both_of}
use Rattle.flat_design.proofs.HierarchyFacts.{one_at}
use Rattle.flat_design.proofs.PinNumbers.{pin_number, pin_small}
use Rattle.flat_design.proofs.drivers.cell_drivers.add_output.Goals as goal

pub overflow_add-number : goal.overflow_add-number
overflow_add-number c =
    let design = c.args.design.now in
    let row = c.item_at-row.result.now in
    let row_at : slice_get design.elaboration.cells c.args.cell ≡ Some row =
    ap (λ (xs : List CellRow). slice_get xs c.args.cell) (sym c.as_slice.ensures) ∙ c.item_at-row.ensures in
    let known = c.requires.is.elaboration.cells c.args.cell row row_at in
    let number = pin_number design c.args.cell c.args.at known.cell row c.requires.is known.at (c.requires.pin known.cell known.at) row_at in
    let low = pin_small design (row.first_pin + c.args.at) (pin_of (path_of known.cell.placed) c.args.at) c.requires.is number in
    omega (arith, low)

pub driven_net-to-requires-clause-there : goal.driven_net-to-requires-clause-there
driven_net-to-requires-clause-there c =
    let design = c.args.design.now in
    let row = c.item_at-row.result.now in
    let row_at : slice_get design.elaboration.cells c.args.cell ≡ Some row =
    ap (λ (xs : List CellRow). slice_get xs c.args.cell) (sym c.as_slice.ensures) ∙ c.item_at-row.ensures in
    all_at (HasBit design row.at.scope) c.args.connection.now c.loop-place.place c.item_at-bit.result.now (c.requires.bits row row_at) c.item_at-bit.ensures

pub loop-place-preserved : goal.loop-place-preserved
loop-place-preserved c = λ found at.
    let design = c.args.design.now in
    let row = c.item_at-row.result.now in
    let row_at : slice_get design.elaboration.cells c.args.cell ≡ Some row =
    ap (λ (xs : List CellRow). slice_get xs c.args.cell) (sym c.as_slice.ensures) ∙ c.item_at-row.ensures in
    let known = c.requires.is.elaboration.cells c.args.cell row row_at in
    let same : known.cell ≡ found = one_at (cells_in design) c.args.cell known.cell found known.at at in
    let scope : slice_get (scopes_in design) row.at.scope ≡ Some found.placed.scope =
    known.is.scope ∙ ap (λ (cell : PlacedCell). Some cell.placed.scope) same in
    let number = pin_number design c.args.cell c.args.at found row c.requires.is at (c.requires.pin found at) row_at in
    let is : IsDriverEdgeOf design (pin_drive found c.args.at c.item_at-bit.result.now) c.row_of-one.result =
    subst (λ (one : Option DriverEdge). IsDriverEdgeOf design (pin_drive found c.args.at c.item_at-bit.result.now) one) (sym c.row_of-one.ensures)
    (both_of design (net_at found.placed.scope.path c.item_at-bit.result.now) (Some (from_pin (pin_of (path_of found.placed) c.args.at))) c.driven_net-to.result
    (Some (driver.Pin (row.first_pin + c.args.at))) (c.driven_net-to.ensures found.placed.scope scope) number) in
    adds_more design (pin_drive found c.args.at) c.args.connection.now c.loop-place.place c.item_at-bit.result.now c.args.rows.now c.loop-place.rows c.add_row.new.rows
    c.row_of-one.result c.item_at-bit.ensures is c.in_ok-add_row.ensures (c.loop-place.invariant found at)
