use Rattle.std.proofs.Common.{◌≡◌, ◌+◌, ◌≤◌, List, ℕ, length, slice_get, Some, sym, ◌∙◌, ap, subst, arith}
use Rattle.std.proofs.lemmas.List.{take_all}
use Rattle.std.proofs.lemmas.Option.{slice_get_within}
use Rattle.std.proofs.lemmas.Slice.Zip.{AllZip-long}
use Rattle.std.specs.List.{All, enumerate_from, flat_map}
use Rattle.pin_types.specs.declared.library_cells.LibCell.{LibCell}
use Rattle.pin_types.specs.declared.library_cells.LibPin.{LibPin}
use Rattle.source_types.specs.declared.netlists.Bit.{Bit}
use Rattle.source_types.specs.declared.netlists.Instance.{Instance}
use Rattle.source_types.specs.declared.netlists.Links.{Links}
use Rattle.flat_model.specs.Connections.{connected, names_of, pins_of}
use Rattle.flat_model.specs.FlatDesign.{port_pins}
use Rattle.flat_model.specs.FlatNets.{connected_pins, output_drivers}
use Rattle.flat_model.specs.Instances.{PlacedCell}
use Rattle.flat_design.specs.declared.elaborate.elaboration.CellRow.{CellRow}
use Rattle.flat_design.specs.Connected.{shown}
use Rattle.flat_design.specs.Drivers.{Adds, HasBit, IsDriverEdge}
use Rattle.flat_design.specs.Hierarchy.{cells_in, scopes_in}
use Rattle.flat_design.specs.Elaboration.{IsCell, IsPlaced}
use Rattle.flat_design.specs.Tables.{IsTerminals}
use Rattle.flat_design.proofs.AddedDrivers.{zip_get}
use Rattle.flat_design.proofs.BoundaryFacts.{bits_there}
use Rattle.flat_design.proofs.CellFacts.{cell_terminals, pin_named}
use Rattle.flat_design.proofs.HierarchyFacts.{one_at}
use Rattle.flat_design.proofs.PinCounts.{pins_connected}
use Rattle.flat_design.proofs.PinNumbers.{numbered_at}
use Rattle.flat_design.proofs.RowFacts.{rows_flat}
use Rattle.flat_design.proofs.drivers.cell_drivers.add_cell.Goals as goal

pub item_at-known-requires : goal.item_at-known-requires
item_at-known-requires c =
    let design = c.args.design.now in
    let row = c.item_at-row.result.now in
    let row_at : slice_get design.elaboration.cells c.args.cell ≡ Some row =
    ap (λ (xs : List CellRow). slice_get xs c.args.cell) (sym c.as_slice.ensures) ∙ c.item_at-row.ensures in
    let is : IsCell design.library.now (scopes_in design) (cells_in design) (length (port_pins design.top.now)) c.args.cell row =
    c.requires.is.elaboration.cells c.args.cell row row_at in
    let low = slice_get_within design.library.now.cells row.kind is.cell.kind is.kind in
    let count = AllZip-long (λ (kind : LibCell) found. IsTerminals (pins_of kind) found) design.library.now.cells c.args.pins.now c.requires.pins in
    omega (arith, low, count)

pub instance_at-instance-requires-clause-there : goal.instance_at-instance-requires-clause-there
instance_at-instance-requires-clause-there c =
    let design = c.args.design.now in
    let row = c.item_at-row.result.now in
    let row_at : slice_get design.elaboration.cells c.args.cell ≡ Some row =
    ap (λ (xs : List CellRow). slice_get xs c.args.cell) (sym c.as_slice.ensures) ∙ c.item_at-row.ensures in
    let is : IsCell design.library.now (scopes_in design) (cells_in design) (length (port_pins design.top.now)) c.args.cell row =
    c.requires.is.elaboration.cells c.args.cell row row_at in
    (is.cell.placed, is.is)

pub add_pin-requires-clause-pin : goal.add_pin-requires-clause-pin
add_pin-requires-clause-pin c = λ found at.
    let own = ap (λ (k : LibCell). length k.pins) (c.kind_at-kind.ensures found at) in
    omega (arith, own, c.loop-place-test.true, c.len-place-end.ensures)

pub add_pin-requires-clause-bits : goal.add_pin-requires-clause-bits
add_pin-requires-clause-bits c = λ other other_at.
    let design = c.args.design.now in
    let row = c.item_at-row.result.now in
    let row_at : slice_get design.elaboration.cells c.args.cell ≡ Some row =
    ap (λ (xs : List CellRow). slice_get xs c.args.cell) (sym c.as_slice.ensures) ∙ c.item_at-row.ensures in
    let is : IsCell design.library.now (scopes_in design) (cells_in design) (length (port_pins design.top.now)) c.args.cell row =
    c.requires.is.elaboration.cells c.args.cell row row_at in
    let found = is.cell in
    let at = is.at in
    let own : c.kind_at-kind.result.now ≡ found.kind = c.kind_at-kind.ensures found at in
    let same : is.cell ≡ found = one_at (cells_in design) c.args.cell is.cell found is.at at in
    let there : IsPlaced (scopes_in design) found.placed row.at = subst (λ (one : PlacedCell). IsPlaced (scopes_in design) one.placed row.at) same is.is in
    let pin = c.item_at-pin.result.now in
    let pin_at : slice_get found.kind.pins c.loop-place.place ≡ Some pin =
    ap (λ (k : LibCell). slice_get k.pins c.loop-place.place) (sym own)
    ∙ (ap (λ (xs : List LibPin). slice_get xs c.loop-place.place) (sym c.as_slice-in-loop-place.ensures) ∙ c.item_at-pin.ensures) in
    let links : c.instance_at-instance.result.now.links ≡ found.placed.instance.links =
    ap (λ (i : Instance). i.links) (c.instance_at-instance.ensures found.placed there) in
    let names = names_of (pins_of found.kind) in
    let known : IsTerminals (pins_of found.kind) c.item_at-known.result.now =
    cell_terminals design.library.now.cells c.args.pins.now row.kind found.kind c.item_at-known.result.now c.requires.pins
    (is.kind ∙ ap (λ (one : PlacedCell). Some one.kind) same) c.item_at-known.ensures in
    let named : slice_get names c.loop-place.place ≡ Some c.as_str-name.result.now =
    pin_named found.kind.pins c.loop-place.place pin pin_at ∙ ap (λ (n : List ℕ). Some n) (sym c.as_str-name.ensures) in
    let bits_at : slice_get (connected names found.placed.instance.links) c.loop-place.place ≡ Some (shown c.connected_at-bits.result) =
    ap (λ (all : Links). slice_get (connected names all) c.loop-place.place) (sym links)
    ∙ c.connected_at-bits.ensures names known.places c.in_ok-places.ensures named in
    let one : row ≡ other = one_at design.elaboration.cells c.args.cell row other row_at other_at in
    subst (λ (r : CellRow). All (HasBit design r.at.scope) (shown c.connected_at-bits.result)) one
    (bits_there design row.at found.placed names c.loop-place.place (shown c.connected_at-bits.result) c.requires.is there bits_at)

pub loop-place-preserved : goal.loop-place-preserved
loop-place-preserved c = λ found at.
    let design = c.args.design.now in
    let row = c.item_at-row.result.now in
    let row_at : slice_get design.elaboration.cells c.args.cell ≡ Some row =
    ap (λ (xs : List CellRow). slice_get xs c.args.cell) (sym c.as_slice.ensures) ∙ c.item_at-row.ensures in
    let is : IsCell design.library.now (scopes_in design) (cells_in design) (length (port_pins design.top.now)) c.args.cell row =
    c.requires.is.elaboration.cells c.args.cell row row_at in
    let own : c.kind_at-kind.result.now ≡ found.kind = c.kind_at-kind.ensures found at in
    let same : is.cell ≡ found = one_at (cells_in design) c.args.cell is.cell found is.at at in
    let there : IsPlaced (scopes_in design) found.placed row.at = subst (λ (one : PlacedCell). IsPlaced (scopes_in design) one.placed row.at) same is.is in
    let pin = c.item_at-pin.result.now in
    let pin_at : slice_get found.kind.pins c.loop-place.place ≡ Some pin =
    ap (λ (k : LibCell). slice_get k.pins c.loop-place.place) (sym own)
    ∙ (ap (λ (xs : List LibPin). slice_get xs c.loop-place.place) (sym c.as_slice-in-loop-place.ensures) ∙ c.item_at-pin.ensures) in
    let links : c.instance_at-instance.result.now.links ≡ found.placed.instance.links =
    ap (λ (i : Instance). i.links) (c.instance_at-instance.ensures found.placed there) in
    let names = names_of (pins_of found.kind) in
    let known : IsTerminals (pins_of found.kind) c.item_at-known.result.now =
    cell_terminals design.library.now.cells c.args.pins.now row.kind found.kind c.item_at-known.result.now c.requires.pins
    (is.kind ∙ ap (λ (one : PlacedCell). Some one.kind) same) c.item_at-known.ensures in
    let named : slice_get names c.loop-place.place ≡ Some c.as_str-name.result.now =
    pin_named found.kind.pins c.loop-place.place pin pin_at ∙ ap (λ (n : List ℕ). Some n) (sym c.as_str-name.ensures) in
    let bits_at : slice_get (connected names found.placed.instance.links) c.loop-place.place ≡ Some (shown c.connected_at-bits.result) =
    ap (λ (all : Links). slice_get (connected names all) c.loop-place.place) (sym links)
    ∙ c.connected_at-bits.ensures names known.places c.in_ok-places.ensures named in
    let plus : 0 + c.loop-place.place ≡ c.loop-place.place = omega arith in
    let pair : slice_get (connected_pins found) c.loop-place.place ≡ Some ((c.loop-place.place, pin), shown c.connected_at-bits.result) =
    zip_get (enumerate_from 0 found.kind.pins) (connected names found.placed.instance.links) c.loop-place.place (0 + c.loop-place.place, pin) (shown c.connected_at-bits.result)
    (numbered_at 0 found.kind.pins c.loop-place.place pin pin_at) bits_at
    ∙ ap (λ (n : ℕ). Some ((n, pin), shown c.connected_at-bits.result)) plus in
    rows_flat (IsDriverEdge design) (output_drivers found) (connected_pins found) c.loop-place.place ((c.loop-place.place, pin), shown c.connected_at-bits.result) c.args.rows.now
    c.loop-place.rows c.add_pin.new.rows pair (c.in_ok-add_pin.ensures found at) (c.loop-place.invariant found at)

pub returns : goal.returns
returns c = λ found at.
    let own = ap (λ (k : LibCell). length k.pins) (c.kind_at-kind.ensures found at) in
    let count = pins_connected found in
    let all : length (connected_pins found) ≤ c.loop-place.place = omega (arith, own, count, c.loop-place-test.false, c.len-place-end.ensures) in
    subst (λ (xs : List ((ℕ × LibPin) × List Bit)). Adds c.args.design.now (flat_map (output_drivers found) xs) c.args.rows.now c.loop-place.rows)
    (take_all c.loop-place.place (connected_pins found) all) (c.loop-place.invariant found at)
