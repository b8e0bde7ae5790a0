use Rattle.std.proofs.Common.{◌≡◌, ℕ, List, slice_get, Some, sym, ◌∙◌, ap, subst}
use Rattle.std.specs.List.{All}
use Rattle.pin_types.specs.declared.library_cells.LibCell.{LibCell}
use Rattle.pin_types.specs.declared.library_cells.LibPin.{LibPin}
use Rattle.source_types.specs.declared.netlists.Instance.{Instance}
use Rattle.source_types.specs.declared.netlists.Links.{Links}
use Rattle.flat_model.specs.Connections.{connected, names_of, pins_of}
use Rattle.flat_design.specs.declared.elaborate.elaboration.CellRow.{CellRow}
use Rattle.flat_design.specs.Connected.{IsLinkTable, shown}
use Rattle.flat_design.specs.Drivers.{HasBit}
use Rattle.flat_design.specs.Tables.{IsTerminals}
use Rattle.flat_design.proofs.BoundaryFacts.{bits_there}
use Rattle.flat_design.proofs.CellFacts.{cell_terminals, pin_named}
use Rattle.flat_design.proofs.ConnectionFacts.{has_cell, kind_low, pin_connected, pin_low, some_cell}
use Rattle.flat_design.proofs.HierarchyFacts.{one_at}
use Rattle.flat_design.proofs.drivers.cell_connections.connection_at.Goals as goal

pub item_at-pin-requires : goal.item_at-pin-requires
item_at-pin-requires c =
    let row_at : slice_get c.args.design.now.elaboration.cells c.args.cell ≡ Some c.item_at-row.result.now =
    ap (λ (xs : List CellRow). slice_get xs c.args.cell) (sym c.as_slice.ensures) ∙ c.item_at-row.ensures in
    pin_low c.args.design.now c.args.cell c.args.at c.item_at-row.result.now c.kind_at-kind.result.now c.as_slice-2.result.now c.requires.is row_at c.requires.pin
    c.kind_at-kind.ensures c.as_slice-2.ensures

pub item_at-known-requires : goal.item_at-known-requires
item_at-known-requires c =
    let row_at : slice_get c.args.design.now.elaboration.cells c.args.cell ≡ Some c.item_at-row.result.now =
    ap (λ (xs : List CellRow). slice_get xs c.args.cell) (sym c.as_slice.ensures) ∙ c.item_at-row.ensures in
    kind_low c.args.design.now c.args.cell c.item_at-row.result.now c.args.pins.now c.requires.is row_at c.requires.pins

pub instance_at-instance-requires-clause-there : goal.instance_at-instance-requires-clause-there
instance_at-instance-requires-clause-there c =
    let row_at : slice_get c.args.design.now.elaboration.cells c.args.cell ≡ Some c.item_at-row.result.now =
    ap (λ (xs : List CellRow). slice_get xs c.args.cell) (sym c.as_slice.ensures) ∙ c.item_at-row.ensures in
    let some = some_cell c.args.design.now c.args.cell c.item_at-row.result.now c.requires.is row_at in
    (some.0.placed, some.1.there)

pub returns-clause-connected : goal.returns-clause-connected
returns-clause-connected c = λ found pin at pin_at.
    let row_at : slice_get c.args.design.now.elaboration.cells c.args.cell ≡ Some c.item_at-row.result.now =
    ap (λ (xs : List CellRow). slice_get xs c.args.cell) (sym c.as_slice.ensures) ∙ c.item_at-row.ensures in
    let has = has_cell c.args.design.now c.args.cell c.item_at-row.result.now found c.requires.is row_at at in
    let links : c.instance_at-instance.result.now.links ≡ found.placed.instance.links =
    ap (λ (i : Instance). i.links) (c.instance_at-instance.ensures found.placed has.there) in
    let names = names_of (pins_of found.kind) in
    let known : IsTerminals (pins_of found.kind) c.item_at-known.result.now =
    cell_terminals c.args.design.now.library.now.cells c.args.pins.now c.item_at-row.result.now.kind found.kind c.item_at-known.result.now c.requires.pins
    has.kind c.item_at-known.ensures in
    let own_at : slice_get found.kind.pins c.args.at ≡ Some c.item_at-pin.result.now =
    ap (λ (k : LibCell). slice_get k.pins c.args.at) (sym (c.kind_at-kind.ensures found at))
    ∙ (ap (λ (xs : List LibPin). slice_get xs c.args.at) (sym c.as_slice-2.ensures) ∙ c.item_at-pin.ensures) in
    let named : slice_get names c.args.at ≡ Some c.as_str.result.now =
    pin_named found.kind.pins c.args.at c.item_at-pin.result.now own_at ∙ ap (λ (n : List ℕ). Some n) (sym c.as_str.ensures) in
    let table : IsLinkTable c.instance_at-instance.result.now.links c.args.links.now = subst (λ (all : Links). IsLinkTable all c.args.links.now) (sym links) (c.requires.links found at) in
    let bits_at : slice_get (connected names found.placed.instance.links) c.args.at ≡ Some (shown c.connected_at.result) =
    ap (λ (all : Links). slice_get (connected names all) c.args.at) (sym links) ∙ c.connected_at.ensures names known.places table named in
    pin_connected found c.args.at pin (shown c.connected_at.result) pin_at bits_at

pub returns-clause-bits : goal.returns-clause-bits
returns-clause-bits c = λ other other_at.
    let design = c.args.design.now in
    let row = c.item_at-row.result.now in
    let row_at : slice_get design.elaboration.cells c.args.cell ≡ Some row =
    ap (λ (xs : List CellRow). slice_get xs c.args.cell) (sym c.as_slice.ensures) ∙ c.item_at-row.ensures in
    let some = some_cell design c.args.cell row c.requires.is row_at in
    let found = some.0 in
    let links : c.instance_at-instance.result.now.links ≡ found.placed.instance.links =
    ap (λ (i : Instance). i.links) (c.instance_at-instance.ensures found.placed some.1.there) in
    let names = names_of (pins_of found.kind) in
    let known : IsTerminals (pins_of found.kind) c.item_at-known.result.now =
    cell_terminals design.library.now.cells c.args.pins.now row.kind found.kind c.item_at-known.result.now c.requires.pins some.1.kind c.item_at-known.ensures in
    let own_at : slice_get found.kind.pins c.args.at ≡ Some c.item_at-pin.result.now =
    ap (λ (k : LibCell). slice_get k.pins c.args.at) (sym (c.kind_at-kind.ensures found some.1.at))
    ∙ (ap (λ (xs : List LibPin). slice_get xs c.args.at) (sym c.as_slice-2.ensures) ∙ c.item_at-pin.ensures) in
    let named : slice_get names c.args.at ≡ Some c.as_str.result.now =
    pin_named found.kind.pins c.args.at c.item_at-pin.result.now own_at ∙ ap (λ (n : List ℕ). Some n) (sym c.as_str.ensures) in
    let table : IsLinkTable c.instance_at-instance.result.now.links c.args.links.now = subst (λ (all : Links). IsLinkTable all c.args.links.now) (sym links) (c.requires.links found some.1.at) in
    let bits_at : slice_get (connected names found.placed.instance.links) c.args.at ≡ Some (shown c.connected_at.result) =
    ap (λ (all : Links). slice_get (connected names all) c.args.at) (sym links) ∙ c.connected_at.ensures names known.places table named in
    let one : row ≡ other = one_at design.elaboration.cells c.args.cell row other row_at other_at in
    subst (λ (r : CellRow). All (HasBit design r.at.scope) (shown c.connected_at.result)) one
    (bits_there design row.at found.placed names c.args.at (shown c.connected_at.result) c.requires.is some.1.there bits_at)
