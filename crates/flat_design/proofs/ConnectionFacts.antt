-- The rows of cells, and what a cell's pins are connected to.
use Rattle.std.proofs.Common.{◌≡◌, ◌+◌, ◌<◌, ℕ, List, length, slice_get, Some, ◌∙◌, ap, subst, arith}
use Rattle.std.proofs.lemmas.Option.{slice_get_within}
use Rattle.std.proofs.lemmas.Slice.Zip.{AllZip-long}
use Rattle.std.specs.List.{AllZip, enumerate_from}
use Rattle.pin_types.specs.declared.library_cells.LibCell.{LibCell}
use Rattle.pin_types.specs.declared.library_cells.LibPin.{LibPin}
use Rattle.source_types.specs.declared.netlists.Bit.{Bit}
use Rattle.flat_model.specs.Connections.{connected, names_of, pins_of}
use Rattle.flat_model.specs.FlatNets.{connected_pins}
use Rattle.flat_model.specs.Instances.{PlacedCell}
use Rattle.flat_design.specs.declared.elaborate.hierarchy.Hierarchy.{Hierarchy}
use Rattle.flat_design.specs.declared.elaborate.elaboration.CellRow.{CellRow}
use Rattle.flat_design.specs.declared.elaborate.terminals.Terminals.{Terminals}
use Rattle.flat_design.specs.Hierarchy.{IsHierarchy, cells_in, scopes_in}
use Rattle.flat_design.specs.Elaboration.{IsPlaced}
use Rattle.flat_design.specs.Tables.{IsTerminals}
use Rattle.flat_design.proofs.AddedDrivers.{zip_get}
use Rattle.flat_design.proofs.HierarchyFacts.{one_at}
use Rattle.flat_design.proofs.PinNumbers.{numbered_at}

-- what a row says of the cell at its place
pub record HasCell (design : Hierarchy) (n : ℕ) (row : CellRow) (found : PlacedCell) : Type 0 where
  pub at : slice_get (cells_in design) n ≡ Some found
  pub there : IsPlaced (scopes_in design) found.placed row.at
  pub kind : slice_get design.library.now.cells row.kind ≡ Some found.kind

-- a row is of some cell
pub some_cell : (design : Hierarchy) (n : ℕ) (row : CellRow) → IsHierarchy design → slice_get design.elaboration.cells n ≡ Some row
    → (found : PlacedCell) × HasCell design n row found
some_cell design n row is row_at =
    let known = is.elaboration.cells n row row_at in
    (known.cell, record { at = known.at; there = known.is; kind = known.kind })

-- a row is of the cell at its place
pub has_cell : (design : Hierarchy) (n : ℕ) (row : CellRow) (found : PlacedCell) → IsHierarchy design → slice_get design.elaboration.cells n ≡ Some row
    → slice_get (cells_in design) n ≡ Some found → HasCell design n row found
has_cell design n row found is row_at at =
    let some = some_cell design n row is row_at in
    subst (HasCell design n row) (one_at (cells_in design) n some.0 found some.1.at at) some.1

-- the table of a row's library cell is there
pub kind_low : (design : Hierarchy) (n : ℕ) (row : CellRow) (tables : List Terminals) → IsHierarchy design → slice_get design.elaboration.cells n ≡ Some row
    → AllZip (λ (kind : LibCell) found. IsTerminals (pins_of kind) found) design.library.now.cells tables → row.kind < length tables
kind_low design n row tables is row_at all =
    let some = some_cell design n row is row_at in
    let low = slice_get_within design.library.now.cells row.kind some.0.kind some.1.kind in
    let count = AllZip-long (λ (kind : LibCell) found. IsTerminals (pins_of kind) found) design.library.now.cells tables all in
    omega (arith, low, count)

-- a pin with what is connected to it
pub pin_connected : (found : PlacedCell) (n : ℕ) (pin : LibPin) (bits : List Bit) → slice_get found.kind.pins n ≡ Some pin
    → slice_get (connected (names_of (pins_of found.kind)) found.placed.instance.links) n ≡ Some bits → slice_get (connected_pins found) n ≡ Some ((n, pin), bits)
pin_connected found n pin bits pin_at bits_at =
    let plus : 0 + n ≡ n = omega arith in
    zip_get (enumerate_from 0 found.kind.pins) (connected (names_of (pins_of found.kind)) found.placed.instance.links) n (0 + n, pin) bits
    (numbered_at 0 found.kind.pins n pin pin_at) bits_at
    ∙ ap (λ (k : ℕ). Some ((k, pin), bits)) plus

-- a pin's place is one of the library cell
pub pin_low : (design : Hierarchy) (n at : ℕ) (row : CellRow) (kind : LibCell) (pins : List LibPin) → IsHierarchy design → slice_get design.elaboration.cells n ≡ Some row
    → ((found : PlacedCell) → slice_get (cells_in design) n ≡ Some found → at < length found.kind.pins)
    → ((found : PlacedCell) → slice_get (cells_in design) n ≡ Some found → kind ≡ found.kind) → pins ≡ kind.pins → at < length pins
pin_low design n at row kind pins is row_at within own same =
    let some = some_cell design n row is row_at in
    let low = within some.0 some.1.at in
    let a : length kind.pins ≡ length some.0.kind.pins = ap (λ (k : LibCell). length k.pins) (own some.0 some.1.at) in
    let b : length pins ≡ length kind.pins = ap (λ (xs : List LibPin). length xs) same in
    omega (arith, low, a, b)
