-- Where the pins of cells stand in a flat design, and of which cell a pin is.
use Rattle.std.proofs.Common.{◌≡◌, ◌+◌, ◌⊎◌, inl, inr, ℕ, List, length, take, slice_get, Some, ◌∙◌, ap, arith}
use Rattle.std.specs.List.{enumerate_from, flat_map}
use Rattle.source_types.specs.declared.libraries.Library.{Library}
use Rattle.pin_types.specs.declared.library_cells.LibPin.{LibPin}
use Rattle.source_types.specs.declared.netlists.Bit.{Bit}
use Rattle.source_types.specs.declared.netlists.Module.{Module}
use Rattle.flat_model.specs.Connections.{connected, names_of, pins_of}
use Rattle.flat_model.specs.FlatDesign.{FlatCell, FlatPin, cell_pin, cell_pins, flat, port_pins}
use Rattle.flat_model.specs.FlatNets.{connected_pins}
use Rattle.flat_model.specs.Instances.{PlacedCell, cells_of}
use Rattle.text_model.proofs.ListFacts.{get_append}
use Rattle.flat_design.specs.Elaboration.{pins_in}
use Rattle.flat_design.proofs.DistinctFacts.{get_flat, get_map}
use Rattle.flat_design.proofs.CellPlaces.{cell_back, cell_there, flat_cell}
use Rattle.flat_design.proofs.NumberFacts.{after_at, flat_at}
use Rattle.flat_design.proofs.PinCounts.{cells_length}
use Rattle.flat_design.proofs.PinNumbers.{connection_at, numbered_at, numbered_take}
use Rattle.flat_design.proofs.RangeFacts.{map_at}
use Rattle.flat_design.proofs.WellFormedLists.{numbered_back, zip_first}

-- ---- pins of cells

-- how many pins stand before those of a cell, except ports
before_cell : (n : ℕ) (cells : List PlacedCell) → length (flat_map cell_pins (take n (enumerate_from 0 cells))) ≡ pins_in (take n cells)
before_cell n cells = ap (λ (xs : List (ℕ × PlacedCell)). length (flat_map cell_pins xs)) (numbered_take 0 n cells) ∙ cells_length 0 (take n cells)

-- a pin is that of a place in a cell
pub record IsOfCell (modules : List Module) (library : Library) (top : Module) (number : ℕ) (pin : FlatPin) : Type 0 where
  pub place : ℕ
  pub at : ℕ
  pub cell : FlatCell
  pub lib_pin : LibPin
  pub bits : List Bit
  pub cell_is : slice_get (flat modules library top).cells place ≡ Some cell
  pub pin_is : slice_get cell.is.kind.pins at ≡ Some lib_pin
  pub is : pin ≡ cell_pin place cell.is ((at, lib_pin), bits)
  pub there : number ≡ cell.first + at

-- the pin of a place in a cell
pub cell_pin_there : (modules : List Module) (library : Library) (top : Module) (n at : ℕ) (cell : FlatCell) (pin : LibPin)
    → slice_get (flat modules library top).cells n ≡ Some cell → slice_get cell.is.kind.pins at ≡ Some pin
    → (bits : List Bit) × (slice_get (flat modules library top).pins (cell.first + at) ≡ Some (cell_pin n cell.is ((at, pin), bits)))
cell_pin_there modules library top n at cell pin cell_is pin_is =
    let ports = port_pins top in
    let cells : List PlacedCell = cells_of modules library top in
    let r = cell_back (length ports) cells n cell cell_is in
    let own = connection_at cell.is at pin pin_is in
    let one : FlatPin = cell_pin (0 + n) cell.is ((0 + at, pin), own.0) in
    let inside : slice_get (cell_pins (0 + n, cell.is)) at ≡ Some one = map_at (cell_pin (0 + n) cell.is) (connected_pins cell.is) at ((0 + at, pin), own.0) own.1 in
    let among : slice_get (flat_map cell_pins (enumerate_from 0 cells)) (length (flat_map cell_pins (take n (enumerate_from 0 cells))) + at) ≡ Some one =
    flat_at cell_pins (enumerate_from 0 cells) n at (0 + n, cell.is) one (numbered_at 0 cells n cell.is r.0) inside in
    let whole : slice_get (flat modules library top).pins (length ports + (length (flat_map cell_pins (take n (enumerate_from 0 cells))) + at)) ≡ Some one =
    after_at ports (flat_map cell_pins (enumerate_from 0 cells)) (length (flat_map cell_pins (take n (enumerate_from 0 cells))) + at) one among in
    let before = before_cell n cells in
    let same : cell.first + at ≡ length ports + (length (flat_map cell_pins (take n (enumerate_from 0 cells))) + at) = omega (arith, before, r.1) in
    let n_is : 0 + n ≡ n = omega arith in
    let at_is : 0 + at ≡ at = omega arith in (
      own.0,
      ap (slice_get (flat modules library top).pins) same
          ∙ (whole
          ∙ (ap (λ (k : ℕ). Some (cell_pin k cell.is ((0 + at, pin), own.0))) n_is
          ∙ ap (λ (k : ℕ). Some (cell_pin n cell.is ((k, pin), own.0))) at_is)),
    )

-- a pin that is no port stands in its cell
pub of_cell : (modules : List Module) (library : Library) (top : Module) (number m : ℕ) (pin : FlatPin) → number ≡ length (port_pins top) + m
    → slice_get (flat_map cell_pins (enumerate_from 0 (cells_of modules library top))) m ≡ Some pin → IsOfCell modules library top number pin
of_cell modules library top number m pin number_is found =
    let cells : List PlacedCell = cells_of modules library top in
    let joined = get_flat cell_pins (enumerate_from 0 cells) m pin found in
    let numbered : ℕ × PlacedCell = joined.1 in
    let own = numbered_back 0 cells joined.0 numbered joined.3 in
    let connection = get_map (cell_pin numbered.0 numbered.1) (connected_pins numbered.1) joined.2 pin joined.4 in
    let z : (ℕ × LibPin) × List Bit = connection.0 in
    let first = zip_first (enumerate_from 0 numbered.1.kind.pins) (connected (names_of (pins_of numbered.1.kind)) numbered.1.placed.instance.links) joined.2 z connection.1 in
    let lib = numbered_back 0 numbered.1.kind.pins joined.2 z.0 first in
    let before = before_cell joined.0 cells in
    let n_is : numbered.0 ≡ joined.0 = omega (arith, own.0) in
    let at_is : z.0.0 ≡ joined.2 = omega (arith, lib.0) in
    let start = length (port_pins top) + pins_in (take joined.0 cells) in record {
      place = joined.0;
      at = joined.2;
      cell = flat_cell numbered.1 start;
      lib_pin = z.0.1;
      bits = z.1;
      cell_is = cell_there (length (port_pins top)) cells joined.0 numbered.1 own.1;
      pin_is = lib.1;
      is = connection.2
          ∙ (ap (λ (k : ℕ). cell_pin k numbered.1 z) n_is
          ∙ ap (λ (k : ℕ). cell_pin joined.0 numbered.1 ((k, z.0.1), z.1)) at_is);
      there = omega (arith, number_is, joined.5, before);
    }

-- a pin is a port's, or stands in its cell
pub pin_back : (modules : List Module) (library : Library) (top : Module) (number : ℕ) (pin : FlatPin)
    → slice_get (flat modules library top).pins number ≡ Some pin
    → (slice_get (port_pins top) number ≡ Some pin) ⊎ IsOfCell modules library top number pin
pin_back modules library top number pin at =
    elim (get_append (port_pins top) (flat_map cell_pins (enumerate_from 0 (cells_of modules library top))) number pin at) [
      | inl port ↦ inl port
      | inr after ↦ inr (of_cell modules library top number after.0 pin after.1 after.2)
    ]
