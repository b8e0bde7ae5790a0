-- The cells of a flat design by their places, and the names of their pins among those of all pins.
use Rattle.std.proofs.Common.{◌≡◌, ◌+◌, ◌≤◌, ℕ, zero, suc, List, [], ◌∷◌, ◌++◌, length, map, take, slice_get, codes, Some, None, refl, sym, ◌∙◌, ap, arith}
use Rattle.std.proofs.lemmas.List.{length-append, length-map}
use Rattle.std.specs.List.{flat_map}
use Rattle.pin_types.specs.declared.library_cells.LibPin.{LibPin}
use Rattle.flat_model.specs.FlatDesign.{FlatCell, cells_from, pin_name, port_pins}
use Rattle.flat_model.specs.FlatFaults.{flat_pin_name}
use Rattle.flat_model.specs.Instances.{PlacedCell}
use Rattle.flat_design.specs.declared.elaborate.hierarchy.Hierarchy.{Hierarchy}
use Rattle.flat_design.specs.declared.elaborate.elaboration.CellRow.{CellRow}
use Rattle.flat_design.specs.Hierarchy.{IsHierarchy, cell_name, cells_in, pins_of_design, port_names}
use Rattle.flat_design.specs.Elaboration.{kind_pins, pins_in}
use Rattle.flat_design.specs.NamedFaults.{flat_of}
use Rattle.flat_design.proofs.NumberFacts.{after_at, flat_at}
use Rattle.flat_design.proofs.PinCounts.{parts_le, pins_length}
use Rattle.flat_design.proofs.PinFacts.{all_names_are, names_of_pins, ports_names_are}
use Rattle.flat_design.proofs.PlaceFacts.{parts_more}
use Rattle.flat_design.proofs.RangeFacts.{map_at}

-- ---- cells

pub cells_count : (first : ℕ) (cells : List PlacedCell) → length (cells_from first cells) ≡ length cells
cells_count first [] = refl
cells_count first (cell ∷ cells) = let e = cells_count (first + length cell.kind.pins) cells in omega (arith, e)

-- a cell with the number of its first pin
abbrev pub flat_cell : PlacedCell → ℕ → FlatCell
flat_cell cell first = record { is = cell; first = first }

pub cell_there : (first : ℕ) (cells : List PlacedCell) (n : ℕ) (cell : PlacedCell) → slice_get cells n ≡ Some cell
    → slice_get (cells_from first cells) n ≡ Some (flat_cell cell (first + pins_in (take n cells)))
cell_there first [] n cell at = let bad : None ≡ Some cell = at in cc
cell_there first (c ∷ cells) zero cell at =
    let e : Some c ≡ Some cell = at in
    let same : c ≡ cell = cc in
    let none : pins_in [] ≡ 0 = refl in
    let plus : first ≡ first + pins_in [] = omega (arith, none) in
    ap (λ (x : PlacedCell). Some (flat_cell x first)) same ∙ ap (λ (k : ℕ). Some (flat_cell cell k)) plus
cell_there first (c ∷ cells) (suc n) cell at =
    let long = length-append (kind_pins c) (flat_map kind_pins (take n cells)) in
    let plus : first + length c.kind.pins + pins_in (take n cells) ≡ first + pins_in (c ∷ take n cells) = omega (arith, long) in
    cell_there (first + length c.kind.pins) cells n cell at ∙ ap (λ (k : ℕ). Some (flat_cell cell k)) plus

-- a cell stands after the pins of those before it
pub cell_back : (first : ℕ) (cells : List PlacedCell) (n : ℕ) (cell : FlatCell) → slice_get (cells_from first cells) n ≡ Some cell
    → (slice_get cells n ≡ Some cell.is) × (cell.first ≡ first + pins_in (take n cells))
cell_back first [] n cell at = let bad : None ≡ Some cell = at in cc
cell_back first (one ∷ cells) zero cell at =
    let e : Some (flat_cell one first) ≡ Some cell = at in
    let same : flat_cell one first ≡ cell = cc in
    let none : first ≡ first + 0 = omega arith in
    (ap (λ (c : FlatCell). Some c.is) same, ap (λ (c : FlatCell). c.first) (sym same) ∙ none)
cell_back first (one ∷ cells) (suc n) cell at =
    let rest = cell_back (first + length one.kind.pins) cells n cell at in
    let more = length-append (kind_pins one) (flat_map kind_pins (take n cells)) in
    (rest.0, omega (arith, rest.1, more))

-- the names of the cells before one
pub names_before : (first : ℕ) (cells : List PlacedCell) (n : ℕ)
    → map (λ (cell : FlatCell). cell_name cell.is) (take n (cells_from first cells)) ≡ take n (map cell_name cells)
names_before first [] zero = refl
names_before first [] (suc n) = refl
names_before first (cell ∷ cells) zero = refl
names_before first (cell ∷ cells) (suc n) = ap (λ (names : List (List ℕ)). cell_name cell ∷ names) (names_before (first + length cell.kind.pins) cells n)

-- ---- pins

names_count : (cells : List PlacedCell) → length (flat_map names_of_pins cells) ≡ pins_in cells
names_count [] = refl
names_count (cell ∷ cells) =
    let rest = names_count cells in
    let a = length-append (names_of_pins cell) (flat_map names_of_pins cells) in
    let b = length-append (kind_pins cell) (flat_map kind_pins cells) in
    let own : length (names_of_pins cell) ≡ length cell.kind.pins = length-map cell.kind.pins (λ (pin : LibPin). cell_name cell ++ (codes "/" ++ pin.name)) in
    omega (arith, rest, a, b, own)

-- the name of a pin of a cell stands after those of the ports and of the cells before it
pub pin_named_at : (design : Hierarchy) (n at : ℕ) (cell : PlacedCell) (pin : LibPin) → slice_get (cells_in design) n ≡ Some cell → slice_get cell.kind.pins at ≡ Some pin
    → slice_get (map flat_pin_name (pins_of_design design)) (length (port_pins design.top.now) + pins_in (take n (cells_in design)) + at) ≡ Some (pin_name cell pin)
pin_named_at design n at cell pin cell_is pin_is =
    let top = design.top.now in
    let cells = cells_in design in
    let ports : length (port_names top.ports) ≡ length (port_pins top) =
    ap length (sym (ports_names_are top)) ∙ length-map (port_pins top) flat_pin_name in
    let before = names_count (take n cells) in
    let place : length (port_pins top) + pins_in (take n cells) + at ≡ length (port_names top.ports) + (length (flat_map names_of_pins (take n cells)) + at) =
    omega (arith, ports, before) in
    let own : slice_get (names_of_pins cell) at ≡ Some (pin_name cell pin) =
    map_at (λ (one : LibPin). cell_name cell ++ (codes "/" ++ one.name)) cell.kind.pins at pin pin_is in
    ap (λ (names : List (List ℕ)). slice_get names (length (port_pins top) + pins_in (take n cells) + at)) (sym (all_names_are design.modules.now design.library.now top))
    ∙ (ap (slice_get (port_names top.ports ++ flat_map names_of_pins cells)) place
    ∙ after_at (port_names top.ports) (flat_map names_of_pins cells) (length (flat_map names_of_pins (take n cells)) + at) (pin_name cell pin)
    (flat_at names_of_pins cells n at cell (pin_name cell pin) cell_is own))

-- the pins of a cell are among all pins
pub pins_fit : (design : Hierarchy) (n : ℕ) (cell : PlacedCell) → slice_get (cells_in design) n ≡ Some cell
    → length (port_pins design.top.now) + pins_in (take n (cells_in design)) + length cell.kind.pins ≤ length (map flat_pin_name (pins_of_design design))
pins_fit design n cell at =
    let cells = cells_in design in
    let count = length-map (pins_of_design design) flat_pin_name in
    let all = pins_length design.modules.now design.library.now design.top.now in
    let one = parts_more kind_pins cells n cell at in
    let few = parts_le kind_pins cells (n + 1) in
    omega (arith, count, all, one, few)

-- ---- rows

-- what the row of a cell says of the flat cell
pub row_says : (design : Hierarchy) (n : ℕ) (row : CellRow) (cell : FlatCell) → IsHierarchy design → slice_get design.elaboration.cells n ≡ Some row
    → slice_get (flat_of design).cells n ≡ Some cell
    → (slice_get (cells_in design) n ≡ Some cell.is) × (cell.first ≡ length (port_pins design.top.now) + pins_in (take n (cells_in design))) × (row.first_pin ≡ cell.first)
row_says design n row cell is row_at at =
    let known = is.elaboration.cells n row row_at in
    let own = cell_back (length (port_pins design.top.now)) (cells_in design) n cell at in
    (own.0, own.1, known.first ∙ sym own.1)
