-- Where the pin of a cell stands among all pins of a design.
use Rattle.std.proofs.Common.{◌≡◌, ◌+◌, ◌<◌, ℕ, zero, suc, List, [], ◌∷◌, length, map, take, slice_get, Some, None, refl, ◌∙◌, ap, arith}
use Rattle.std.proofs.lemmas.List.{length-map}
use Rattle.std.proofs.lemmas.Option.{slice_get_within}
use Rattle.std.specs.List.{enumerate_from, flat_map}
use Rattle.pin_types.specs.declared.library_cells.LibPin.{LibPin}
use Rattle.source_types.specs.declared.netlists.Bit.{Bit}
use Rattle.flat_model.specs.Connections.{connected, names_of, pins_of}
use Rattle.flat_model.specs.FlatDesign.{FlatPin, cell_pin, cell_pins, port_pins}
use Rattle.flat_model.specs.FlatNets.{PinPlace, connected_pins, pin_of}
use Rattle.flat_model.specs.Instances.{PlacedCell, path_of}
use Rattle.text_model.proofs.ListFacts.{element_at}
use Rattle.flat_design.specs.declared.elaborate.hierarchy.Hierarchy.{Hierarchy}
use Rattle.flat_design.specs.declared.elaborate.elaboration.CellRow.{CellRow}
use Rattle.flat_design.specs.Drivers.{IsPinNumber}
use Rattle.flat_design.specs.Hierarchy.{IsHierarchy, cells_in, pins_of_design}
use Rattle.flat_design.specs.Elaboration.{pins_in}
use Rattle.flat_design.proofs.AddedDrivers.{zip_get}
use Rattle.flat_design.proofs.NumberFacts.{after_at, flat_at}
use Rattle.flat_design.proofs.PinCounts.{cells_length, connected_length, pin_names_length, pins_length}
use Rattle.flat_design.proofs.RangeFacts.{map_at}

pub numbered_at : {X : Type 0} (m : ℕ) (xs : List X) (n : ℕ) (x : X) → slice_get xs n ≡ Some x → slice_get (enumerate_from m xs) n ≡ Some (m + n, x)
numbered_at m [] n x at = let bad : None ≡ Some x = at in cc
numbered_at m (y ∷ xs) zero x at =
    let e : Some y ≡ Some x = at in
    let same : y ≡ x = cc in
    let plus : m ≡ m + 0 = omega arith in
    ap (λ z. Some (m, z)) same ∙ ap (λ (k : ℕ). Some (k, x)) plus
numbered_at m (y ∷ xs) (suc n) x at =
    let plus : m + 1 + n ≡ m + suc n = omega arith in
    numbered_at (m + 1) xs n x at ∙ ap (λ (k : ℕ). Some (k, x)) plus

pub numbered_take : {X : Type 0} (m n : ℕ) (xs : List X) → take n (enumerate_from m xs) ≡ enumerate_from m (take n xs)
numbered_take m zero [] = refl
numbered_take m zero (x ∷ xs) = refl
numbered_take m (suc n) [] = refl
numbered_take m (suc n) (x ∷ xs) = ap (λ zs. (m, x) ∷ zs) (numbered_take (m + 1) n xs)

-- a pin with what it is connected to
pub connection_at : (cell : PlacedCell) (at : ℕ) (pin : LibPin) → slice_get cell.kind.pins at ≡ Some pin
    → (bits : List Bit) × (slice_get (connected_pins cell) at ≡ Some ((0 + at, pin), bits))
connection_at cell at pin is =
    let names = names_of (pins_of cell.kind) in
    let low = slice_get_within cell.kind.pins at pin is in
    let count = connected_length names cell.placed.instance.links in
    let own = pin_names_length cell.kind in
    let here = element_at (connected names cell.placed.instance.links) at (omega (arith, low, count, own)) in
    (here.0, zip_get (enumerate_from 0 cell.kind.pins) (connected names cell.placed.instance.links) at (0 + at, pin) here.0 (numbered_at 0 cell.kind.pins at pin is) here.1)

pub pin_number : (design : Hierarchy) (n at : ℕ) (cell : PlacedCell) (row : CellRow) → IsHierarchy design → slice_get (cells_in design) n ≡ Some cell
    → at < length cell.kind.pins → slice_get design.elaboration.cells n ≡ Some row → IsPinNumber design (row.first_pin + at) (pin_of (path_of cell.placed) at)
pin_number design n at cell row is cell_at low row_at =
    let known = is.elaboration.cells n row row_at in
    let pin = element_at cell.kind.pins at low in
    let own = connection_at cell at pin.0 pin.1 in
    let ports = port_pins design.top.now in
    let cells = cells_in design in
    let one : FlatPin = cell_pin (0 + n) cell ((0 + at, pin.0), own.0) in
    let in_cell : slice_get (cell_pins (0 + n, cell)) at ≡ Some one = map_at (cell_pin (0 + n) cell) (connected_pins cell) at ((0 + at, pin.0), own.0) own.1 in
    let among : slice_get (flat_map cell_pins (enumerate_from 0 cells)) (length (flat_map cell_pins (take n (enumerate_from 0 cells))) + at) ≡ Some one =
    flat_at cell_pins (enumerate_from 0 cells) n at (0 + n, cell) one (numbered_at 0 cells n cell cell_at) in_cell in
    let whole : slice_get (pins_of_design design) (length ports + (length (flat_map cell_pins (take n (enumerate_from 0 cells))) + at)) ≡ Some one =
    after_at ports (flat_map cell_pins (enumerate_from 0 cells)) (length (flat_map cell_pins (take n (enumerate_from 0 cells))) + at) one among in
    let before : length (flat_map cell_pins (take n (enumerate_from 0 cells))) ≡ pins_in (take n cells) =
    ap (λ (xs : List (ℕ × PlacedCell)). length (flat_map cell_pins xs)) (numbered_take 0 n cells) ∙ cells_length 0 (take n cells) in
    let same : row.first_pin + at ≡ length ports + (length (flat_map cell_pins (take n (enumerate_from 0 cells))) + at) = omega (arith, before, known.first) in
    let plus : 0 + at ≡ at = omega arith in
    map_at (λ (p : FlatPin). p.place) (pins_of_design design) (row.first_pin + at) one (ap (slice_get (pins_of_design design)) same ∙ whole)
    ∙ ap (λ (k : ℕ). Some (pin_of (path_of cell.placed) k)) plus

pub pin_small : (design : Hierarchy) (number : ℕ) (place : PinPlace) → IsHierarchy design → IsPinNumber design number place → number < 1000000
pin_small design number place is at =
    let low = slice_get_within (map (λ (pin : FlatPin). pin.place) (pins_of_design design)) number place at in
    let count : length (map (λ (pin : FlatPin). pin.place) (pins_of_design design)) ≡ length (pins_of_design design) =
    length-map (pins_of_design design) (λ (pin : FlatPin). pin.place) in
    let all = pins_length design.modules.now design.library.now design.top.now in
    let own = is.elaboration.pins in
    let few = is.elaboration.few_pins in
    omega (arith, low, count, all, own, few)
