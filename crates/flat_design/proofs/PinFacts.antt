-- The names of pins, port by port and cell by cell.
use Rattle.std.proofs.Common.{◌≡◌, ◌+◌, ◌++◌, ℕ, List, [], ◌∷◌, map, length, take, slice_get, codes, Some, refl, sym, ◌∙◌, ap, arith}
use Rattle.std.proofs.lemmas.List.{append_assoc, append-nil, map-append}
use Rattle.std.proofs.lemmas.Simd.{map-map}
use Rattle.std.specs.List.{enumerate_from, flat_map, zip}
use Rattle.source_types.specs.declared.libraries.Library.{Library}
use Rattle.pin_types.specs.declared.library_cells.LibPin.{LibPin}
use Rattle.source_types.specs.declared.netlists.Module.{Module}
use Rattle.source_types.specs.declared.netlists.Port.{Port}
use Rattle.flat_model.specs.Connections.{connected, names_of, pins_of}
use Rattle.flat_model.specs.FlatDesign.{cell_pin, cell_pins, flat, port_pin, port_pins}
use Rattle.flat_model.specs.FlatFaults.{flat_pin_name}
use Rattle.flat_model.specs.FlatNets.{connected_pins}
use Rattle.flat_model.specs.Instances.{PlacedCell, cells_of}
use Rattle.netlist_model.specs.Ranges.{indices}
use Rattle.text_model.proofs.ListFacts.{flat_map_same}
use Rattle.flat_design.specs.Hierarchy.{bit_names, cell_name, pin_names_in, port_names}
use Rattle.flat_design.proofs.NameFacts.{map_flat}
use Rattle.flat_design.proofs.PinCounts.{connected_length, pin_names_length}
use Rattle.flat_design.proofs.PlaceFacts.{flat_one}

-- the names of the pins of a cell
abbrev pub names_of_pins : PlacedCell → List (List ℕ)
names_of_pins cell = pin_names_in (cell_name cell) cell.kind.pins

-- what is beside the items of a list does not matter
beside : {A B C : Type 0} (g : A → C) (n : ℕ) (xs : List A) (ys : List B) → length ys ≡ length xs
    → map (λ (item : (ℕ × A) × B). g item.0.1) (zip (enumerate_from n xs) ys) ≡ map g xs
beside g n [] [] same = refl
beside g n [] (y ∷ ys) same = absurd (omega (arith, same))
beside g n (x ∷ xs) [] same = absurd (omega (arith, same))
beside g n (x ∷ xs) (y ∷ ys) same = ap (λ zs. g x ∷ zs) (beside g (n + 1) xs ys (omega (arith, same)))

cell_names_are : (n : ℕ) (cell : PlacedCell) → map flat_pin_name (cell_pins (n, cell)) ≡ names_of_pins cell
cell_names_are n cell =
    map-map flat_pin_name (cell_pin n cell) (connected_pins cell)
    ∙ beside (λ (pin : LibPin). cell_name cell ++ (codes "/" ++ pin.name)) 0 cell.kind.pins
    (connected (names_of (pins_of cell.kind)) cell.placed.instance.links)
    (connected_length (names_of (pins_of cell.kind)) cell.placed.instance.links ∙ pin_names_length cell.kind)

cells_names_are : (n : ℕ) (cells : List PlacedCell) → map flat_pin_name (flat_map cell_pins (enumerate_from n cells)) ≡ flat_map names_of_pins cells
cells_names_are n [] = refl
cells_names_are n (cell ∷ cells) =
    map-append flat_pin_name (cell_pins (n, cell)) (flat_map cell_pins (enumerate_from (n + 1) cells))
    ∙ (ap (λ (xs : List (List ℕ)). xs ++ map flat_pin_name (flat_map cell_pins (enumerate_from (n + 1) cells))) (cell_names_are n cell)
    ∙ ap (λ (xs : List (List ℕ)). names_of_pins cell ++ xs) (cells_names_are (n + 1) cells))

pub ports_names_are : (top : Module) → map flat_pin_name (port_pins top) ≡ port_names top.ports
ports_names_are top =
    map_flat flat_pin_name (λ (port : Port). map (port_pin port) (indices port.range)) top.ports
    ∙ flat_map_same (λ (port : Port). map flat_pin_name (map (port_pin port) (indices port.range))) (λ (port : Port). bit_names [] port.name port.range)
    (λ port. map-map flat_pin_name (port_pin port) (indices port.range)) top.ports

pub all_names_are : (modules : List Module) (library : Library) (top : Module)
    → port_names top.ports ++ flat_map names_of_pins (cells_of modules library top) ≡ map flat_pin_name (flat modules library top).pins
all_names_are modules library top =
    sym (map-append flat_pin_name (port_pins top) (flat_map cell_pins (enumerate_from 0 (cells_of modules library top)))
    ∙ (ap (λ (xs : List (List ℕ)). xs ++ map flat_pin_name (flat_map cell_pins (enumerate_from 0 (cells_of modules library top)))) (ports_names_are top)
    ∙ ap (λ (xs : List (List ℕ)). port_names top.ports ++ xs) (cells_names_are 0 (cells_of modules library top))))

-- the names of one more cell's pins
pub pins_more : (front : List (List ℕ)) (cells : List PlacedCell) (n : ℕ) (cell : PlacedCell) (names : List (List ℕ)) (own : List ℕ) (pins : List LibPin)
    → slice_get cells n ≡ Some cell → own ≡ cell_name cell → pins ≡ cell.kind.pins → names ≡ front ++ flat_map names_of_pins (take n cells)
    → names ++ pin_names_in own pins ≡ front ++ flat_map names_of_pins (take (n + 1) cells)
pins_more front cells n cell names own pins at named same so_far =
    ap (λ (xs : List (List ℕ)). xs ++ pin_names_in own pins) so_far
    ∙ (append_assoc front (flat_map names_of_pins (take n cells)) (pin_names_in own pins)
    ∙ ap (λ (xs : List (List ℕ)). front ++ xs)
    (ap (λ (name : List ℕ). flat_map names_of_pins (take n cells) ++ pin_names_in name pins) named
    ∙ (ap (λ (ps : List LibPin). flat_map names_of_pins (take n cells) ++ pin_names_in (cell_name cell) ps) same
    ∙ (ap (λ (xs : List (List ℕ)). flat_map names_of_pins (take n cells) ++ xs) (sym (append-nil (names_of_pins cell)))
    ∙ sym (flat_one names_of_pins cells n cell at)))))
