-- How many pins a design has, and that fewer things have no more parts.
use Rattle.std.proofs.Common.{◌≡◌, ◌+◌, ◌≤◌, ℕ, List, [], ◌∷◌, length, take, refl, ◌∙◌, arith}
use Rattle.std.proofs.lemmas.List.{length-append, length-map}
use Rattle.std.proofs.lemmas.List.Concat.{length-flat_map}
use Rattle.std.proofs.lemmas.List.FromFn.{length-enumerate_from}
use Rattle.std.proofs.lemmas.List.Sums.{sum_by-take-le}
use Rattle.std.proofs.lemmas.Slice.Zip.{length-zip}
use Rattle.std.specs.List.{enumerate_from, flat_map}
use Rattle.source_types.specs.declared.libraries.Library.{Library}
use Rattle.pin_types.specs.declared.library_cells.LibCell.{LibCell}
use Rattle.pin_types.specs.declared.library_cells.LibPin.{LibPin}
use Rattle.source_types.specs.declared.netlists.Bit.{Bit}
use Rattle.source_types.specs.declared.netlists.Link.{Link}
use Rattle.source_types.specs.declared.netlists.Links.{Links}
use Rattle.source_types.specs.declared.netlists.Links.TheVariants as links
use Rattle.source_types.specs.declared.netlists.Module.{Module}
use Rattle.flat_model.specs.Connections.{Terminal, connected, named_bits, names_of, ordered_bits, pins_of}
use Rattle.flat_model.specs.FlatDesign.{cell_pin, cell_pins, flat, port_pins}
use Rattle.flat_model.specs.FlatNets.{connected_pins}
use Rattle.flat_model.specs.Instances.{PlacedCell, cells_of}
use Rattle.flat_design.specs.Elaboration.{kind_pins, pins_in}

ordered_length : (names : List (List ℕ)) (connections : List (List Bit)) → length (ordered_bits names connections) ≡ length names
ordered_length [] connections = refl
ordered_length (name ∷ names) [] = let e = ordered_length names [] in omega (arith, e)
ordered_length (name ∷ names) (one ∷ connections) = let e = ordered_length names connections in omega (arith, e)

named_length : (before names : List (List ℕ)) (all : List Link) → length (named_bits before names all) ≡ length names
named_length before [] all = refl
named_length before (name ∷ names) all = let e = named_length (name ∷ before) names all in omega (arith, e)

pub connected_length : (names : List (List ℕ)) (all : Links) → length (connected names all) ≡ length names
connected_length names (links.Ordered connections) = ordered_length names connections
connected_length names (links.Named all) = named_length [] names all

-- the pins of a library cell have as many names
pub pin_names_length : (kind : LibCell) → length (names_of (pins_of kind)) ≡ length kind.pins
pin_names_length kind =
    let a : length (names_of (pins_of kind)) ≡ length (pins_of kind) = length-map (pins_of kind) (λ (terminal : Terminal). terminal.name) in
    let b : length (pins_of kind) ≡ length kind.pins = length-map kind.pins (λ (pin : LibPin). record { name = pin.name; width = 1 }) in
    a ∙ b

pub pins_connected : (cell : PlacedCell) → length (connected_pins cell) ≡ length cell.kind.pins
pins_connected cell =
    let names = names_of (pins_of cell.kind) in
    let both = length-zip (enumerate_from 0 cell.kind.pins) (connected names cell.placed.instance.links) in
    let one = length-enumerate_from 0 cell.kind.pins in
    let other = connected_length names cell.placed.instance.links in
    let own = pin_names_length cell.kind in
    omega (arith, both, one, other, own)

pub cells_length : (n : ℕ) (cells : List PlacedCell) → length (flat_map cell_pins (enumerate_from n cells)) ≡ pins_in cells
cells_length n [] = refl
cells_length n (cell ∷ cells) =
    let rest = cells_length (n + 1) cells in
    let own = length-map (connected_pins cell) (cell_pin n cell) in
    let pins = pins_connected cell in
    let a = length-append (cell_pins (n, cell)) (flat_map cell_pins (enumerate_from (n + 1) cells)) in
    let b = length-append (kind_pins cell) (flat_map kind_pins cells) in
    omega (arith, rest, own, pins, a, b)

pub pins_length : (modules : List Module) (library : Library) (top : Module)
    → length (flat modules library top).pins ≡ length (port_pins top) + pins_in (cells_of modules library top)
pins_length modules library top =
    let a = length-append (port_pins top) (flat_map cell_pins (enumerate_from 0 (cells_of modules library top))) in
    let b = cells_length 0 (cells_of modules library top) in
    omega (arith, a, b)

-- fewer things have no more parts
pub parts_le : {X Y : Type 0} (f : X → List Y) (xs : List X) (k : ℕ) → length (flat_map f (take k xs)) ≤ length (flat_map f xs)
parts_le f xs k =
    let a = length-flat_map f (take k xs) in
    let b = length-flat_map f xs in
    let c = sum_by-take-le (λ x. length (f x)) xs k in
    omega (arith, a, b, c)
