-- What the instances of a netlist connect (IEEE 1364-2005, connection by order and by name), and whether it fits. Which
-- connections are refused is this project's own rule.
-- It reads: a terminal is a port of a module or a pin of a library cell; an empty connection fits each; any other has
-- the width of its terminal; a name is that of a terminal and stands once.
use Rattle.std.specs.Prelude.{◌==◌, ◌&&◌, ◌||◌, ℕ, Bool, true, false, not, List, [], ◌∷◌, length, map, Option, Some, None, if◌then◌else◌}
use Rattle.std.specs.List.{find, list_any}
use Rattle.source_types.specs.declared.fault_kinds.DesignKind.{DesignKind}
use Rattle.source_types.specs.declared.fault_kinds.DesignKind.TheVariants as fault
use Rattle.source_types.specs.declared.libraries.Library.{Library}
use Rattle.pin_types.specs.declared.library_cells.LibCell.{LibCell}
use Rattle.pin_types.specs.declared.library_cells.LibPin.{LibPin}
use Rattle.source_types.specs.declared.netlists.Bit.{Bit}
use Rattle.source_types.specs.declared.netlists.Link.{Link}
use Rattle.source_types.specs.declared.netlists.Links.{Links}
use Rattle.source_types.specs.declared.netlists.Links.TheVariants as links
use Rattle.source_types.specs.declared.netlists.Module.{Module}
use Rattle.source_types.specs.declared.netlists.Port.{Port}
use Rattle.flat_model.specs.Instances.{Placed, ModuleInstance, a_cell, a_module, meant, stands_in, unknown}
use Rattle.netlist_model.specs.Ranges.{width}
use Rattle.text_model.specs.Words.{same_text}

-- ---- terminals

pub record Terminal : Type 0 where
  pub name : List ℕ
  pub width : ℕ

abbrev pub ports_of : Module → List Terminal
ports_of m = map (λ (port : Port). record { name = port.name; width = width port.range }) m.ports

abbrev pub pins_of : LibCell → List Terminal
pins_of cell = map (λ (pin : LibPin). record { name = pin.name; width = 1 }) cell.pins

abbrev pub names_of : List Terminal → List (List ℕ)
names_of terminals = map (λ (terminal : Terminal). terminal.name) terminals

-- ---- what fits

abbrev pub fits : ℕ → List Bit → Bool
fits width bits = (length bits == 0) || (length bits == width)

-- by order: no more connections than terminals, each fitting
abbrev pub ordered_fit : List Terminal → List (List Bit) → Bool
ordered_fit terminals [] = true
ordered_fit [] (connection ∷ connections) = false
ordered_fit (terminal ∷ terminals) (connection ∷ connections) =
    fits terminal.width connection && ordered_fit terminals connections

-- by name: a terminal of the name is there, and the connection fits it
abbrev pub link_fits : List Terminal → Link → Bool
link_fits terminals link =
    elim (find (λ (terminal : Terminal). same_text terminal.name link.port) terminals) [
      | None ↦ false
      | Some terminal ↦ fits terminal.width link.bits
    ]

-- each fits, and none has a name that already stands
abbrev pub named_fit : List Terminal → List (List ℕ) → List Link → Bool
named_fit terminals before [] = true
named_fit terminals before (link ∷ rest) =
    link_fits terminals link && (not (list_any (same_text link.port) before) && named_fit terminals (link.port ∷ before) rest)

abbrev pub links_fit : List Terminal → Links → Bool
links_fit terminals (links.Ordered connections) = ordered_fit terminals connections
links_fit terminals (links.Named all) = named_fit terminals [] all

-- ---- what a terminal is connected to

-- by order: a terminal without a connection has an empty one
abbrev pub ordered_bits : List (List ℕ) → List (List Bit) → List (List Bit)
ordered_bits [] connections = []
ordered_bits (name ∷ names) [] = [] ∷ ordered_bits names []
ordered_bits (name ∷ names) (connection ∷ connections) = connection ∷ ordered_bits names connections

abbrev pub bits_named : List Link → List ℕ → List Bit
bits_named all name = elim (find (λ (link : Link). same_text link.port name) all) [ None ↦ [] | Some link ↦ link.bits ]

-- by name: of several terminals of one name, the first is meant
abbrev pub named_bits : List (List ℕ) → List (List ℕ) → List Link → List (List Bit)
named_bits before [] all = []
named_bits before (name ∷ names) all =
    (if list_any (same_text name) before then [] else bits_named all name) ∷ named_bits (name ∷ before) names all

-- the bits at each terminal, in the order of the terminals' names
abbrev pub connected : List (List ℕ) → Links → List (List Bit)
connected names (links.Ordered connections) = ordered_bits names connections
connected names (links.Named all) = named_bits [] names all

-- ---- what is wrong with an instance

abbrev pub width_fault : List Terminal → Links → Option DesignKind
width_fault terminals all = if links_fit terminals all then None else Some fault.WidthMismatch

abbrev pub module_fault : ModuleInstance → Module → Links → Option DesignKind
module_fault scope m all = if stands_in m scope then Some fault.ModuleCycle else width_fault (ports_of m) all

abbrev pub cell_fault : LibCell → Links → Option DesignKind
cell_fault cell all = if cell.refused then Some fault.UnsupportedCell else width_fault (pins_of cell) all

abbrev pub instance_fault : List Module → Library → Placed → Option DesignKind
instance_fault modules library placed =
    elim (meant modules library placed.instance.kind) [
      | a_module m ↦ module_fault placed.scope m placed.instance.links
      | a_cell cell ↦ cell_fault cell placed.instance.links
      | unknown ↦ Some fault.UnknownModule
    ]
