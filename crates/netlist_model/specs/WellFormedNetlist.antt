-- Well-formed netlists: what reading a Verilog text gives, and what flattening takes (IEEE 1364-2005). This project's
-- own choice of facts. It reads sentence by sentence: names are each the name of one module, and of one net; ports are
-- inputs and outputs alone; nets begin with the ports; bits name nets that are there; and the sides of an assignment
-- have one width, with no constant on the left.
use Rattle.std.specs.Prelude.{◌≡◌, ◌++◌, ◌≤◌, ◌⊎◌, ℕ, List, length, map, Option, Some, None}
use Rattle.std.specs.List.{All, AllZip, Contains, flat_map}
use Rattle.pin_types.specs.declared.library_cells.Direction.TheVariants as direction
use Rattle.source_types.specs.declared.netlists.Assign.{Assign}
use Rattle.source_types.specs.declared.netlists.Bit.{Bit}
use Rattle.source_types.specs.declared.netlists.Bit.TheVariants as bits
use Rattle.source_types.specs.declared.netlists.Link.{Link}
use Rattle.source_types.specs.declared.netlists.Links.{Links}
use Rattle.source_types.specs.declared.netlists.Links.TheVariants as links
use Rattle.source_types.specs.declared.netlists.Module.{Module}
use Rattle.source_types.specs.declared.netlists.Port.{Port}
use Rattle.source_types.specs.declared.netlists.Range.{Range}
use Rattle.source_types.specs.declared.netlists.Wire.{Wire}
use Rattle.text_model.specs.Names.{AreDistinct}

-- a net that is a port has its name and its range, and is tied to nothing
abbrev pub net_of_port : Port → Wire
net_of_port port = record { name = port.name; range = port.range; tie = None }

-- a net has the name and the range of a port
abbrev pub IsNetOfPort : Port → Wire → Type 0
IsNetOfPort port net = (net.name ≡ port.name) × (net.range ≡ port.range)

-- an index is between the bounds of a range
abbrev pub IsBetween : Range → ℕ → Type 0
IsBetween range i = ((range.left ≤ i) × (i ≤ range.right)) ⊎ ((range.right ≤ i) × (i ≤ range.left))

-- an index stands exactly where the net has a range, and in it
abbrev pub Selects : Option ℕ → Option Range → Type 0
Selects None None = Unit {0}
Selects (Some i) (Some range) = IsBetween range i
Selects None (Some range) = ⊥
Selects (Some i) None = ⊥

-- a bit of a net of the module
abbrev pub IsNetBit : List Wire → List ℕ → Option ℕ → Type 0
IsNetBit nets name index = (net : Wire) × Contains nets net × (net.name ≡ name) × Selects index net.range

-- a constant, or a bit of a net
abbrev pub IsBitOf : List Wire → Bit → Type 0
IsBitOf nets (bits.Net name index) = IsNetBit nets name index
IsBitOf nets (bits.Constant value) = Unit {0}

-- a bit of a net, and no constant
abbrev pub IsDriven : List Wire → Bit → Type 0
IsDriven nets (bits.Net name index) = IsNetBit nets name index
IsDriven nets (bits.Constant value) = ⊥

-- all bits that an instance connects
abbrev pub linked : Links → List Bit
linked (links.Ordered connections) = flat_map (λ (connection : List Bit). connection) connections
linked (links.Named all) = flat_map (λ (link : Link). link.bits) all

-- both sides of an assignment have one width, and no constant stands on the left
abbrev pub IsAssignOf : List Wire → Assign → Type 0
IsAssignOf nets assign =
    (length assign.left ≡ length assign.right) × All (IsDriven nets) assign.left × All (IsBitOf nets) assign.right

pub record IsWellFormedModule (m : Module) : Type 0 where
  pub directions : All (λ port. port.direction ≡ direction.Other → ⊥) m.ports
  pub ports : (own : List Wire) × (wires : List Wire) × (m.nets ≡ own ++ wires) × AllZip IsNetOfPort m.ports own
  pub names : AreDistinct (map (λ (net : Wire). net.name) m.nets)
  pub instances : All (λ instance. All (IsBitOf m.nets) (linked instance.links)) m.instances
  pub assigns : All (IsAssignOf m.nets) m.assigns

-- what the modules of a netlist are
abbrev pub IsWellFormedNetlist : List Module → Type 0
IsWellFormedNetlist modules = All IsWellFormedModule modules × AreDistinct (map (λ (m : Module). m.name) modules)
