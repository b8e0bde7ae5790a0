-- Small netlists by example: the pins, cells and sources of two registers in a row, and one netlist for each kind of
-- fault. Each is worked out by hand from the rules of flattening.
use Rattle.std.proofs.Common.{◌≡◌, ℕ, Bool, false, true, List, [], ◌∷◌, map, codes, Option, Some, None, refl}
use Rattle.std.specs.Prelude.{pos, Err}
use Rattle.source_types.specs.declared.fault_kinds.DesignKind.{DesignKind}
use Rattle.source_types.specs.declared.fault_kinds.DesignKind.TheVariants as fault
use Rattle.source_types.specs.declared.libraries.Library.{Library}
use Rattle.pin_types.specs.declared.library_cells.Direction.{Direction}
use Rattle.pin_types.specs.declared.library_cells.Direction.TheVariants as direction
use Rattle.pin_types.specs.declared.library_cells.LibCell.{LibCell}
use Rattle.pin_types.specs.declared.library_cells.LibPin.{LibPin}
use Rattle.source_types.specs.declared.netlists.Assign.{Assign}
use Rattle.source_types.specs.declared.netlists.Bit.{Bit}
use Rattle.source_types.specs.declared.netlists.Bit.TheVariants as bits
use Rattle.source_types.specs.declared.netlists.Instance.{Instance}
use Rattle.source_types.specs.declared.netlists.Link.{Link}
use Rattle.source_types.specs.declared.netlists.Links.TheVariants as links
use Rattle.source_types.specs.declared.netlists.Module.{Module}
use Rattle.source_types.specs.declared.netlists.Port.{Port}
use Rattle.source_types.specs.declared.netlists.Wire.{Wire}
use Rattle.flat_model.specs.Connections.{instance_fault}
use Rattle.flat_model.specs.FlatDesign.{Flat, FlatPin, flat}
use Rattle.flat_model.specs.FlatFaults.{cell_name, flat_pin_name}
use Rattle.flat_model.specs.Flattening.{Flattens, fault_of}
use Rattle.flat_model.specs.FlatNets.{FlatNet, Origin, from_net, from_pin, from_value, net_bit, net_name, pin_of, port_bit, sources}
use Rattle.flat_model.specs.Instances.{instances_of}
use Rattle.text_model.specs.Names.{is_good_name}

-- ---- a library of a register and a buffer, and a cell that is refused

abbrev lib_pin : List ℕ → Direction → LibPin
lib_pin name way = record { name = name; direction = way; function = None }

abbrev cell : List ℕ → List LibPin → Bool → LibCell
cell name pins refused = record { name = name; pins = pins; arcs = []; checks = []; refused = refused }

abbrev flip_flop : LibCell
flip_flop = cell (codes "DFF")
    (lib_pin (codes "D") direction.Input ∷ lib_pin (codes "CK") direction.Input ∷ lib_pin (codes "Q") direction.Output ∷ []) false

abbrev buffer : LibCell
buffer = cell (codes "BUF") (lib_pin (codes "A") direction.Input ∷ lib_pin (codes "Z") direction.Output ∷ []) false

abbrev library : Library
library = record { unit = pos 1000000; cells = flip_flop ∷ buffer ∷ cell (codes "B2") [] true ∷ [] }

-- ---- netlists of scalars

abbrev wire : List ℕ → Wire
wire name = record { name = name; range = None; tie = None }

abbrev port : Direction → List ℕ → Port
port way name = record { name = name; direction = way; range = None }

abbrev scalar : List ℕ → List Bit
scalar name = bits.Net name None ∷ []

abbrev link : List ℕ → List ℕ → Link
link terminal net = record { port = terminal; bits = scalar net }

abbrev instance_of : List ℕ → List ℕ → List Link → Instance
instance_of kind name all = record { line = 1; kind = kind; name = name; links = links.Named all }

abbrev assign : List ℕ → List ℕ → Assign
assign to from = record { left = scalar to; right = scalar from }

abbrev netlist : List ℕ → List Wire → List Instance → List Assign → Module
netlist name nets instances assigns =
    record { name = name; line = 1; ports = []; nets = nets; instances = instances; assigns = assigns }

-- ---- two registers in a row

abbrev register : List ℕ → List ℕ → List ℕ → Instance
register name d q = instance_of (codes "DFF") name (link (codes "D") d ∷ link (codes "CK") (codes "clk") ∷ link (codes "Q") q ∷ [])

abbrev two_registers : Module
two_registers = record {
  name = codes "top";
  line = 1;
  ports = port direction.Input (codes "clk") ∷ port direction.Input (codes "d") ∷ port direction.Output (codes "q") ∷ [];
  nets = wire (codes "clk") ∷ wire (codes "d") ∷ wire (codes "q") ∷ wire (codes "n1") ∷ [];
  instances = register (codes "r1") (codes "d") (codes "n1") ∷ register (codes "r2") (codes "n1") (codes "q") ∷ [];
  assigns = [];
}

abbrev flat_registers : Flat
flat_registers = flat (two_registers ∷ []) library two_registers

-- its pins in order
pins_in_order : map flat_pin_name flat_registers.pins
    ≡ codes "clk" ∷ codes "d" ∷ codes "q" ∷ codes "r1/D" ∷ codes "r1/CK" ∷ codes "r1/Q" ∷ codes "r2/D" ∷ codes "r2/CK" ∷ codes "r2/Q" ∷ []
pins_in_order = refl

abbrev at : List ℕ → Option Origin
at name = Some (from_net (net_bit [] name None))

-- what its pins are connected to, where they are loads
loads : map (λ (pin : FlatPin). pin.load) flat_registers.pins
    ≡ None ∷ None ∷ at (codes "q") ∷ at (codes "d") ∷ at (codes "clk") ∷ None ∷ at (codes "n1") ∷ at (codes "clk") ∷ None ∷ []
loads = refl

-- its nets each have one source: the ports, and the outputs of the registers
abbrev source_of : List ℕ → List Origin
source_of name = sources flat_registers.drivers (net_bit [] name None)

source_of_clk : source_of (codes "clk") ≡ from_pin (port_bit (codes "clk") None) ∷ []
source_of_clk = refl

source_of_d : source_of (codes "d") ≡ from_pin (port_bit (codes "d") None) ∷ []
source_of_d = refl

source_of_n1 : source_of (codes "n1") ≡ from_pin (pin_of (0 ∷ []) 2) ∷ []
source_of_n1 = refl

source_of_q : source_of (codes "q") ≡ from_pin (pin_of (1 ∷ []) 2) ∷ []
source_of_q = refl

-- ---- faults of instances

abbrev faults : List Module → Module → List (Option DesignKind)
faults modules top = map (instance_fault modules library) (instances_of modules top)

abbrev with_one : List ℕ → Module
with_one kind = netlist (codes "top") [] (instance_of kind (codes "u") [] ∷ []) []

abbrev faults_with : List ℕ → List (Option DesignKind)
faults_with kind = faults (with_one kind ∷ []) (with_one kind)

unknown_module : faults_with (codes "NAND9") ≡ Some fault.UnknownModule ∷ []
unknown_module = refl

module_cycle : faults_with (codes "top") ≡ Some fault.ModuleCycle ∷ []
module_cycle = refl

unsupported_cell : faults_with (codes "B2") ≡ Some fault.UnsupportedCell ∷ []
unsupported_cell = refl

no_fault : faults_with (codes "BUF") ≡ None ∷ []
no_fault = refl

-- ---- faults of nets and cells

abbrev flat_of : Module → Flat
flat_of top = flat (top ∷ []) library top

abbrev sources_in : Module → List ℕ → List Origin
sources_in top name = sources (flat_of top).drivers (net_bit [] name None)

abbrev two_buffers : Module
two_buffers = netlist (codes "top") (wire (codes "n") ∷ [])
    (instance_of (codes "BUF") (codes "a") (link (codes "Z") (codes "n") ∷ [])
    ∷ instance_of (codes "BUF") (codes "b") (link (codes "Z") (codes "n") ∷ []) ∷ []) []

two_drivers : sources_in two_buffers (codes "n") ≡ from_pin (pin_of (0 ∷ []) 1) ∷ from_pin (pin_of (1 ∷ []) 1) ∷ []
two_drivers = refl

abbrev cycle : Module
cycle = netlist (codes "top") (wire (codes "a") ∷ wire (codes "b") ∷ []) []
    (assign (codes "a") (codes "b") ∷ assign (codes "b") (codes "a") ∷ [])

a_from_b : sources_in cycle (codes "a") ≡ from_net (net_bit [] (codes "b") None) ∷ []
a_from_b = refl

b_from_a : sources_in cycle (codes "b") ≡ from_net (net_bit [] (codes "a") None) ∷ []
b_from_a = refl

bad_name : map (λ (n : FlatNet). is_good_name (net_name n)) (flat_of (netlist (codes "top") (wire (codes "a*b") ∷ []) [] [])).nets
    ≡ false ∷ []
bad_name = refl

-- a cell of a module, and one beside it of the same name
abbrev inner : Module
inner = netlist (codes "m") [] (instance_of (codes "BUF") (codes "b") [] ∷ []) []

abbrev outer : Module
outer = netlist (codes "top") [] (instance_of (codes "BUF") (codes "a/b") [] ∷ instance_of (codes "m") (codes "a") [] ∷ []) []

double_name : map cell_name (flat (inner ∷ outer ∷ []) library outer).cells ≡ codes "a/b" ∷ codes "a/b" ∷ []
double_name = refl

-- ---- a top that is missing

missing_top : Flattens [] library (codes "top") (Err (fault_of 0 fault.UnknownModule))
missing_top = refl

-- ---- hierarchy

-- a module that assigns its input to its output, and an instance of it whose input is zero
abbrev through : Module
through = record {
  name = codes "m";
  line = 1;
  ports = port direction.Input (codes "i") ∷ port direction.Output (codes "o") ∷ [];
  nets = wire (codes "i") ∷ wire (codes "o") ∷ [];
  instances = [];
  assigns = assign (codes "o") (codes "i") ∷ [];
}

abbrev around : Module
around = netlist (codes "top") (wire (codes "z") ∷ []) (record {
  line = 1;
  kind = codes "m";
  name = codes "u";
  links = links.Ordered ((bits.Constant (Some false) ∷ []) ∷ scalar (codes "z") ∷ []);
} ∷ []) []

abbrev flat_around : Flat
flat_around = flat (through ∷ around ∷ []) library around

-- the top's net comes before those of the instance
nets_in_order : map net_name flat_around.nets ≡ codes "z" ∷ codes "u/i" ∷ codes "u/o" ∷ []
nets_in_order = refl

-- the outer net is driven by the inner output, that by the inner input, and that by the constant
source_of_z : sources flat_around.drivers (net_bit [] (codes "z") None) ≡ from_net (net_bit (0 ∷ []) (codes "o") None) ∷ []
source_of_z = refl

source_of_o : sources flat_around.drivers (net_bit (0 ∷ []) (codes "o") None) ≡ from_net (net_bit (0 ∷ []) (codes "i") None) ∷ []
source_of_o = refl

source_of_i : sources flat_around.drivers (net_bit (0 ∷ []) (codes "i") None) ≡ from_value false ∷ []
source_of_i = refl
