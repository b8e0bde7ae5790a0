-- What drives the nets of a flat design: a net is one bit of a module's net where the module stands (IEEE 1364-2005,
-- nets and continuous assignments). That each source counts, also one that stands twice, is this project's own rule.
-- It reads: cell outputs, input ports of the top, connections into and out of modules, assigns and ties each drive a
-- net from a pin, a value or another net; `x`, `z` and what is left open drive nothing.
use Rattle.std.specs.Prelude.{◌++◌, ◌&&◌, ℕ, Bool, true, false, List, [], ◌∷◌, filter, map, nat_eq, codes, Option, Some, None}
use Rattle.std.specs.Fmt.{decimal}
use Rattle.std.specs.Cmp.Lexicographic.{pointwise}
use Rattle.std.specs.List.{enumerate_from, filter_map, flat_map, zip}
use Rattle.source_types.specs.declared.libraries.Library.{Library}
use Rattle.pin_types.specs.declared.library_cells.Direction.{Direction}
use Rattle.pin_types.specs.declared.library_cells.Direction.TheVariants as direction
use Rattle.pin_types.specs.declared.library_cells.LibPin.{LibPin}
use Rattle.source_types.specs.declared.netlists.Assign.{Assign}
use Rattle.source_types.specs.declared.netlists.Bit.{Bit}
use Rattle.source_types.specs.declared.netlists.Bit.TheVariants as bits
use Rattle.source_types.specs.declared.netlists.Module.{Module}
use Rattle.source_types.specs.declared.netlists.Port.{Port}
use Rattle.source_types.specs.declared.netlists.Wire.{Wire}
use Rattle.flat_model.specs.Connections.{connected, names_of, pins_of, ports_of}
use Rattle.flat_model.specs.Instances.{PlacedCell, ModuleInstance, cells_of, path_of, scopes_of}
use Rattle.netlist_model.specs.Ranges.{indices}
use Rattle.text_model.specs.Words.{same_text}

-- ---- nets

-- a net of a design: the places of the instances around it, the innermost first; its name and index in its module
pub record NetBit : Type 0 where
  pub path : List ℕ
  pub name : List ℕ
  pub index : Option ℕ

abbrev pub net_bit : List ℕ → List ℕ → Option ℕ → NetBit
net_bit path name index = record { path = path; name = name; index = index }

abbrev pub same_index : Option ℕ → Option ℕ → Bool
same_index None None = true
same_index (Some i) (Some j) = nat_eq i j
same_index _ _ = false

abbrev pub same_net : NetBit → NetBit → Bool
same_net net other =
    pointwise nat_eq net.path other.path && (same_text net.name other.name && same_index net.index other.index)

-- the name of a bit: that of a scalar, or the vector's with the index in brackets
abbrev pub bit_name : List ℕ → Option ℕ → List ℕ
bit_name name None = name
bit_name name (Some i) = name ++ (codes "[" ++ (decimal i ++ codes "]"))

-- a net as it is listed, with its module instance
pub record FlatNet : Type 0 where
  pub scope : ModuleInstance
  pub wire : Wire
  pub index : Option ℕ

abbrev pub bit_of : FlatNet → NetBit
bit_of net = net_bit net.scope.path net.wire.name net.index

abbrev pub net_name : FlatNet → List ℕ
net_name net = net.scope.prefix ++ bit_name net.wire.name net.index

abbrev pub wire_nets : ModuleInstance → Wire → List FlatNet
wire_nets scope wire = map (λ index. record { scope = scope; wire = wire; index = index }) (indices wire.range)

abbrev pub nets_in : ModuleInstance → List FlatNet
nets_in scope = flat_map (wire_nets scope) scope.body.nets

-- ---- pins, and what can drive a net

-- a pin of a design: a port bit of the top, or the pin at a place of the cell at a path
pub data PinPlace : Type 0 where
  port_bit : List ℕ → Option ℕ → PinPlace
  pin_of : List ℕ → ℕ → PinPlace

pub data Origin : Type 0 where
  from_net : NetBit → Origin
  from_value : Bool → Origin
  from_pin : PinPlace → Origin

-- a driver of a net: the net, and the origin that drives it
pub record NetDriver : Type 0 where
  pub to : NetBit
  pub from : Origin

-- the net of a bit in a module at a path, and what it is as an origin
abbrev pub net_at : List ℕ → Bit → Option NetBit
net_at path (bits.Net name index) = Some (net_bit path name index)
net_at path (bits.Constant value) = None

abbrev pub origin_at : List ℕ → Bit → Option Origin
origin_at path (bits.Net name index) = Some (from_net (net_bit path name index))
origin_at path (bits.Constant value) = elim value [ None ↦ None | Some v ↦ Some (from_value v) ]

-- where there is a net and an origin, the one drives the other
abbrev pub drive : Option NetBit → Option Origin → Option NetDriver
drive (Some to) (Some from) = Some (record { to = to; from = from })
drive _ _ = None

-- ---- each kind of driver

-- an assign: bit by bit, the right side drives the left side
abbrev pub assign_drivers : List ℕ → Assign → List NetDriver
assign_drivers path assign =
    filter_map (λ (pair : Bit × Bit). drive (net_at path pair.0) (origin_at path pair.1)) (zip assign.left assign.right)

-- a tie: the value drives each bit of the net
abbrev pub tie_drivers : List ℕ → Wire → List NetDriver
tie_drivers path wire = elim wire.tie [
  | None ↦ []
  | Some v ↦ map (λ index. record { to = net_bit path wire.name index; from = from_value v }) (indices wire.range)
]

-- an input port of the top: the pin drives its net
abbrev pub top_port_drivers : Port → List NetDriver
top_port_drivers port = elim port.direction [
  | direction.Input ↦ map (λ index. record { to = net_bit [] port.name index; from = from_pin (port_bit port.name index) })
      (indices port.range)
  | direction.Output ↦ []
  | direction.Other ↦ []
]

-- a port of an inner module: the outer bit drives the inner net of an input, the inner net of an output the outer one
abbrev pub across : Direction → List ℕ → List ℕ → Bit → Bit → Option NetDriver
across direction.Input inside outside inner outer = drive (net_at inside inner) (origin_at outside outer)
across direction.Output inside outside inner outer = drive (net_at outside outer) (origin_at inside inner)
across direction.Other inside outside inner outer = None

abbrev pub port_bits : Port → List Bit
port_bits port = map (λ index. bits.Net port.name index) (indices port.range)

abbrev pub port_drivers : List ℕ → List ℕ → Port × List Bit → List NetDriver
port_drivers inside outside pair =
    filter_map (λ (one : Bit × Bit). across pair.0.direction inside outside one.0 one.1) (zip (port_bits pair.0) pair.1)

-- the path of the module around
abbrev pub outside_of : List ℕ → List ℕ
outside_of [] = []
outside_of (place ∷ path) = path

abbrev pub boundary_drivers : ModuleInstance → List NetDriver
boundary_drivers scope = elim scope.opened_by [
  | None ↦ flat_map top_port_drivers scope.body.ports
  | Some instance ↦ flat_map (port_drivers scope.path (outside_of scope.path))
      (zip scope.body.ports (connected (names_of (ports_of scope.body)) instance.links))
]

-- the pins of a cell by their places, each with the bits that it is connected to
abbrev pub connected_pins : PlacedCell → List ((ℕ × LibPin) × List Bit)
connected_pins cell =
    zip (enumerate_from 0 cell.kind.pins) (connected (names_of (pins_of cell.kind)) cell.placed.instance.links)

-- an output of a cell: the pin drives the net
abbrev pub output_drivers : PlacedCell → (ℕ × LibPin) × List Bit → List NetDriver
output_drivers cell pin = elim pin.0.1.direction [
  | direction.Input ↦ []
  | direction.Output ↦ filter_map
      (λ bit. drive (net_at cell.placed.scope.path bit) (Some (from_pin (pin_of (path_of cell.placed) pin.0.0)))) pin.1
  | direction.Other ↦ []
]

-- ---- all of them

abbrev pub scope_drivers : ModuleInstance → List NetDriver
scope_drivers scope =
    boundary_drivers scope ++ (flat_map (tie_drivers scope.path) scope.body.nets ++ flat_map (assign_drivers scope.path) scope.body.assigns)

abbrev pub cell_drivers : PlacedCell → List NetDriver
cell_drivers cell = flat_map (output_drivers cell) (connected_pins cell)

abbrev pub drivers_of : List Module → Library → Module → List NetDriver
drivers_of modules library top =
    flat_map scope_drivers (scopes_of modules top) ++ flat_map cell_drivers (cells_of modules library top)

-- the sources of a net, each as often as it stands
abbrev pub sources : List NetDriver → NetBit → List Origin
sources drivers net = map (λ (one : NetDriver). one.from) (filter (λ (one : NetDriver). same_net one.to net) drivers)
