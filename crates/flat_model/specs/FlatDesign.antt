-- The flat design of a netlist over a library: its pins, cells and nets in order, and the driver of each load. The
-- order and the names (an instance's name and `/` in front) are this project's own.
-- It reads: pins are the port bits of the top and then those of each cell; a driver is found by following sources from
-- net to net until there is none or it is no net.
use Rattle.std.specs.Prelude.{◌≡◌, ◌++◌, ◌+◌, ◌⊎◌, ℕ, true, false, List, [], ◌∷◌, length, map, slice_get, codes, Option, Some, None}
use Rattle.std.specs.List.{AllZip, Contains, enumerate_from, flat_map}
use Rattle.timing_types.specs.declared.designs.CellInfo.{CellInfo}
use Rattle.timing_types.specs.declared.designs.Design.{Design}
use Rattle.timing_types.specs.declared.designs.NetInfo.{NetInfo}
use Rattle.timing_types.specs.declared.designs.PinInfo.{PinInfo}
use Rattle.timing_types.specs.declared.designs.Role.{Role}
use Rattle.timing_types.specs.declared.designs.Role.TheVariants.{InPort, OutPort}
use Rattle.timing_types.specs.declared.designs.Source.{Source}
use Rattle.timing_types.specs.declared.designs.Source.TheVariants as source
use Rattle.source_types.specs.declared.libraries.Library.{Library}
use Rattle.pin_types.specs.declared.library_cells.Direction.{Direction}
use Rattle.pin_types.specs.declared.library_cells.Direction.TheVariants as direction
use Rattle.pin_types.specs.declared.library_cells.LibPin.{LibPin}
use Rattle.source_types.specs.declared.netlists.Bit.{Bit}
use Rattle.source_types.specs.declared.netlists.Module.{Module}
use Rattle.source_types.specs.declared.netlists.Port.{Port}
use Rattle.flat_model.specs.FlatNets.{NetDriver, FlatNet, NetBit, Origin, PinPlace, bit_name, bit_of, connected_pins, drivers_of, from_net, from_pin, from_value, net_bit, net_name, nets_in, origin_at, pin_of, port_bit, sources}
use Rattle.flat_model.specs.Instances.{Placed, PlacedCell, cells_of, full_name, instances_of, path_of, scopes_of}
use Rattle.netlist_model.specs.Ranges.{indices}
use Rattle.design_model.specs.WellFormedDesign.{role_in_cell}

-- ---- following sources

-- sources lead from a net over these nets to an end, which may be the net itself
abbrev pub Leads : List NetDriver → NetBit → List NetBit → NetBit → Type 0
Leads drivers net [] end = Contains (sources drivers net) (from_net end)
Leads drivers net (next ∷ nets) end = Contains (sources drivers net) (from_net next) × Leads drivers next nets end

-- following sources from a net can come back to it
abbrev pub ComesBack : List NetDriver → NetBit → Type 0
ComesBack drivers net = (nets : List NetBit) × Leads drivers net nets net

-- a net is another, or sources lead to that
abbrev pub Reaches : List NetDriver → NetBit → NetBit → Type 0
Reaches drivers net end = (net ≡ end) ⊎ ((nets : List NetBit) × Leads drivers net nets end)

-- a net has this source, which is no net, or it has none
abbrev pub EndsIn : List PinPlace → List NetDriver → NetBit → Source → Type 0
EndsIn pins drivers net source.Nothing = sources drivers net ≡ []
EndsIn pins drivers net source.Zero = Contains (sources drivers net) (from_value false)
EndsIn pins drivers net source.One = Contains (sources drivers net) (from_value true)
EndsIn pins drivers net (source.Pin pin) =
    (place : PinPlace) × (slice_get pins pin.0 ≡ Some place) × Contains (sources drivers net) (from_pin place)

-- the source that is found by following sources from a net
abbrev pub IsSourceOf : List PinPlace → List NetDriver → NetBit → Source → Type 0
IsSourceOf pins drivers net found = (end : NetBit) × Reaches drivers net end × EndsIn pins drivers end found

-- ---- pins

-- a pin: where it stands, what a design says of it, and, where it is a load, what it is connected to
pub record FlatPin : Type 0 where
  pub place : PinPlace
  pub name : List ℕ
  pub role : Role
  pub cell : Option ℕ
  pub lib_pin : ℕ
  pub load : Option Origin

-- a port that is no input is an output; a port of another direction is in no netlist that is flattened
abbrev pub port_role : Direction → Role
port_role direction.Input = InPort
port_role direction.Output = OutPort
port_role direction.Other = OutPort

abbrev pub port_load : Direction → NetBit → Option Origin
port_load direction.Output net = Some (from_net net)
port_load _ net = None

abbrev pub port_pin : Port → Option ℕ → FlatPin
port_pin port index = record {
  place = port_bit port.name index;
  name = bit_name port.name index;
  role = port_role port.direction;
  cell = None;
  lib_pin = 0;
  load = port_load port.direction (net_bit [] port.name index);
}

abbrev pub port_pins : Module → List FlatPin
port_pins top = flat_map (λ (port : Port). map (port_pin port) (indices port.range)) top.ports

-- an input is a load of the bit that it is connected to; any other pin is no load
abbrev pub first_origin : List ℕ → List Bit → Option Origin
first_origin path [] = None
first_origin path (bit ∷ rest) = origin_at path bit

abbrev pub pin_load : Direction → List ℕ → List Bit → Option Origin
pin_load direction.Input path connection = first_origin path connection
pin_load _ path connection = None

abbrev pub pin_name : PlacedCell → LibPin → List ℕ
pin_name cell pin = full_name cell.placed ++ (codes "/" ++ pin.name)

abbrev pub cell_pin : ℕ → PlacedCell → (ℕ × LibPin) × List Bit → FlatPin
cell_pin number cell pin = record {
  place = pin_of (path_of cell.placed) pin.0.0;
  name = pin_name cell pin.0.1;
  role = role_in_cell pin.0.1.direction;
  cell = Some number;
  lib_pin = pin.0.0;
  load = pin_load pin.0.1.direction cell.placed.scope.path pin.1;
}

abbrev pub cell_pins : ℕ × PlacedCell → List FlatPin
cell_pins item = map (cell_pin item.0 item.1) (connected_pins item.1)

-- ---- cells

-- a cell with the place of its first pin
pub record FlatCell : Type 0 where
  pub is : PlacedCell
  pub first : ℕ

-- cells whose pins stand one after the other from a place on
abbrev pub cells_from : ℕ → List PlacedCell → List FlatCell
cells_from first [] = []
cells_from first (cell ∷ cells) =
    record { is = cell; first = first } ∷ cells_from (first + length cell.kind.pins) cells

-- ---- the design

-- what stands in a flat design
pub record Flat : Type 0 where
  pub top : Module
  pub instances : List Placed
  pub pins : List FlatPin
  pub cells : List FlatCell
  pub nets : List FlatNet
  pub drivers : List NetDriver

abbrev pub flat : List Module → Library → Module → Flat
flat modules library top = record {
  top = top;
  instances = instances_of modules top;
  pins = port_pins top ++ flat_map cell_pins (enumerate_from 0 (cells_of modules library top));
  cells = cells_from (length (port_pins top)) (cells_of modules library top);
  nets = flat_map nets_in (scopes_of modules top);
  drivers = drivers_of modules library top;
}

abbrev pub pin_places : Flat → List PinPlace
pin_places f = map (λ (pin : FlatPin). pin.place) f.pins

-- the driver of a pin: none where it is no load, or what it is connected to, by following sources
abbrev pub IsDriverOf : Flat → Option Origin → Source → Type 0
IsDriverOf f None driver = driver ≡ source.Nothing
IsDriverOf f (Some (from_net net)) driver = IsSourceOf (pin_places f) f.drivers net driver
IsDriverOf f (Some (from_value false)) driver = driver ≡ source.Zero
IsDriverOf f (Some (from_value true)) driver = driver ≡ source.One
IsDriverOf f (Some (from_pin place)) driver = ⊥

pub record IsPin (f : Flat) (pin : FlatPin) (info : PinInfo) : Type 0 where
  pub name : info.name ≡ pin.name
  pub role : info.role ≡ pin.role
  pub cell : info.cell ≡ pin.cell
  pub lib_pin : info.lib_pin ≡ pin.lib_pin
  pub driver : IsDriverOf f pin.load info.driver

pub record IsCell (library : Library) (cell : FlatCell) (info : CellInfo) : Type 0 where
  pub name : info.name ≡ full_name cell.is.placed
  pub kind : slice_get library.cells info.kind ≡ Some cell.is.kind
  pub first : info.first.0 ≡ cell.first
  pub count : info.count ≡ length cell.is.kind.pins

pub record IsNet (f : Flat) (net : FlatNet) (info : NetInfo) : Type 0 where
  pub name : info.name ≡ net_name net
  pub source : IsSourceOf (pin_places f) f.drivers (bit_of net) info.source

-- the design has these pins, cells and nets, and all cells of the library as its kinds
pub record IsFlatDesign (library : Library) (f : Flat) (design : Design) : Type 0 where
  pub top : design.top ≡ f.top.name
  pub unit : design.unit ≡ library.unit
  pub kinds : design.kinds ≡ library.cells
  pub pins : AllZip (IsPin f) f.pins design.pins
  pub cells : AllZip (IsCell library) f.cells design.cells
  pub nets : AllZip (IsNet f) f.nets design.nets
