-- What drives the nets of a design, by the numbers of nets and pins. This project's own words.
-- It reads: the number of a net or a pin is its place among all of the design.
use Rattle.std.specs.Prelude.{◌≡◌, ℕ, Bool, List, [], map, slice_get, Option, Some, None}
use Rattle.std.specs.List.{Contains}
use Rattle.source_types.specs.declared.netlists.Bit.{Bit}
use Rattle.source_types.specs.declared.netlists.Port.{Port}
use Rattle.source_types.specs.declared.netlists.Wire.{Wire}
use Rattle.flat_model.specs.FlatDesign.{FlatPin}
use Rattle.flat_model.specs.FlatNets.{NetDriver, NetBit, Origin, PinPlace, drive, from_net, from_pin, from_value, net_at, net_bit, pin_of, port_bit}
use Rattle.flat_model.specs.Instances.{PlacedCell, ModuleInstance, path_of}
use Rattle.netlist_model.specs.WellFormedNetlist.{IsBitOf}
use Rattle.flat_design.specs.declared.drivers.driver_edges.DriverEdge.{DriverEdge}
use Rattle.flat_design.specs.declared.drivers.driver_edges.Driver.{Driver}
use Rattle.flat_design.specs.declared.drivers.driver_edges.Driver.TheVariants as driver
use Rattle.flat_design.specs.declared.elaborate.hierarchy.Hierarchy.{Hierarchy}
use Rattle.flat_design.specs.AddedRows.{AddsRows}
use Rattle.flat_design.specs.Hierarchy.{pins_of_design, scopes_in}
use Rattle.flat_design.specs.NetNumbers.{IsNumber}

-- a bit is one of the module instance at a place
abbrev pub HasBit : Hierarchy → ℕ → Bit → Type 0
HasBit design place bit = (scope : ModuleInstance) × (slice_get (scopes_in design) place ≡ Some scope) × IsBitOf scope.body.nets bit

abbrev pub IsPinNumber : Hierarchy → ℕ → PinPlace → Type 0
IsPinNumber design number place = slice_get (map (λ (pin : FlatPin). pin.place) (pins_of_design design)) number ≡ Some place

-- ---- nets

abbrev pub IsNetOf : Hierarchy → Option NetBit → Option ℕ → Type 0
IsNetOf design None None = Unit {0}
IsNetOf design (Some net) (Some number) = IsNumber (scopes_in design) number net
IsNetOf design None (Some number) = ⊥
IsNetOf design (Some net) None = ⊥

-- ---- what drives them

abbrev pub IsDriverByNumber : Hierarchy → Origin → Driver → Type 0
IsDriverByNumber design (from_net net) (driver.Net number) = IsNumber (scopes_in design) number net
IsDriverByNumber design (from_value value) (driver.Value own) = own ≡ value
IsDriverByNumber design (from_pin place) (driver.Pin number) = IsPinNumber design number place
IsDriverByNumber design _ _ = ⊥

abbrev pub IsDriverByNumberOf : Hierarchy → Option Origin → Option Driver → Type 0
IsDriverByNumberOf design None None = Unit {0}
IsDriverByNumberOf design (Some origin) (Some own) = IsDriverByNumber design origin own
IsDriverByNumberOf design None (Some own) = ⊥
IsDriverByNumberOf design (Some origin) None = ⊥

abbrev pub value_driver : Option Bool → Option Driver
value_driver None = None
value_driver (Some value) = Some (driver.Value value)

-- ---- rows

pub record IsDriverEdge (design : Hierarchy) (one : NetDriver) (row : DriverEdge) : Type 0 where
  pub net : IsNumber (scopes_in design) row.to one.to
  pub origin : IsDriverByNumber design one.from row.from

abbrev pub IsDriverEdgeOf : Hierarchy → Option NetDriver → Option DriverEdge → Type 0
IsDriverEdgeOf design None None = Unit {0}
IsDriverEdgeOf design (Some one) (Some row) = IsDriverEdge design one row
IsDriverEdgeOf design None (Some row) = ⊥
IsDriverEdgeOf design (Some one) None = ⊥

abbrev pub row_of : Option ℕ → Option Driver → Option DriverEdge
row_of (Some to) (Some from) = Some (record { to = to; from = from })
row_of (Some to) None = None
row_of None from = None

-- edges of these drivers are added
abbrev pub Adds : Hierarchy → List NetDriver → List DriverEdge → List DriverEdge → Type 0
Adds design drivers old new = AddsRows (IsDriverEdge design) drivers old new

-- a bit of a net is driven by the value that the net is tied to
abbrev pub tied_bit : List ℕ → Wire → Bool → Option ℕ → NetDriver
tied_bit path wire value index = record { to = net_bit path wire.name index; from = from_value value }

-- a port is a net of the module instance at a place
abbrev pub HasPort : Hierarchy → ℕ → Port → Type 0
HasPort design place port = (scope : ModuleInstance) × (slice_get (scopes_in design) place ≡ Some scope)
    × ((wire : Wire) × Contains scope.body.nets wire × (wire.name ≡ port.name) × (wire.range ≡ port.range))

-- a bit is driven by the pin at a place of a cell
abbrev pub pin_drive : PlacedCell → ℕ → Bit → Option NetDriver
pin_drive cell at bit = drive (net_at cell.placed.scope.path bit) (Some (from_pin (pin_of (path_of cell.placed) at)))

-- a bit of an input port of the top is driven by the port's own pin
abbrev pub input_drive : Port → Option ℕ → NetDriver
input_drive port index = record { to = net_bit [] port.name index; from = from_pin (port_bit port.name index) }
