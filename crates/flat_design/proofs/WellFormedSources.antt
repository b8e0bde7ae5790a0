-- The drivers of pins and the sources of nets in a flat design drive.
use Rattle.std.proofs.Common.{◌≡◌, ◌⊎◌, inl, inr, ℕ, true, false, List, slice_get, Option, Some, None, refl, sym, ◌∙◌, ap, subst}
use Rattle.std.specs.List.{All}
use Rattle.std.specs.Option.{option_map}
use Rattle.timing_types.specs.declared.designs.Design.{Design}
use Rattle.timing_types.specs.declared.designs.NetInfo.{NetInfo}
use Rattle.timing_types.specs.declared.designs.PinInfo.{PinInfo}
use Rattle.timing_types.specs.declared.designs.Role.{Role}
use Rattle.timing_types.specs.declared.designs.Role.TheVariants.{CellOut, InPort}
use Rattle.timing_types.specs.declared.designs.Source.{Source}
use Rattle.timing_types.specs.declared.designs.Source.TheVariants as source
use Rattle.source_types.specs.declared.libraries.Library.{Library}
use Rattle.pin_types.specs.declared.library_cells.LibPin.{LibPin}
use Rattle.source_types.specs.declared.netlists.Module.{Module}
use Rattle.source_types.specs.declared.netlists.Port.{Port}
use Rattle.source_types.specs.declared.netlists.Wire.{Wire}
use Rattle.flat_model.specs.FlatDesign.{EndsIn, Flat, FlatPin, IsDriverOf, IsFlatDesign, IsNet, IsPin, IsSourceOf, flat, pin_places, port_role}
use Rattle.flat_model.specs.FlatNets.{NetBit, Origin, PinPlace, bit_of, drivers_of, from_net, from_pin, from_value, pin_of, port_bit}
use Rattle.flat_model.specs.Instances.{PlacedCell, cell_at, cells_of, instances_of, meant, path_of, top_scope}
use Rattle.design_model.specs.WellFormedDesign.{IsDriver, role_in_cell}
use Rattle.netlist_model.specs.WellFormedNetlist.{IsNetOfPort, IsWellFormedModule}
use Rattle.text_model.proofs.ListFacts.{front_at}
use Rattle.flat_design.proofs.DistinctFacts.{Distinct, distinct_kept, get_map}
use Rattle.flat_design.proofs.CellPlaces.{cell_back}
use Rattle.flat_design.proofs.HierarchyFacts.{one_at}
use Rattle.flat_design.proofs.DistinctPaths.{below_distinct}
use Rattle.flat_design.proofs.PlaceFacts.{all_from}
use Rattle.flat_design.proofs.RangeFacts.{map_at}
use Rattle.flat_design.proofs.TerminalFacts.{zip_at}
use Rattle.flat_design.proofs.WellFormedCells.{cell_parts, port_back}
use Rattle.flat_design.proofs.WellFormedDrivers.{IsDriving, source_in}
use Rattle.flat_design.proofs.WellFormedLists.{zip_back}
use Rattle.flat_design.proofs.WellFormedPins.{pin_back}

-- ---- which pin stands at a place

-- no two cells stand at one path
cells_distinct : (modules : List Module) (library : Library) (top : Module) → Distinct (λ (cell : PlacedCell). path_of cell.placed) (cells_of modules library top)
cells_distinct modules library top =
    distinct_kept (cell_at modules library) path_of (λ (cell : PlacedCell). path_of cell.placed) (instances_of modules top)
    (λ placed cell is. ap path_of (cell_parts modules library placed cell (meant modules library placed.instance.kind) refl is).0)
    (below_distinct modules _ (top_scope top))

-- no two ports have one name
ports_distinct : (top : Module) → IsWellFormedModule top → Distinct (λ (port : Port). port.name) top.ports
ports_distinct top formed i j port other at_i at_j same =
    let own : List Wire = formed.ports.0 in
    let one = zip_at IsNetOfPort top.ports own formed.ports.3 i port at_i in
    let two = zip_at IsNetOfPort top.ports own formed.ports.3 j other at_j in
    let first : slice_get top.nets i ≡ Some one.0 =
    ap (λ (nets : List Wire). slice_get nets i) formed.ports.2 ∙ front_at own formed.ports.1 i one.0 one.1 in
    let second : slice_get top.nets j ≡ Some two.0 =
    ap (λ (nets : List Wire). slice_get nets j) formed.ports.2 ∙ front_at own formed.ports.1 j two.0 two.1 in
    formed.names i j port.name
    (map_at (λ (net : Wire). net.name) top.nets i one.0 first ∙ ap (λ (name : List ℕ). Some name) one.2.0)
    (map_at (λ (net : Wire). net.name) top.nets j two.0 second ∙ ap (λ (name : List ℕ). Some name) (two.2.0 ∙ sym same))

-- a pin drives by its role
abbrev Drives : Role → Type 0
Drives role = (role ≡ CellOut) ⊎ (role ≡ InPort)

port_place : (modules : List Module) (library : Library) (top : Module) (place : PinPlace) (port : Port) (index : Option ℕ) (i : ℕ)
    → IsWellFormedModule top → slice_get top.ports i ≡ Some port → place ≡ port_bit port.name index → IsDriving modules library top place → Drives (port_role port.direction)
port_place modules library top place port index i formed at is driving =
    let own : IsDriving modules library top (port_bit port.name index) = subst (IsDriving modules library top) is driving in
    let same_place : own.0 ≡ i = ports_distinct top formed own.0 i own.1 port own.2 at own.3 in
    let same : own.1 ≡ port = one_at top.ports i own.1 port (ap (slice_get top.ports) (sym same_place) ∙ own.2) at in
    inr (ap port_role (sym (ap (λ (p : Port). p.direction) same) ∙ own.4))

cell_place : (modules : List Module) (library : Library) (top : Module) (place : PinPlace) (cell : PlacedCell) (at i : ℕ) (pin : LibPin)
    → slice_get (cells_of modules library top) i ≡ Some cell → slice_get cell.kind.pins at ≡ Some pin → place ≡ pin_of (path_of cell.placed) at
    → IsDriving modules library top place → Drives (role_in_cell pin.direction)
cell_place modules library top place cell at i pin cell_is pin_is is driving =
    let own : IsDriving modules library top (pin_of (path_of cell.placed) at) = subst (IsDriving modules library top) is driving in
    let same_place : own.0 ≡ i = cells_distinct modules library top own.0 i own.1 cell own.3 cell_is own.4 in
    let same : own.1 ≡ cell = one_at (cells_of modules library top) i own.1 cell (ap (slice_get (cells_of modules library top)) (sym same_place) ∙ own.3) cell_is in
    let pin_same : own.2 ≡ pin = one_at cell.kind.pins at own.2 pin (subst (λ (c : PlacedCell). slice_get c.kind.pins at ≡ Some own.2) same own.5) pin_is in
    inl (ap role_in_cell (sym (ap (λ (p : LibPin). p.direction) pin_same) ∙ own.6))

-- the pin at a place that drives has the role for it
pin_drives : (modules : List Module) (library : Library) (top : Module) → IsWellFormedModule top → (number : ℕ) (pin : FlatPin)
    → slice_get (flat modules library top).pins number ≡ Some pin → IsDriving modules library top pin.place → Drives pin.role
pin_drives modules library top formed number pin at driving =
    elim (pin_back modules library top number pin at) [
      | inl port ↦
          let own = port_back top number pin port in
          subst Drives (sym (ap (λ (p : FlatPin). p.role) own.4))
          (port_place modules library top pin.place own.1 own.2 own.0 formed own.3 (ap (λ (p : FlatPin). p.place) own.4) driving)
      | inr inside ↦
          let listed = cell_back _ (cells_of modules library top) inside.place inside.cell inside.cell_is in
          subst Drives (sym (ap (λ (p : FlatPin). p.role) inside.is))
          (cell_place modules library top pin.place inside.cell.is inside.at inside.place inside.lib_pin listed.0 inside.pin_is
          (ap (λ (p : FlatPin). p.place) inside.is) driving)
    ]

-- ---- drivers

role_drives : (design : Design) (number : ℕ) (info : PinInfo) (role : Role) → slice_get design.pins number ≡ Some info → info.role ≡ role → Drives role
    → (option_map (λ (i : PinInfo). i.role) (slice_get design.pins number) ≡ Some CellOut) ⊎ (option_map (λ (i : PinInfo). i.role) (slice_get design.pins number) ≡ Some InPort)
role_drives design number info role at is (inl out) =
    inl (ap (option_map (λ (i : PinInfo). i.role)) at ∙ ap (λ (r : Role). Some r) (is ∙ out))
role_drives design number info role at is (inr port) =
    inr (ap (option_map (λ (i : PinInfo). i.role)) at ∙ ap (λ (r : Role). Some r) (is ∙ port))

found_drives : (modules : List Module) (library : Library) (top : Module) (design : Design) → IsWellFormedModule top
    → IsFlatDesign library (flat modules library top) design → (net : NetBit) (found : Source)
    → IsSourceOf (pin_places (flat modules library top)) (drivers_of modules library top) net found → IsDriver design found
found_drives modules library top design formed is net source.Nothing from = tt
found_drives modules library top design formed is net source.Zero from = tt
found_drives modules library top design formed is net source.One from = tt
found_drives modules library top design formed is net (source.Pin pin) from =
    let f : Flat = flat modules library top in
    let end : NetBit = from.0 in
    let ends : EndsIn (pin_places f) (drivers_of modules library top) end (source.Pin pin) = from.2 in
    let place : PinPlace = ends.0 in
    let driving : IsDriving modules library top place = source_in modules library top end (from_pin place) ends.2 in
    let there = get_map (λ (p : FlatPin). p.place) f.pins pin.0 place ends.1 in
    let drives = pin_drives modules library top formed pin.0 there.0 there.1 (subst (IsDriving modules library top) there.2 driving) in
    let own = zip_at (IsPin f) f.pins design.pins is.pins pin.0 there.0 there.1 in
    role_drives design pin.0 own.0 there.0.role own.1 own.2.role drives

load_driven : (modules : List Module) (library : Library) (top : Module) (design : Design) → IsWellFormedModule top
    → IsFlatDesign library (flat modules library top) design → (load : Option Origin) (driver : Source)
    → IsDriverOf (flat modules library top) load driver → IsDriver design driver
load_driven modules library top design formed is None driver own = subst (IsDriver design) (sym own) tt
load_driven modules library top design formed is (Some (from_net net)) driver own = found_drives modules library top design formed is net driver own
load_driven modules library top design formed is (Some (from_value false)) driver own = subst (IsDriver design) (sym own) tt
load_driven modules library top design formed is (Some (from_value true)) driver own = subst (IsDriver design) (sym own) tt
load_driven modules library top design formed is (Some (from_pin place)) driver own = absurd own

pub drivers_drive : (modules : List Module) (library : Library) (top : Module) (design : Design) → IsWellFormedModule top
    → IsFlatDesign library (flat modules library top) design → All (λ (info : PinInfo). IsDriver design info.driver) design.pins
drivers_drive modules library top design formed is =
    all_from (λ (info : PinInfo). IsDriver design info.driver) design.pins (λ i info at.
    let r = zip_back (IsPin (flat modules library top)) (flat modules library top).pins design.pins is.pins i info at in
    load_driven modules library top design formed is r.0.load info.driver r.2.driver)

pub sources_drive : (modules : List Module) (library : Library) (top : Module) (design : Design) → IsWellFormedModule top
    → IsFlatDesign library (flat modules library top) design → All (λ (info : NetInfo). IsDriver design info.source) design.nets
sources_drive modules library top design formed is =
    all_from (λ (info : NetInfo). IsDriver design info.source) design.nets (λ i info at.
    let r = zip_back (IsNet (flat modules library top)) (flat modules library top).nets design.nets is.nets i info at in
    found_drives modules library top design formed is (bit_of r.0) info.source r.2.source)
