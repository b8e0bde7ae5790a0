-- What drives nets in a flat design is an output of a cell or an input port of the top.
use Rattle.std.proofs.Common.{◌≡◌, ◌++◌, ◌⊎◌, inl, inr, ℕ, zero, suc, Bool, true, false, cond, List, [], map, slice_get, Option, Some, None, refl, sym, ◌∙◌, ap, subst, arith}
use Rattle.std.specs.List.{Contains, enumerate_from, filter, filter_map, flat_map, zip}
use Rattle.source_types.specs.declared.libraries.Library.{Library}
use Rattle.pin_types.specs.declared.library_cells.Direction.{Direction}
use Rattle.pin_types.specs.declared.library_cells.Direction.TheVariants as direction
use Rattle.pin_types.specs.declared.library_cells.LibPin.{LibPin}
use Rattle.source_types.specs.declared.netlists.Assign.{Assign}
use Rattle.source_types.specs.declared.netlists.Bit.{Bit}
use Rattle.source_types.specs.declared.netlists.Bit.TheVariants as bits
use Rattle.source_types.specs.declared.netlists.Instance.{Instance}
use Rattle.source_types.specs.declared.netlists.Module.{Module}
use Rattle.source_types.specs.declared.netlists.Port.{Port}
use Rattle.source_types.specs.declared.netlists.Wire.{Wire}
use Rattle.flat_model.specs.Connections.{connected, names_of, pins_of, ports_of}
use Rattle.flat_model.specs.FlatNets.{NetDriver, NetBit, Origin, PinPlace, across, assign_drivers, boundary_drivers, cell_drivers, connected_pins, drive, drivers_of, from_net, from_pin, from_value, net_at, origin_at, output_drivers, outside_of, pin_of, port_bit, port_bits, port_drivers, same_net, sources, scope_drivers, tie_drivers, top_port_drivers}
use Rattle.flat_model.specs.Instances.{Placed, PlacedCell, ModuleInstance, cells_of, entered, instances_of, module_named, path_of, scope_for, scopes_of, stands_in, top_scope}
use Rattle.netlist_model.specs.Ranges.{indices}
use Rattle.flat_design.proofs.DistinctFacts.{get_kept, get_map}
use Rattle.flat_design.proofs.PlaceFacts.{place_in}
use Rattle.flat_design.proofs.StepMeanings.{entered_is, entered_none}
use Rattle.flat_design.proofs.WellFormedLists.{Every, every_append, every_flat, every_kept, every_map, every_none, filter_back, numbered_back, zip_first}

-- ---- pins that drive

-- a bit of an input port of the top, or an output of a cell
abbrev pub IsDriving : List Module → Library → Module → PinPlace → Type 0
IsDriving modules library top (port_bit name index) =
    (k : ℕ) × (port : Port) × (slice_get top.ports k ≡ Some port) × (port.name ≡ name) × (port.direction ≡ direction.Input)
IsDriving modules library top (pin_of path at) =
    (k : ℕ) × (cell : PlacedCell) × (pin : LibPin) × (slice_get (cells_of modules library top) k ≡ Some cell) × (path_of cell.placed ≡ path)
    × (slice_get cell.kind.pins at ≡ Some pin) × (pin.direction ≡ direction.Output)

-- where an origin is a pin, it is such a one
abbrev pub IsOriginOf : List Module → Library → Module → Origin → Type 0
IsOriginOf modules library top (from_net net) = Unit {0}
IsOriginOf modules library top (from_value value) = Unit {0}
IsOriginOf modules library top (from_pin place) = IsDriving modules library top place

abbrev pub IsDriverEdgeIn : List Module → Library → Module → NetDriver → Type 0
IsDriverEdgeIn modules library top one = IsOriginOf modules library top one.from

-- ---- drivers that are nets and values

-- a driver has the origin that it is made of
drive_origin : (to : Option NetBit) (from : Option Origin) (one : NetDriver) → drive to from ≡ Some one → from ≡ Some one.from
drive_origin None from one e = let bad : None ≡ Some one = e in cc
drive_origin (Some to) None one e = let bad : None ≡ Some one = e in cc
drive_origin (Some to) (Some from) one e =
    let own : NetDriver = record { to = to; from = from } in
    let some : Some own ≡ Some one = e in
    let same : own ≡ one = cc in
    ap (λ (x : NetDriver). Some x.from) same

-- a bit is no pin
bit_origin : (modules : List Module) (library : Library) (top : Module) (path : List ℕ) (bit : Bit) (from : Origin) → origin_at path bit ≡ Some from
    → IsOriginOf modules library top from
bit_origin modules library top path bit (from_net net) e = tt
bit_origin modules library top path bit (from_value value) e = tt
bit_origin modules library top path (bits.Net name index) (from_pin place) e = let bad : Some (from_net _) ≡ Some (from_pin place) = e in absurd (net_no_pin _ place bad) where
  net_no_pin : (net : NetBit) (place : PinPlace) → Some (from_net net) ≡ Some (from_pin place) → ⊥
  net_no_pin net place e = let same : from_net net ≡ from_pin place = cc in cc
bit_origin modules library top path (bits.Constant None) (from_pin place) e = let bad : None ≡ Some (from_pin place) = e in cc
bit_origin modules library top path (bits.Constant (Some v)) (from_pin place) e = absurd (value_no_pin v place e) where
  value_no_pin : (v : Bool) (place : PinPlace) → Some (from_value v) ≡ Some (from_pin place) → ⊥
  value_no_pin v place e = let same : from_value v ≡ from_pin place = cc in cc

driven_by_bit : (modules : List Module) (library : Library) (top : Module) (to : Option NetBit) (path : List ℕ) (bit : Bit) (one : NetDriver)
    → drive to (origin_at path bit) ≡ Some one → IsDriverEdgeIn modules library top one
driven_by_bit modules library top to path bit one e = bit_origin modules library top path bit one.from (drive_origin to (origin_at path bit) one e)

across_bit : (modules : List Module) (library : Library) (top : Module) (d : Direction) (inside outside : List ℕ) (inner outer : Bit) (one : NetDriver)
    → across d inside outside inner outer ≡ Some one → IsDriverEdgeIn modules library top one
across_bit modules library top direction.Input inside outside inner outer one e = driven_by_bit modules library top (net_at inside inner) outside outer one e
across_bit modules library top direction.Output inside outside inner outer one e = driven_by_bit modules library top (net_at outside outer) inside inner one e
across_bit modules library top direction.Other inside outside inner outer one e = let bad : None ≡ Some one = e in cc

assigns_in : (modules : List Module) (library : Library) (top : Module) (path : List ℕ) (assign : Assign) → Every (IsDriverEdgeIn modules library top) (assign_drivers path assign)
assigns_in modules library top path assign =
    every_kept (IsDriverEdgeIn modules library top) (λ (pair : Bit × Bit). drive (net_at path pair.0) (origin_at path pair.1)) (zip assign.left assign.right)
    (λ pair one e. driven_by_bit modules library top (net_at path pair.0) path pair.1 one e)

tied_in : (modules : List Module) (library : Library) (top : Module) (path : List ℕ) (wire : Wire) (tie : Option Bool) → wire.tie ≡ tie
    → Every (IsDriverEdgeIn modules library top) (tie_drivers path wire)
tied_in modules library top path wire None is =
    let none : tie_drivers path wire ≡ [] = rw (tie_drivers, is) refl in
    subst (Every (IsDriverEdgeIn modules library top)) (sym none) (every_none (IsDriverEdgeIn modules library top))
tied_in modules library top path wire (Some v) is =
    let one : Option ℕ → NetDriver = λ (index : Option ℕ). record { to = record { path = path; name = wire.name; index = index }; from = from_value v } in
    let some : tie_drivers path wire ≡ map one (indices wire.range) = rw (tie_drivers, is) refl in
    subst (Every (IsDriverEdgeIn modules library top)) (sym some) (every_map (IsDriverEdgeIn modules library top) one (indices wire.range) (λ i index at. tt))

port_in : (modules : List Module) (library : Library) (top : Module) (inside outside : List ℕ) (pair : Port × List Bit)
    → Every (IsDriverEdgeIn modules library top) (port_drivers inside outside pair)
port_in modules library top inside outside pair =
    every_kept (IsDriverEdgeIn modules library top) (λ (one : Bit × Bit). across pair.0.direction inside outside one.0 one.1) (zip (port_bits pair.0) pair.1)
    (λ one made e. across_bit modules library top pair.0.direction inside outside one.0 one.1 made e)

-- ---- drivers that are pins

top_port_in : (modules : List Module) (library : Library) (top : Module) (k : ℕ) (port : Port) (d : Direction) → slice_get top.ports k ≡ Some port
    → port.direction ≡ d → Every (IsDriverEdgeIn modules library top) (top_port_drivers port)
top_port_in modules library top k port direction.Input at is =
    let one : Option ℕ → NetDriver =
    λ (index : Option ℕ). record { to = record { path = []; name = port.name; index = index }; from = from_pin (port_bit port.name index) } in
    let some : top_port_drivers port ≡ map one (indices port.range) = rw (top_port_drivers, is) refl in
    subst (Every (IsDriverEdgeIn modules library top)) (sym some)
    (every_map (IsDriverEdgeIn modules library top) one (indices port.range) (λ i index found. (k, port, at, refl, is)))
top_port_in modules library top k port direction.Output at is =
    let none : top_port_drivers port ≡ [] = rw (top_port_drivers, is) refl in
    subst (Every (IsDriverEdgeIn modules library top)) (sym none) (every_none (IsDriverEdgeIn modules library top))
top_port_in modules library top k port direction.Other at is =
    let none : top_port_drivers port ≡ [] = rw (top_port_drivers, is) refl in
    subst (Every (IsDriverEdgeIn modules library top)) (sym none) (every_none (IsDriverEdgeIn modules library top))

output_in : (modules : List Module) (library : Library) (top : Module) (k : ℕ) (cell : PlacedCell) (pin : (ℕ × LibPin) × List Bit) (d : Direction)
    → slice_get (cells_of modules library top) k ≡ Some cell → slice_get cell.kind.pins pin.0.0 ≡ Some pin.0.1 → pin.0.1.direction ≡ d
    → Every (IsDriverEdgeIn modules library top) (output_drivers cell pin)
output_in modules library top k cell pin direction.Output at pin_is is =
    let h : Bit → Option NetDriver = λ (bit : Bit). drive (net_at cell.placed.scope.path bit) (Some (from_pin (pin_of (path_of cell.placed) pin.0.0))) in
    let some : output_drivers cell pin ≡ filter_map h pin.1 = rw (output_drivers, is) refl in
    subst (Every (IsDriverEdgeIn modules library top)) (sym some)
    (every_kept (IsDriverEdgeIn modules library top) h pin.1 (λ bit one e.
    let own : Some (from_pin (pin_of (path_of cell.placed) pin.0.0)) ≡ Some one.from = drive_origin (net_at cell.placed.scope.path bit) _ one e in
    let same : from_pin (pin_of (path_of cell.placed) pin.0.0) ≡ one.from = cc in
    subst (IsOriginOf modules library top) same (k, cell, pin.0.1, at, refl, pin_is, is)))
output_in modules library top k cell pin direction.Input at pin_is is =
    let none : output_drivers cell pin ≡ [] = rw (output_drivers, is) refl in
    subst (Every (IsDriverEdgeIn modules library top)) (sym none) (every_none (IsDriverEdgeIn modules library top))
output_in modules library top k cell pin direction.Other at pin_is is =
    let none : output_drivers cell pin ≡ [] = rw (output_drivers, is) refl in
    subst (Every (IsDriverEdgeIn modules library top)) (sym none) (every_none (IsDriverEdgeIn modules library top))

cell_in : (modules : List Module) (library : Library) (top : Module) (k : ℕ) (cell : PlacedCell) → slice_get (cells_of modules library top) k ≡ Some cell
    → Every (IsDriverEdgeIn modules library top) (cell_drivers cell)
cell_in modules library top k cell at =
    every_flat (IsDriverEdgeIn modules library top) (output_drivers cell) (connected_pins cell) (λ i pin found.
    let first = zip_first (enumerate_from 0 cell.kind.pins) (connected (names_of (pins_of cell.kind)) cell.placed.instance.links) i pin found in
    let own = numbered_back 0 cell.kind.pins i pin.0 first in
    let at_is : i ≡ pin.0.0 = omega (arith, own.0) in
    output_in modules library top k cell pin pin.0.1.direction at (subst (λ (n : ℕ). slice_get cell.kind.pins n ≡ Some pin.0.1) at_is own.1) refl)

-- ---- the drivers of a module instance

-- the module is the top, or opened by an instance
abbrev IsTopOrOpened : Module → ModuleInstance → Type 0
IsTopOrOpened top scope = (scope ≡ top_scope top) ⊎ ((instance : Instance) × (scope.opened_by ≡ Some instance))

opened_step : (p : Placed) (s : ModuleInstance) (b : Module) (near : Bool) → stands_in b p.scope ≡ near
    → cond near None (Some (scope_for p b)) ≡ Some s → s.opened_by ≡ Some p.instance
opened_step p s b true is e = let bad : None ≡ Some s = e in cc
opened_step p s b false is e =
    let some : Some (scope_for p b) ≡ Some s = e in
    let same : s ≡ scope_for p b = cc in
    ap (λ (x : ModuleInstance). x.opened_by) same

opened_from : (modules : List Module) (p : Placed) (s : ModuleInstance) (o : Option Module) → module_named modules p.instance.kind ≡ o
    → entered modules p ≡ Some s → s.opened_by ≡ Some p.instance
opened_from modules p s None is e = let bad : None ≡ Some s = sym (entered_none modules p is) ∙ e in cc
opened_from modules p s (Some b) is e = opened_step p s b (stands_in b p.scope) refl (sym (entered_is modules p b is) ∙ e)

top_or_opened : (modules : List Module) (top : Module) (i : ℕ) (scope : ModuleInstance) → slice_get (scopes_of modules top) i ≡ Some scope → IsTopOrOpened top scope
top_or_opened modules top zero scope at =
    let e : Some (top_scope top) ≡ Some scope = at in
    let same : scope ≡ top_scope top = cc in
    inl same
top_or_opened modules top (suc i) scope at =
    let r = get_kept (entered modules) (instances_of modules top) i scope at in
    inr (r.1.instance, opened_from modules r.1 scope (module_named modules r.1.instance.kind) refl r.3)

boundary_in : (modules : List Module) (library : Library) (top : Module) (scope : ModuleInstance) → IsTopOrOpened top scope
    → Every (IsDriverEdgeIn modules library top) (boundary_drivers scope)
boundary_in modules library top scope (inl is) =
    subst (λ (s : ModuleInstance). Every (IsDriverEdgeIn modules library top) (boundary_drivers s)) (sym is)
    (every_flat (IsDriverEdgeIn modules library top) top_port_drivers top.ports (λ k port at. top_port_in modules library top k port port.direction at refl))
boundary_in modules library top scope (inr opened) =
    let pairs = zip scope.body.ports (connected (names_of (ports_of scope.body)) opened.0.links) in
    let some : boundary_drivers scope ≡ flat_map (port_drivers scope.path (outside_of scope.path)) pairs = rw (boundary_drivers, opened.1) refl in
    subst (Every (IsDriverEdgeIn modules library top)) (sym some)
    (every_flat (IsDriverEdgeIn modules library top) (port_drivers scope.path (outside_of scope.path)) pairs
    (λ i pair at. port_in modules library top scope.path (outside_of scope.path) pair))

scope_in : (modules : List Module) (library : Library) (top : Module) (scope : ModuleInstance) → IsTopOrOpened top scope → Every (IsDriverEdgeIn modules library top) (scope_drivers scope)
scope_in modules library top scope is =
    let ties = flat_map (tie_drivers scope.path) scope.body.nets in
    let assigns = flat_map (assign_drivers scope.path) scope.body.assigns in
    every_append (IsDriverEdgeIn modules library top) (boundary_drivers scope) (ties ++ assigns) (boundary_in modules library top scope is)
    (every_append (IsDriverEdgeIn modules library top) ties assigns
    (every_flat (IsDriverEdgeIn modules library top) (tie_drivers scope.path) scope.body.nets (λ i wire at. tied_in modules library top scope.path wire wire.tie refl))
    (every_flat (IsDriverEdgeIn modules library top) (assign_drivers scope.path) scope.body.assigns (λ i assign at. assigns_in modules library top scope.path assign)))

-- ---- all drivers

pub drivers_in : (modules : List Module) (library : Library) (top : Module) → Every (IsDriverEdgeIn modules library top) (drivers_of modules library top)
drivers_in modules library top =
    every_append (IsDriverEdgeIn modules library top) (flat_map scope_drivers (scopes_of modules top)) (flat_map cell_drivers (cells_of modules library top))
    (every_flat (IsDriverEdgeIn modules library top) scope_drivers (scopes_of modules top) (λ i scope at. scope_in modules library top scope (top_or_opened modules top i scope at)))
    (every_flat (IsDriverEdgeIn modules library top) cell_drivers (cells_of modules library top) (λ k cell at. cell_in modules library top k cell at))

-- a source of a net is the origin of a driver
pub source_in : (modules : List Module) (library : Library) (top : Module) (net : NetBit) (from : Origin)
    → Contains (sources (drivers_of modules library top) net) from → IsOriginOf modules library top from
source_in modules library top net from has =
    let drivers = drivers_of modules library top in
    let passing = filter (λ (one : NetDriver). same_net one.to net) drivers in
    let there = place_in (sources drivers net) from has in
    let made = get_map (λ (one : NetDriver). one.from) passing there.0 from there.1 in
    let own = filter_back (λ (one : NetDriver). same_net one.to net) drivers there.0 made.0 made.1 in
    subst (IsOriginOf modules library top) (sym made.2) (drivers_in modules library top own.0 made.0 own.1)
