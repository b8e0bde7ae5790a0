-- Names of nets, cells and ports in a design without a fault.
use Rattle.std.proofs.Common.{◌≡◌, inl, ℕ, List, [], ◌∷◌, ◌++◌, length, map, take, slice_get, Some, refl, sym, ◌∙◌, ap, subst, arith}
use Rattle.std.proofs.lemmas.List.{append_assoc, length-map, map-append, take-append-le, take-map}
use Rattle.std.proofs.lemmas.List.Concat.{flat_map-append}
use Rattle.std.proofs.lemmas.Option.{slice_get_within}
use Rattle.std.specs.List.{AllZip, filter_map, flat_map}
use Rattle.timing_types.specs.declared.designs.CellInfo.{CellInfo}
use Rattle.timing_types.specs.declared.designs.Design.{Design}
use Rattle.timing_types.specs.declared.designs.NetInfo.{NetInfo}
use Rattle.source_types.specs.declared.fault_kinds.DesignKind.TheVariants as fault
use Rattle.source_types.specs.declared.libraries.Library.{Library}
use Rattle.source_types.specs.declared.netlists.Module.{Module}
use Rattle.source_types.specs.declared.netlists.Port.{Port}
use Rattle.source_types.specs.declared.netlists.Wire.{Wire}
use Rattle.flat_model.specs.FlatDesign.{Flat, FlatPin, IsCell, IsFlatDesign, IsNet, flat, port_pins}
use Rattle.flat_model.specs.FlatFaults.{cell_name, flat_pin_name}
use Rattle.flat_model.specs.FlatNets.{FlatNet, net_name, nets_in}
use Rattle.flat_model.specs.Flattening.{NoneOfCells, NoneOfNets}
use Rattle.flat_model.specs.Instances.{entered, instances_of, top_scope}
use Rattle.text_model.specs.Names.{AreGoodNames}
use Rattle.netlist_model.specs.WellFormedNetlist.{IsNetOfPort, IsWellFormedModule}
use Rattle.text_model.proofs.ListFacts.{front_at}
use Rattle.flat_design.specs.Hierarchy.{bit_names, port_names, wire_names}
use Rattle.flat_design.proofs.DistinctFacts.{get_map}
use Rattle.flat_design.proofs.NameFacts.{names_in}
use Rattle.flat_design.proofs.PinFacts.{ports_names_are}
use Rattle.flat_design.proofs.RangeFacts.{map_at}
use Rattle.flat_design.proofs.WellFormedLists.{good_names, zip_map}

-- ---- nets and cells

pub nets_named : (f : Flat) → NoneOfNets f → AreGoodNames (map net_name f.nets)
nets_named f none =
    good_names net_name f.nets (λ i net at bad. none i net fault.BadName at bad) (λ i net at again. none i net fault.DoubleName at again)

pub net_names_good : (library : Library) (f : Flat) (design : Design) → IsFlatDesign library f design → NoneOfNets f
    → AreGoodNames (map (λ (info : NetInfo). info.name) design.nets)
net_names_good library f design is none =
    subst AreGoodNames (sym (zip_map (IsNet f) net_name (λ (info : NetInfo). info.name) (λ net info one. one.name) f.nets design.nets is.nets)) (nets_named f none)

cells_named : (f : Flat) → NoneOfCells f → AreGoodNames (map cell_name f.cells)
cells_named f none =
    good_names cell_name f.cells (λ i cell at bad. none i cell fault.BadName at (inl bad)) (λ i cell at again. none i cell fault.DoubleName at (inl again))

pub cell_names_good : (library : Library) (f : Flat) (design : Design) → IsFlatDesign library f design → NoneOfCells f
    → AreGoodNames (map (λ (info : CellInfo). info.name) design.cells)
cell_names_good library f design is none =
    subst AreGoodNames (sym (zip_map (IsCell library) cell_name (λ (info : CellInfo). info.name) (λ cell info one. one.name) f.cells design.cells is.cells))
    (cells_named f none)

-- ---- ports

-- nets that are ports have the ports' names
same_names : (ports : List Port) (own : List Wire) → AllZip IsNetOfPort ports own → flat_map (wire_names []) own ≡ port_names ports
same_names [] [] all = refl
same_names [] (wire ∷ own) all = absurd all
same_names (port ∷ ports) [] all = absurd all
same_names (port ∷ ports) (wire ∷ own) all =
    ap (λ (name : List ℕ). bit_names [] name wire.range ++ flat_map (wire_names []) own) all.0.0
    ∙ (ap (λ range. bit_names [] port.name range ++ flat_map (wire_names []) own) all.0.1
    ∙ ap (λ (names : List (List ℕ)). bit_names [] port.name port.range ++ names) (same_names ports own all.1))

-- the names of nets begin with those of ports
pub ports_first : (modules : List Module) (library : Library) (top : Module) → IsWellFormedModule top
    → (more : List (List ℕ)) × (map net_name (flat modules library top).nets ≡ map flat_pin_name (port_pins top) ++ more)
ports_first modules library top formed =
    let own : List Wire = formed.ports.0 in
    let wires : List Wire = formed.ports.1 in
    let inner = flat_map nets_in (filter_map (entered modules) (instances_of modules top)) in
    let rest = flat_map (wire_names []) wires in (
      rest ++ map net_name inner,
      map-append net_name (nets_in (top_scope top)) inner
          ∙ (ap (λ (names : List (List ℕ)). names ++ map net_name inner)
          (names_in (top_scope top)
          ∙ (ap (flat_map (wire_names [])) formed.ports.2
          ∙ (flat_map-append (wire_names []) own wires
          ∙ ap (λ (names : List (List ℕ)). names ++ rest) (same_names top.ports own formed.ports.3 ∙ sym (ports_names_are top)))))
          ∙ append_assoc (map flat_pin_name (port_pins top)) rest (map net_name inner)),
    )

-- the pin of a port has the name of a net at its place, and those before it too
pub port_as_net : (modules : List Module) (library : Library) (top : Module) → IsWellFormedModule top → (i : ℕ) (pin : FlatPin)
    → slice_get (port_pins top) i ≡ Some pin → (rest : List FlatPin)
    → (net : FlatNet) × (slice_get (flat modules library top).nets i ≡ Some net) × (pin.name ≡ net_name net)
    × (map flat_pin_name (take i (port_pins top ++ rest)) ≡ map net_name (take i (flat modules library top).nets))
port_as_net modules library top formed i pin at rest =
    let f = flat modules library top in
    let names = map flat_pin_name (port_pins top) in
    let first = ports_first modules library top formed in
    let low = slice_get_within (port_pins top) i pin at in
    let count : length names ≡ length (port_pins top) = length-map (port_pins top) flat_pin_name in
    let here : slice_get (map net_name f.nets) i ≡ Some pin.name =
    ap (λ (ns : List (List ℕ)). slice_get ns i) first.1 ∙ front_at names first.0 i pin.name (map_at flat_pin_name (port_pins top) i pin at) in
    let r = get_map net_name f.nets i pin.name here in (
      r.0,
      r.1,
      r.2,
      ap (map flat_pin_name) (take-append-le i (port_pins top) rest (omega (arith, low)))
          ∙ (sym (take-map flat_pin_name i (port_pins top))
          ∙ (sym (take-append-le i names first.0 (omega (arith, low, count)))
          ∙ (ap (take i) (sym first.1) ∙ take-map net_name i f.nets))),
    )
