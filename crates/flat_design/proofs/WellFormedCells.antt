-- The cells and pins of a flat design without a fault are well-formed.
use Rattle.std.proofs.Common.{◌≡◌, ◌+◌, ◌<◌, ◌≤◌, inl, inr, ℕ, true, false, List, [], ◌∷◌, ◌++◌, length, map, take, slice_get, nat_lt, codes, Option, Some, None, refl, sym, ◌∙◌, ap, subst, arith}
use Rattle.std.proofs.lemmas.Bool.{cond-true, false_from_ne_true, lt-ltb}
use Rattle.std.proofs.lemmas.Option.{slice_get_within}
use Rattle.std.specs.List.{enumerate_from, flat_map}
use Rattle.timing_types.specs.declared.designs.CellInfo.{CellInfo}
use Rattle.timing_types.specs.declared.designs.Design.{Design}
use Rattle.timing_types.specs.declared.designs.PinInfo.{PinInfo}
use Rattle.timing_types.specs.declared.designs.Role.{Role}
use Rattle.source_types.specs.declared.fault_kinds.DesignKind.TheVariants as fault
use Rattle.source_types.specs.declared.libraries.Library.{Library}
use Rattle.pin_types.specs.declared.library_cells.Direction.{Direction}
use Rattle.pin_types.specs.declared.library_cells.Direction.TheVariants as direction
use Rattle.pin_types.specs.declared.library_cells.LibCell.{LibCell}
use Rattle.source_types.specs.declared.netlists.Links.{Links}
use Rattle.source_types.specs.declared.netlists.Module.{Module}
use Rattle.source_types.specs.declared.netlists.Port.{Port}
use Rattle.flat_model.specs.Connections.{cell_fault, instance_fault}
use Rattle.flat_model.specs.FlatDesign.{Flat, FlatCell, FlatPin, IsCell, IsFlatDesign, IsPin, cell_pin, cell_pins, flat, port_pin, port_pins, port_role}
use Rattle.flat_model.specs.FlatFaults.{cell_pin_name, flat_pin_name, is_among}
use Rattle.flat_model.specs.FlatNets.{net_name}
use Rattle.design_model.specs.UsableLibrary.{IsWellFormedLibrary}
use Rattle.flat_model.specs.Flattening.{NoneOfCells, NoneOfInstances, NoneOfNets}
use Rattle.flat_model.specs.Instances.{Meant, Placed, PlacedCell, a_cell, a_module, cell_at, cells_of, instances_of, meant, unknown}
use Rattle.netlist_model.specs.Ranges.{indices}
use Rattle.text_model.specs.Names.{AreGoodNames, is_good_name}
use Rattle.design_model.specs.WellFormedDesign.{IsInCell, IsWellFormedCell, role_in_cell}
use Rattle.design_model.specs.UsableLibrary.{IsUsable}
use Rattle.netlist_model.specs.WellFormedNetlist.{IsWellFormedModule}
use Rattle.text_model.proofs.ListFacts.{all_at}
use Rattle.flat_design.proofs.DistinctFacts.{get_flat, get_kept, get_map}
use Rattle.flat_design.proofs.CellPlaces.{cell_back}
use Rattle.flat_design.proofs.TerminalFacts.{zip_at}
use Rattle.flat_design.proofs.WellFormedLists.{good_names, zip_back, zip_map}
use Rattle.flat_design.proofs.WellFormedNames.{port_as_net}
use Rattle.flat_design.proofs.WellFormedPins.{cell_pin_there, pin_back}

-- ---- what a cell is

-- a cell is of an instance, whose name means its library cell
pub cell_parts : (modules : List Module) (library : Library) (placed : Placed) (cell : PlacedCell) (m : Meant)
    → meant modules library placed.instance.kind ≡ m → cell_at modules library placed ≡ Some cell
    → (cell.placed ≡ placed) × (meant modules library placed.instance.kind ≡ a_cell cell.kind)
cell_parts modules library placed cell (a_module b) is e =
    let none : cell_at modules library placed ≡ None = rw (cell_at, is) refl in
    let bad : None ≡ Some cell = sym none ∙ e in
    cc
cell_parts modules library placed cell (a_cell kind) is e =
    let own : PlacedCell = record { placed = placed; kind = kind } in
    let some : cell_at modules library placed ≡ Some own = rw (cell_at, is) refl in
    let both : Some own ≡ Some cell = sym some ∙ e in
    let same : own ≡ cell = cc in
    (sym (ap (λ (c : PlacedCell). c.placed) same), is ∙ ap (λ (c : PlacedCell). a_cell c.kind) same)
cell_parts modules library placed cell unknown is e =
    let none : cell_at modules library placed ≡ None = rw (cell_at, is) refl in
    let bad : None ≡ Some cell = sym none ∙ e in
    cc

refused_fault : (kind : LibCell) (all : Links) → kind.refused ≡ true → cell_fault kind all ≡ Some fault.UnsupportedCell
refused_fault kind all refused = cond-true kind.refused _ _ refused

cell_fault_is : (modules : List Module) (library : Library) (placed : Placed) (kind : LibCell) → meant modules library placed.instance.kind ≡ a_cell kind
    → instance_fault modules library placed ≡ cell_fault kind placed.instance.links
cell_fault_is modules library placed kind is = rw (instance_fault, is) refl

-- the library cell of a cell is not refused
pub cell_supported : (modules : List Module) (library : Library) (top : Module) (n : ℕ) (cell : PlacedCell)
    → NoneOfInstances modules library (flat modules library top) → slice_get (cells_of modules library top) n ≡ Some cell → cell.kind.refused ≡ false
cell_supported modules library top n cell none at =
    let r = get_kept (cell_at modules library) (instances_of modules top) n cell at in
    let placed : Placed = r.1 in
    let parts = cell_parts modules library placed cell (meant modules library placed.instance.kind) refl r.3 in
    false_from_ne_true cell.kind.refused (λ refused. none r.0 placed fault.UnsupportedCell r.2
    (cell_fault_is modules library placed cell.kind parts.1 ∙ refused_fault cell.kind placed.instance.links refused))

-- ---- cells

not_empty : (name : List ℕ) → (name ≡ [] → ⊥) → nat_lt 0 (length name) ≡ true
not_empty [] never = absurd (never refl)
not_empty (b ∷ name) never = lt-ltb 0 (length (b ∷ name)) (omega arith)

pub cell_formed : (modules : List Module) (library : Library) (top : Module) (design : Design) → IsFlatDesign library (flat modules library top) design
    → NoneOfInstances modules library (flat modules library top) → NoneOfCells (flat modules library top) → IsWellFormedLibrary library
    → (place : ℕ) (info : CellInfo) → slice_get design.cells place ≡ Some info → IsWellFormedCell design place info
cell_formed modules library top design is sound none usable place info at =
    let f : Flat = flat modules library top in
    let r = zip_back (IsCell library) f.cells design.cells is.cells place info at in
    let cell : FlatCell = r.0 in
    let one : IsCell library cell info = r.2 in
    let listed = cell_back (length (port_pins top)) (cells_of modules library top) place cell r.1 in
    let kept = cell_supported modules library top place cell.is sound listed.0 in record {
      kind = cell.is.kind;
      is_kind = ap (λ (kinds : List LibCell). slice_get kinds info.kind) is.kinds ∙ one.kind;
      usable = all_at (λ (kind : LibCell). kind.refused ≡ false → IsUsable kind) library.cells info.kind cell.is.kind usable.usable one.kind kept;
      count = one.count;
      pins = λ k pin found.
          let there = cell_pin_there modules library top place k cell pin r.1 found in
          let flat_pin : FlatPin = cell_pin place cell.is ((k, pin), there.0) in
          let own = zip_at (IsPin f) f.pins design.pins is.pins (cell.first + k) flat_pin there.1 in
          let pin_info : PinInfo = own.0 in
          let known : IsPin f flat_pin pin_info = own.2 in (
            pin_info,
            ap (λ (first : ℕ). slice_get design.pins (first + k)) one.first ∙ own.1,
            record {
              in_cell = known.cell;
              at_place = known.lib_pin;
              role = known.role;
              named = not_empty pin.name (λ empty. none place cell fault.BadName r.1 (inr (k, pin, found, inr empty)));
              name = known.name ∙ ap (λ (name : List ℕ). name ++ (codes "/" ++ pin.name)) (sym one.name);
            },
          );
    }

-- ---- pins

port_in_no_cell : (design : Design) (number : ℕ) (d : Direction) (role : Role) (cell : Option ℕ) → role ≡ port_role d → cell ≡ None → IsInCell design number role cell
port_in_no_cell design number direction.Input role cell is none = subst (λ (r : Role). IsInCell design number r cell) (sym is) none
port_in_no_cell design number direction.Output role cell is none = subst (λ (r : Role). IsInCell design number r cell) (sym is) none
port_in_no_cell design number direction.Other role cell is none = subst (λ (r : Role). IsInCell design number r cell) (sym is) none

-- a cell at a place has a pin
abbrev Spans : Design → ℕ → ℕ → Type 0
Spans design number place =
    (cell : CellInfo) × (slice_get design.cells place ≡ Some cell) × (cell.first.0 ≤ number) × (number < cell.first.0 + cell.count)

pin_in_cell : (design : Design) (number place : ℕ) (d : Direction) (role : Role) (cell : Option ℕ) → role ≡ role_in_cell d → cell ≡ Some place
    → Spans design number place → IsInCell design number role cell
pin_in_cell design number place direction.Input role cell is some spans =
    subst (λ (r : Role). IsInCell design number r cell) (sym is) (subst (λ (c : Option ℕ). IsInCell design number (role_in_cell direction.Input) c) (sym some) spans)
pin_in_cell design number place direction.Output role cell is some spans =
    subst (λ (r : Role). IsInCell design number r cell) (sym is) (subst (λ (c : Option ℕ). IsInCell design number (role_in_cell direction.Output) c) (sym some) spans)
pin_in_cell design number place direction.Other role cell is some spans =
    subst (λ (r : Role). IsInCell design number r cell) (sym is) (subst (λ (c : Option ℕ). IsInCell design number (role_in_cell direction.Other) c) (sym some) spans)

-- the pins of ports, by their ports
pub port_back : (top : Module) (number : ℕ) (pin : FlatPin) → slice_get (port_pins top) number ≡ Some pin
    → (k : ℕ) × (port : Port) × (index : Option ℕ) × (slice_get top.ports k ≡ Some port) × (pin ≡ port_pin port index)
port_back top number pin at =
    let r = get_flat (λ (port : Port). map (port_pin port) (indices port.range)) top.ports number pin at in
    let own = get_map (port_pin r.1) (indices r.1.range) r.2 pin r.4 in
    (r.0, r.1, own.0, r.3, own.2)

pub pin_formed : (modules : List Module) (library : Library) (top : Module) (design : Design) → IsFlatDesign library (flat modules library top) design
    → (number : ℕ) (info : PinInfo) → slice_get design.pins number ≡ Some info → IsInCell design number info.role info.cell
pin_formed modules library top design is number info at =
    let f : Flat = flat modules library top in
    let r = zip_back (IsPin f) f.pins design.pins is.pins number info at in
    let pin : FlatPin = r.0 in
    let known : IsPin f pin info = r.2 in
    elim (pin_back modules library top number pin r.1) [
      | inl port ↦
          let own = port_back top number pin port in
          port_in_no_cell design number own.1.direction info.role info.cell
          (known.role ∙ ap (λ (p : FlatPin). p.role) own.4) (known.cell ∙ ap (λ (p : FlatPin). p.cell) own.4)
      | inr inside ↦
          let there = zip_at (IsCell library) f.cells design.cells is.cells inside.place inside.cell inside.cell_is in
          let cell : CellInfo = there.0 in
          let one : IsCell library inside.cell cell = there.2 in
          let low = slice_get_within inside.cell.is.kind.pins inside.at inside.lib_pin inside.pin_is in
          pin_in_cell design number inside.place inside.lib_pin.direction info.role info.cell
          (known.role ∙ ap (λ (p : FlatPin). p.role) inside.is) (known.cell ∙ ap (λ (p : FlatPin). p.cell) inside.is)
          (cell, there.1, omega (arith, one.first, inside.there), omega (arith, one.first, one.count, inside.there, low))
    ]

-- ---- the names of pins

never_bad : (modules : List Module) (library : Library) (top : Module) → IsWellFormedModule top → NoneOfNets (flat modules library top)
    → NoneOfCells (flat modules library top) → (number : ℕ) (pin : FlatPin) → slice_get (flat modules library top).pins number ≡ Some pin
    → is_good_name pin.name ≡ false → ⊥
never_bad modules library top formed nets cells number pin at bad =
    elim (pin_back modules library top number pin at) [
      | inl port ↦
          let r = port_as_net modules library top formed number pin port [] in
          nets number r.0 fault.BadName r.1 (subst (λ (name : List ℕ). is_good_name name ≡ false) r.2 bad)
      | inr inside ↦
          cells inside.place inside.cell fault.BadName inside.cell_is
          (inr (inside.at, inside.lib_pin, inside.pin_is, inl (subst (λ (p : FlatPin). is_good_name p.name ≡ false) inside.is bad)))
    ]

never_twice : (modules : List Module) (library : Library) (top : Module) → IsWellFormedModule top → NoneOfNets (flat modules library top)
    → NoneOfCells (flat modules library top) → (number : ℕ) (pin : FlatPin) → slice_get (flat modules library top).pins number ≡ Some pin
    → is_among (map flat_pin_name (take number (flat modules library top).pins)) pin.name ≡ true → ⊥
never_twice modules library top formed nets cells number pin at again =
    let f : Flat = flat modules library top in
    elim (pin_back modules library top number pin at) [
      | inl port ↦
          let r = port_as_net modules library top formed number pin port (flat_map cell_pins (enumerate_from 0 (cells_of modules library top))) in
          nets number r.0 fault.DoubleName r.1
          (ap (λ (names : List (List ℕ)). is_among names (net_name r.0)) (sym r.3)
          ∙ (ap (λ (name : List ℕ). is_among (map flat_pin_name (take number f.pins)) name) (sym r.2) ∙ again))
      | inr inside ↦
          cells inside.place inside.cell fault.DoubleName inside.cell_is
          (inr (
            inside.at,
            inside.lib_pin,
            inside.pin_is,
            ap (λ (k : ℕ). is_among (map flat_pin_name (take k f.pins)) (cell_pin_name inside.cell inside.lib_pin)) (sym inside.there)
                ∙ (ap (λ (p : FlatPin). is_among (map flat_pin_name (take number f.pins)) p.name) (sym inside.is) ∙ again),
          ))
    ]

pub pin_names_good : (modules : List Module) (library : Library) (top : Module) (design : Design) → IsFlatDesign library (flat modules library top) design
    → IsWellFormedModule top → NoneOfNets (flat modules library top) → NoneOfCells (flat modules library top)
    → AreGoodNames (map (λ (info : PinInfo). info.name) design.pins)
pin_names_good modules library top design is formed nets cells =
    let f : Flat = flat modules library top in
    subst AreGoodNames (sym (zip_map (IsPin f) flat_pin_name (λ (info : PinInfo). info.name) (λ pin info one. one.name) f.pins design.pins is.pins))
    (good_names flat_pin_name f.pins (never_bad modules library top formed nets cells) (never_twice modules library top formed nets cells))
