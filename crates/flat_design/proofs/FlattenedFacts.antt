-- What is built of a hierarchy is what a netlist flattens to, and is well-formed.
use Rattle.std.proofs.Common.{◌≡◌, inr, List, ℕ, IfOk, Option, Result, Ok, Err, refl, sym, ◌∙◌, ap, subst}
use Rattle.sdc_base.specs.Gives.{Meets}
use Rattle.sdc_base.specs.declared.memory.At.{At}
use Rattle.sdc_base.specs.declared.memory.Stop.{Stop}
use Rattle.sdc_base.specs.declared.memory.Stop.TheVariants as stop
use Rattle.timing_types.specs.declared.designs.Design.{Design}
use Rattle.source_types.specs.declared.fault_kinds.DesignKind.{DesignKind}
use Rattle.source_types.specs.declared.libraries.Library.{Library}
use Rattle.source_types.specs.declared.netlists.Module.{Module}
use Rattle.flat_model.specs.FlatDesign.{Flat, IsFlatDesign, flat}
use Rattle.flat_model.specs.Flattening.{CanFlatten, FirstByName, Flattens, FlattensTop, FlattensTo, HasNoFaults, NoneOfCells, NoneOfNets}
use Rattle.flat_model.specs.Instances.{top_scope}
use Rattle.design_model.specs.WellFormedDesign.{IsWellFormedDesign}
use Rattle.netlist_model.specs.WellFormedNetlist.{IsWellFormedModule}
use Rattle.flat_design.specs.declared.elaborate.hierarchy.Hierarchy.{Hierarchy}
use Rattle.flat_design.specs.Building.{IsBuilt}
use Rattle.flat_design.specs.Elaborating.{IsElaborated}
use Rattle.flat_design.specs.NamedFaults.{flat_of}
use Rattle.flat_design.proofs.WellFormedFlat.{flat_is_formed}

-- what a hierarchy of a netlist and a library has
same_flat : (modules : List Module) (library : Library) (top : List ℕ) (design : Hierarchy) → IsElaborated modules library top design
    → flat_of design ≡ flat modules library design.top.now
same_flat modules library top design elaborated =
    ap (λ (ms : List Module). flat ms design.library.now design.top.now) elaborated.netlist ∙ ap (λ (l : Library). flat modules l design.top.now) elaborated.cells

none_left : (modules : List Module) (library : Library) (top : List ℕ) (design : Hierarchy) → IsElaborated modules library top design
    → NoneOfNets (flat modules library design.top.now) → NoneOfCells (flat modules library design.top.now)
    → HasNoFaults modules library (flat modules library design.top.now)
none_left modules library top design elaborated nets cells = record { instances = elaborated.sound; size = elaborated.small; nets = nets; cells = cells }

-- the top is there
with_top : (modules : List Module) (library : Library) (top : List ℕ) (design : Hierarchy) (outcome : Result Design (At DesignKind)) → IsElaborated modules library top design
    → FlattensTo modules library (flat modules library design.top.now) outcome → Flattens modules library top outcome
with_top modules library top design outcome elaborated own = subst (λ (o : Option Module). FlattensTop modules library o outcome) (sym elaborated.named) own

fault_flattens : (modules : List Module) (library : Library) (top : List ℕ) (design : Hierarchy) (first : At DesignKind) → IsElaborated modules library top design
    → IsBuilt design (Err first) → Flattens modules library top (Err first)
fault_flattens modules library top design first elaborated built =
    with_top modules library top design (Err first) elaborated
    (inr (elaborated.sound, inr (elaborated.small, subst (λ (f : Flat). FirstByName f first) (same_flat modules library top design elaborated) built)))

design_flattens : (modules : List Module) (library : Library) (top : List ℕ) (design : Hierarchy) (made : Design) → IsElaborated modules library top design
    → IsBuilt design (Ok made) → Flattens modules library top (Ok made)
design_flattens modules library top design made elaborated built =
    let same = same_flat modules library top design elaborated in
    with_top modules library top design (Ok made) elaborated (
      none_left modules library top design elaborated (subst NoneOfNets same built.0) (subst NoneOfCells same built.1),
      subst (λ (f : Flat). IsFlatDesign library f made) same (subst (λ (l : Library). IsFlatDesign l (flat_of design) made) elaborated.cells built.2),
    )

design_is_formed : (modules : List Module) (library : Library) (top : List ℕ) (design : Hierarchy) (made : Design) → CanFlatten modules library
    → IsElaborated modules library top design → IsBuilt design (Ok made) → IsWellFormedDesign made
design_is_formed modules library top design made can elaborated built =
    let same = same_flat modules library top design elaborated in
    let formed : IsWellFormedModule design.top.now = elaborated.hierarchy.formed 0 (top_scope design.top.now) refl in
    flat_is_formed modules library design.top.now made formed can.1
    (none_left modules library top design elaborated (subst NoneOfNets same built.0) (subst NoneOfCells same built.1))
    (subst (λ (f : Flat). IsFlatDesign library f made) same (subst (λ (l : Library). IsFlatDesign l (flat_of design) made) elaborated.cells built.2))

-- ---- what a call answers

pub built_flattens : (modules : List Module) (library : Library) (top : List ℕ) (design : Hierarchy) (result : Result Design (Stop (At DesignKind)))
    → IsElaborated modules library top design → Meets result (IsBuilt design) → Meets result (λ outcome. Flattens modules library top outcome)
built_flattens modules library top design (Ok made) elaborated built = design_flattens modules library top design made elaborated built
built_flattens modules library top design (Err (stop.Refused first)) elaborated built = fault_flattens modules library top design first elaborated built
built_flattens modules library top design (Err stop.NoMemory) elaborated built = tt

pub built_formed : (modules : List Module) (library : Library) (top : List ℕ) (design : Hierarchy) (result : Result Design (Stop (At DesignKind)))
    → CanFlatten modules library → IsElaborated modules library top design → Meets result (IsBuilt design) → IfOk result IsWellFormedDesign
built_formed modules library top design (Ok made) can elaborated built = design_is_formed modules library top design made can elaborated built
built_formed modules library top design (Err (stop.Refused first)) can elaborated built = tt
built_formed modules library top design (Err stop.NoMemory) can elaborated built = tt
