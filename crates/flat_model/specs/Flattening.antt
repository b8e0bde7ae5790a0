-- What flattening means: modules, a library and the name of the top are a design, or have a first fault. The order of
-- faults is this project's own: those of instances, then too large a design, then those of nets, then those of cells.
-- It reads: where the top is missing, that is the fault; each group of faults counts where those before it have none.
use Rattle.std.specs.Prelude.{◌≡◌, ◌⊎◌, ℕ, true, false, List, Option, Some, None, Result, Ok, Err}
use Rattle.sdc_base.specs.declared.memory.At.{At}
use Rattle.timing_types.specs.declared.designs.Design.{Design}
use Rattle.source_types.specs.declared.fault_kinds.DesignKind.{DesignKind}
use Rattle.source_types.specs.declared.libraries.Library.{Library}
use Rattle.source_types.specs.declared.netlists.Module.{Module}
use Rattle.flat_model.specs.FlatDesign.{Flat, FlatCell, IsFlatDesign, flat}
use Rattle.flat_model.specs.FlatFaults.{CellHas, HasNoFault, InstanceHas, IsFirstFault, NetHas, cell_line, instance_line, is_too_large, net_line}
use Rattle.flat_model.specs.FlatNets.{FlatNet}
use Rattle.flat_model.specs.Instances.{Placed, module_named}
use Rattle.design_model.specs.UsableLibrary.{IsWellFormedLibrary}
use Rattle.netlist_model.specs.WellFormedNetlist.{IsWellFormedNetlist}
use Rattle.source_types.specs.declared.fault_kinds.DesignKind.TheVariants as fault

abbrev pub fault_of : ℕ → DesignKind → At DesignKind
fault_of line kind = record { line = line; kind = kind }

-- ---- the groups of faults

abbrev pub FirstOfInstances : List Module → Library → Flat → At DesignKind → Type 0
FirstOfInstances modules library f first = IsFirstFault Placed (InstanceHas modules library) instance_line f.instances first

abbrev pub NoneOfInstances : List Module → Library → Flat → Type 0
NoneOfInstances modules library f = HasNoFault Placed (InstanceHas modules library) f.instances

abbrev pub FirstOfNets : Flat → At DesignKind → Type 0
FirstOfNets f first = IsFirstFault FlatNet (NetHas f) net_line f.nets first

abbrev pub NoneOfNets : Flat → Type 0
NoneOfNets f = HasNoFault FlatNet (NetHas f) f.nets

abbrev pub FirstOfCells : Flat → At DesignKind → Type 0
FirstOfCells f first = IsFirstFault FlatCell (CellHas f) cell_line f.cells first

abbrev pub NoneOfCells : Flat → Type 0
NoneOfCells f = HasNoFault FlatCell (CellHas f) f.cells

-- ---- their order

-- the first fault of a design that is not too large
abbrev pub FirstByName : Flat → At DesignKind → Type 0
FirstByName f first = FirstOfNets f first ⊎ (NoneOfNets f × FirstOfCells f first)

-- the first fault after those of instances
abbrev pub FirstOfWhole : Flat → At DesignKind → Type 0
FirstOfWhole f first =
    ((is_too_large f ≡ true) × (first ≡ fault_of 0 fault.TooMany))
    ⊎ ((is_too_large f ≡ false) × FirstByName f first)

abbrev pub FirstFault : List Module → Library → Flat → At DesignKind → Type 0
FirstFault modules library f first =
    FirstOfInstances modules library f first ⊎ (NoneOfInstances modules library f × FirstOfWhole f first)

pub record HasNoFaults (modules : List Module) (library : Library) (f : Flat) : Type 0 where
  pub instances : NoneOfInstances modules library f
  pub size : is_too_large f ≡ false
  pub nets : NoneOfNets f
  pub cells : NoneOfCells f

-- ---- the outcome

-- the outcome for a top that is there: the design, or the first fault
abbrev pub FlattensTo : List Module → Library → Flat → Result Design (At DesignKind) → Type 0
FlattensTo modules library f (Ok design) = HasNoFaults modules library f × IsFlatDesign library f design
FlattensTo modules library f (Err first) = FirstFault modules library f first

abbrev pub FlattensTop : List Module → Library → Option Module → Result Design (At DesignKind) → Type 0
FlattensTop modules library None outcome = outcome ≡ Err (fault_of 0 fault.UnknownModule)
FlattensTop modules library (Some top) outcome = FlattensTo modules library (flat modules library top) outcome

-- modules, a library and the name of the top have this outcome
abbrev pub Flattens : List Module → Library → List ℕ → Result Design (At DesignKind) → Type 0
Flattens modules library top outcome = FlattensTop modules library (module_named modules top) outcome

-- ---- what can be flattened

-- the condition of flattening
abbrev pub CanFlatten : List Module → Library → Type 0
CanFlatten modules library = IsWellFormedNetlist modules × IsWellFormedLibrary library
