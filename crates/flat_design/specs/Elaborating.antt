-- What is made of a netlist up to the limits of a design. This project's own words.
-- It reads: either all that stands in the design, whose instances have no fault and which is not too large, or the
-- first fault.
use Rattle.std.specs.Prelude.{◌≡◌, ℕ, true, false, List, slice_get, Option, Some, None, Result, Ok, Err}
use Rattle.sdc_base.specs.declared.memory.At.{At}
use Rattle.source_types.specs.declared.fault_kinds.DesignKind.{DesignKind}
use Rattle.source_types.specs.declared.fault_kinds.DesignKind.TheVariants as fault
use Rattle.source_types.specs.declared.libraries.Library.{Library}
use Rattle.source_types.specs.declared.netlists.Instance.{Instance}
use Rattle.source_types.specs.declared.netlists.Module.{Module}
use Rattle.flat_model.specs.FlatDesign.{flat}
use Rattle.flat_model.specs.FlatFaults.{is_too_large}
use Rattle.flat_model.specs.Flattening.{FirstOfInstances, Flattens, NoneOfInstances, fault_of}
use Rattle.flat_model.specs.Instances.{module_named}
use Rattle.flat_design.specs.declared.elaborate.hierarchy.Hierarchy.{Hierarchy}
use Rattle.flat_design.specs.declared.elaborate.walk.FaultAt.{FaultAt}
use Rattle.flat_design.specs.Hierarchy.{IsHierarchy}

-- ---- the line of a fault

abbrev pub line_in : Option Instance → ℕ
line_in None = 0
line_in (Some instance) = instance.line

abbrev pub instance_in : Option Module → ℕ → Option Instance
instance_in None place = None
instance_in (Some m) place = slice_get m.instances place

-- the line of an instance by the places of its module and of itself
abbrev pub line_at : List Module → ℕ → ℕ → ℕ
line_at modules body instance = line_in (instance_in (slice_get modules body) instance)

abbrev pub denoted : List Module → FaultAt → At DesignKind
denoted modules found = fault_of (line_at modules found.body found.instance) found.kind

-- ---- instances

-- no instance has a fault, or the first one has it
abbrev pub AreSound : {T : Type 0} → List Module → Library → Module → Result T (At DesignKind) → Type 0
AreSound modules library top (Ok done) = NoneOfInstances modules library (flat modules library top)
AreSound modules library top (Err first) = FirstOfInstances modules library (flat modules library top) first

-- ---- all that stands in a design

-- what stands in a design, or that it is too large
abbrev pub HasHierarchy : List Module → Library → Module → Result Hierarchy (At DesignKind) → Type 0
HasHierarchy modules library top (Ok design) =
    (design.modules.now ≡ modules) × (design.library.now ≡ library) × (design.top.now ≡ top) × IsHierarchy design
    × (is_too_large (flat modules library top) ≡ false)
HasHierarchy modules library top (Err first) = (is_too_large (flat modules library top) ≡ true) × (first ≡ fault_of 0 fault.TooMany)

pub record IsElaborated (modules : List Module) (library : Library) (top : List ℕ) (design : Hierarchy) : Type 0 where
  pub named : module_named modules top ≡ Some design.top.now
  pub netlist : design.modules.now ≡ modules
  pub cells : design.library.now ≡ library
  pub hierarchy : IsHierarchy design
  pub sound : NoneOfInstances modules library (flat modules library design.top.now)
  pub small : is_too_large (flat modules library design.top.now) ≡ false

abbrev pub Elaborates : List Module → Library → List ℕ → Result Hierarchy (At DesignKind) → Type 0
Elaborates modules library top (Ok design) = IsElaborated modules library top design
Elaborates modules library top (Err first) = Flattens modules library top (Err first)
