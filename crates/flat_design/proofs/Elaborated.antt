-- From the steps of instances to what stands in a design, or its first fault.
use Rattle.std.proofs.Common.{◌≡◌, ◌<◌, inl, inr, ℕ, true, List, length, slice_get, Option, Some, None, Result, Ok, Err, refl, sym, ◌∙◌, ap, subst, arith}
use Rattle.std.proofs.lemmas.List.{length-map}
use Rattle.std.proofs.lemmas.Option.{slice_get_within}
use Rattle.std.specs.List.{All}
use Rattle.sdc_base.specs.Gives.{Meets}
use Rattle.sdc_base.specs.declared.memory.At.{At}
use Rattle.sdc_base.specs.declared.memory.Stop.{Stop}
use Rattle.sdc_base.specs.declared.memory.Stop.TheVariants as stop
use Rattle.source_types.specs.declared.fault_kinds.DesignKind.{DesignKind}
use Rattle.source_types.specs.declared.fault_kinds.DesignKind.TheVariants as fault
use Rattle.source_types.specs.declared.libraries.Library.{Library}
use Rattle.pin_types.specs.declared.library_cells.LibCell.{LibCell}
use Rattle.source_types.specs.declared.netlists.Instance.{Instance}
use Rattle.source_types.specs.declared.netlists.Links.{Links}
use Rattle.source_types.specs.declared.netlists.Module.{Module}
use Rattle.flat_model.specs.Connections.{cell_fault}
use Rattle.flat_model.specs.FlatDesign.{flat}
use Rattle.flat_model.specs.FlatFaults.{is_too_large}
use Rattle.flat_model.specs.Flattening.{FirstOfInstances, Flattens, FlattensTop, NoneOfInstances, fault_of}
use Rattle.flat_model.specs.Instances.{ModuleInstance, cell_named, module_named, scopes_of}
use Rattle.netlist_model.specs.WellFormedNetlist.{IsWellFormedModule, IsWellFormedNetlist}
use Rattle.text_model.proofs.ListFacts.{all_at, element_at}
use Rattle.flat_design.specs.declared.elaborate.hierarchy.Hierarchy.{Hierarchy}
use Rattle.flat_design.specs.declared.elaborate.elaboration.Elaboration.{Elaboration}
use Rattle.flat_design.specs.declared.elaborate.walk.Step.{Step}
use Rattle.flat_design.specs.Expansion.{HasElaboration}
use Rattle.flat_design.specs.Hierarchy.{AreFormed, IsHierarchy}
use Rattle.flat_design.specs.Elaborating.{AreSound, HasHierarchy, Elaborates}
use Rattle.flat_design.specs.Elaboration.{IsElaboration, IsModuleInstance}
use Rattle.flat_design.specs.Names.{place_of}
use Rattle.flat_design.specs.Steps.{all_steps, cell_place, cell_step, fault_step, module_names, named_step, step_of, steps_in}
use Rattle.flat_design.specs.Walk.{IsWithin}
use Rattle.flat_design.proofs.HierarchyFacts.{one_at}
use Rattle.flat_design.proofs.InstanceFaults.{found_at}
use Rattle.flat_design.proofs.StepFacts.{each_step, module_at, module_within}
use Rattle.flat_design.proofs.TableFacts.{at_place, first_found}

-- ---- steps enter modules that there are

-- what a cell gives is no entry
fault_within : (n kind : ℕ) (own : Option DesignKind) → IsWithin n (fault_step kind own)
fault_within n kind None = tt
fault_within n kind (Some found) = tt

known_within : (n kind : ℕ) (cell : Option LibCell) (all : Links) → IsWithin n (cell_step kind cell all)
known_within n kind None all = tt
known_within n kind (Some cell) all = fault_within n kind (cell_fault cell all)

named_within : (modules : List Module) (library : Library) (instance : Instance) (found : Option ℕ) → place_of (module_names modules) instance.kind ≡ found
    → IsWithin (length modules) (named_step modules library instance found)
named_within modules library instance None is = known_within (length modules) (cell_place library instance.kind) (cell_named library instance.kind) instance.links
named_within modules library instance (Some p) is = module_within modules instance.kind p is

step_within : (modules : List Module) (library : Library) (instance : Instance) → IsWithin (length modules) (step_of modules library instance)
step_within modules library instance = named_within modules library instance (place_of (module_names modules) instance.kind) refl

pub steps_within : (modules : List Module) (library : Library) (steps : List (List Step)) → steps ≡ all_steps modules library
    → All (All (IsWithin (length steps))) steps
steps_within modules library steps is =
    let count : length steps ≡ length modules = ap length is ∙ length-map modules (steps_in modules library) in
    subst (λ (n : ℕ). All (All (IsWithin n)) steps) (sym count)
    (each_step modules library (IsWithin (length modules)) (λ instance. step_within modules library instance) steps is)

pub steps_count : (modules : List Module) (library : Library) (steps : List (List Step)) (name : List ℕ) (p : ℕ) → steps ≡ all_steps modules library
    → place_of (module_names modules) name ≡ Some p → p < length steps
steps_count modules library steps name p is at =
    let count : length steps ≡ length modules = ap length is ∙ length-map modules (steps_in modules library) in
    let low = module_within modules name p at in
    omega (arith, count, low)

-- ---- names

formed_modules : (modules : List Module) (library : Library) (top : Module) (elaboration : Elaboration) → IsWellFormedNetlist modules
    → IsElaboration modules library top elaboration → AreFormed (scopes_of modules top)
formed_modules modules library top elaboration well is place scope at =
    let low = slice_get_within (scopes_of modules top) place scope at in
    let row = element_at elaboration.scopes place (omega (arith, low, is.scope_count)) in
    let known : IsModuleInstance modules (scopes_of modules top) place row.0 = is.scopes place row.0 row.1 in
    let same : known.scope ≡ scope = one_at (scopes_of modules top) place known.scope scope known.at at in
    subst (λ (s : ModuleInstance). IsWellFormedModule s.body) same (all_at IsWellFormedModule modules row.0.body known.scope.body well.0 known.body)

-- ---- faults

pub unknown_top : (modules : List Module) (library : Library) (top : List ℕ) → place_of (module_names modules) top ≡ None
    → Flattens modules library top (Err (fault_of 0 fault.UnknownModule))
unknown_top modules library top none =
    let missing : module_named modules top ≡ None = sym (first_found (λ (m : Module). m.name) modules top) ∙ ap (at_place modules) none in
    subst (λ (o : Option Module). FlattensTop modules library o (Err (fault_of 0 fault.UnknownModule))) (sym missing) refl

pub top_at : (modules : List Module) (top : List ℕ) (p : ℕ) → place_of (module_names modules) top ≡ Some p
    → (body : Module) × (module_named modules top ≡ Some body) × (slice_get modules p ≡ Some body)
top_at modules top p at =
    let found = found_at (λ (m : Module). m.name) modules top p at in
    (found.0, sym (module_at modules top p at) ∙ found.1, found.1)

pub faulty_instance : (modules : List Module) (library : Library) (top : List ℕ) (body : Module) (first : At DesignKind) → module_named modules top ≡ Some body
    → FirstOfInstances modules library (flat modules library body) first → Flattens modules library top (Err first)
faulty_instance modules library top body first named has =
    subst (λ (o : Option Module). FlattensTop modules library o (Err first)) (sym named) (inl has)

pub too_many : (modules : List Module) (library : Library) (top : List ℕ) (body : Module) → module_named modules top ≡ Some body
    → NoneOfInstances modules library (flat modules library body) → is_too_large (flat modules library body) ≡ true
    → Flattens modules library top (Err (fault_of 0 fault.TooMany))
too_many modules library top body named none large =
    subst (λ (o : Option Module). FlattensTop modules library o (Err (fault_of 0 fault.TooMany))) (sym named) (inr (none, inl (large, refl)))

-- ---- what calls answer

-- the fault of an instance is the design's
pub fault_lifted : (modules : List Module) (library : Library) (top : List ℕ) (body : Module) → module_named modules top ≡ Some body
    → (stopped : Stop (At DesignKind)) → Meets {T = List ℕ} (Err stopped) (AreSound modules library body) → Meets {T = Hierarchy} (Err stopped) (Elaborates modules library top)
fault_lifted modules library top body named (stop.Refused first) has = faulty_instance modules library top body first named has
fault_lifted modules library top body named stop.NoMemory has = tt

pub hierarchy_lifted : (modules : List Module) (library : Library) (top : List ℕ) (body : Module) → module_named modules top ≡ Some body
    → NoneOfInstances modules library (flat modules library body) → (r : Result Hierarchy (Stop (At DesignKind))) → Meets r (HasHierarchy modules library body)
    → Meets r (Elaborates modules library top)
hierarchy_lifted modules library top body named none (Ok design) has = record {
  named = named ∙ ap (λ (m : Module). Some m) (sym has.2);
  netlist = has.0;
  cells = has.1;
  hierarchy = has.3;
  sound = subst (λ (m : Module). NoneOfInstances modules library (flat modules library m)) (sym has.2) none;
  small = ap (λ (m : Module). is_too_large (flat modules library m)) has.2 ∙ has.4;
}
hierarchy_lifted modules library top body named none (Err (stop.Refused first)) has =
    subst (λ (one : At DesignKind). Flattens modules library top (Err one)) (sym has.1) (too_many modules library top body named none has.0)
hierarchy_lifted modules library top body named none (Err stop.NoMemory) has = tt

-- the elaboration of a design is its hierarchy
pub elaboration_found : (modules : List Module) (library : Library) (top : Module) (elaboration : Elaboration) → IsWellFormedNetlist modules
    → HasElaboration modules library top (Some elaboration) → (design : Hierarchy) → design.modules.now ≡ modules → design.library.now ≡ library → design.top.now ≡ top
    → design.elaboration ≡ elaboration → IsHierarchy design
elaboration_found modules library top elaboration well has design same_modules same_library same_top same_elaboration =
    let is : IsElaboration design.modules.now design.library.now design.top.now design.elaboration =
    subst (λ (l : Elaboration). IsElaboration design.modules.now design.library.now design.top.now l) (sym same_elaboration)
    (subst (λ (m : Module). IsElaboration design.modules.now design.library.now m elaboration) (sym same_top)
    (subst (λ (lib : Library). IsElaboration design.modules.now lib top elaboration) (sym same_library)
    (subst (λ (ms : List Module). IsElaboration ms library top elaboration) (sym same_modules) has.1))) in
    record {
      elaboration = is;
      distinct = λ place scope at.
          (formed_modules design.modules.now design.library.now design.top.now design.elaboration (subst IsWellFormedNetlist (sym same_modules) well) is place scope at).names;
      formed = formed_modules design.modules.now design.library.now design.top.now design.elaboration (subst IsWellFormedNetlist (sym same_modules) well) is;
    }
