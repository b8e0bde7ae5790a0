-- What the step of an instance says of the instance where it stands.
use Rattle.std.proofs.Common.{◌≡◌, ℕ, Bool, true, false, cond, List, slice_get, Option, Some, None, refl, sym, ◌∙◌, ap, subst}
use Rattle.std.proofs.lemmas.Bool.{cond-false, cond-true}
use Rattle.source_types.specs.declared.fault_kinds.DesignKind.{DesignKind}
use Rattle.source_types.specs.declared.fault_kinds.DesignKind.TheVariants as fault
use Rattle.source_types.specs.declared.libraries.Library.{Library}
use Rattle.pin_types.specs.declared.library_cells.LibCell.{LibCell}
use Rattle.source_types.specs.declared.netlists.Module.{Module}
use Rattle.flat_model.specs.Connections.{cell_fault, instance_fault}
use Rattle.flat_model.specs.Instances.{Placed, PlacedCell, cell_at, cell_named, entered, meant, module_named, scope_for, stands_in}
use Rattle.flat_design.specs.declared.elaborate.walk.Step.{Step}
use Rattle.flat_design.specs.declared.elaborate.walk.Step.TheVariants as step
use Rattle.flat_design.specs.Names.{place_of}
use Rattle.flat_design.specs.Steps.{cell_names, cell_step, fault_step, fits_module, module_names, named_step, step_of, step_of_cell}
use Rattle.flat_design.proofs.InstanceFaults.{found_at, instance_none, instance_some}
use Rattle.flat_design.proofs.StepFacts.{cell_at_place, module_at, step_known, step_unknown}
use Rattle.flat_design.proofs.TableFacts.{at_place, first_found}

abbrev pub cell_here : Placed → LibCell → PlacedCell
cell_here placed cell = record { placed = placed; kind = cell }

-- an instance with a fault, of a cell, or of a module, which has a fault where it stands in itself
abbrev pub Means : List Module → Library → Placed → Step → Type 0
Means modules library placed (step.Fault kind) = instance_fault modules library placed ≡ Some kind
Means modules library placed (step.Cell kind) =
    (cell : LibCell) × (slice_get library.cells kind ≡ Some cell) × (entered modules placed ≡ None)
    × (cell_at modules library placed ≡ Some (cell_here placed cell))
Means modules library placed (step.Enter p fits) =
    (b : Module) × (slice_get modules p ≡ Some b) × (cell_at modules library placed ≡ None)
    × (stands_in b placed.scope ≡ true → instance_fault modules library placed ≡ Some fault.ModuleCycle)
    × (stands_in b placed.scope ≡ false → entered modules placed ≡ Some (scope_for placed b))

-- ---- a module

pub entered_is : (modules : List Module) (placed : Placed) (b : Module) → module_named modules placed.instance.kind ≡ Some b
    → entered modules placed ≡ cond (stands_in b placed.scope) None (Some (scope_for placed b))
entered_is modules placed b named = rw (named, entered) refl

no_cell : (modules : List Module) (library : Library) (placed : Placed) (b : Module) → module_named modules placed.instance.kind ≡ Some b
    → cell_at modules library placed ≡ None
no_cell modules library placed b named = rw (named, cell_at, meant) refl

module_means : (modules : List Module) (library : Library) (placed : Placed) (p : ℕ) (fits : Bool) (b : Module) → slice_get modules p ≡ Some b
    → module_named modules placed.instance.kind ≡ Some b → Means modules library placed (step.Enter p fits)
module_means modules library placed p fits b at named = (
  b,
  at,
  no_cell modules library placed b named,
  λ near. instance_some modules library placed b named ∙ cond-true (stands_in b placed.scope) _ _ near,
  λ far. entered_is modules placed b named ∙ cond-false (stands_in b placed.scope) _ _ far,
)

-- ---- a cell, or nothing

pub entered_none : (modules : List Module) (placed : Placed) → module_named modules placed.instance.kind ≡ None → entered modules placed ≡ None
entered_none modules placed none = rw (none, entered) refl

cell_there : (modules : List Module) (library : Library) (placed : Placed) (cell : LibCell) → module_named modules placed.instance.kind ≡ None
    → cell_named library placed.instance.kind ≡ Some cell → cell_at modules library placed ≡ Some (cell_here placed cell)
cell_there modules library placed cell none is = rw (none, is, cell_at, meant) refl

known_means : (modules : List Module) (library : Library) (placed : Placed) (kind : ℕ) (cell : LibCell) → module_named modules placed.instance.kind ≡ None
    → cell_named library placed.instance.kind ≡ Some cell → slice_get library.cells kind ≡ Some cell
    → (own : Option DesignKind) → cell_fault cell placed.instance.links ≡ own → Means modules library placed (fault_step kind own)
known_means modules library placed kind cell none is at None own = (cell, at, entered_none modules placed none, cell_there modules library placed cell none is)
known_means modules library placed kind cell none is at (Some found) own = instance_none modules library placed none (Some cell) is ∙ own

cell_means : (modules : List Module) (library : Library) (placed : Placed) → module_named modules placed.instance.kind ≡ None
    → (found : Option ℕ) → place_of (cell_names library) placed.instance.kind ≡ found → Means modules library placed (step_of_cell library placed.instance)
cell_means modules library placed none None is =
    subst (Means modules library placed) (step_unknown library placed.instance is)
    (instance_none modules library placed none None (sym (cell_at_place library placed.instance.kind None is)))
cell_means modules library placed none (Some kind) is =
    let at : (cell : LibCell) × (slice_get library.cells kind ≡ Some cell) = found_at (λ (cell : LibCell). cell.name) library.cells placed.instance.kind kind is in
    let named : cell_named library placed.instance.kind ≡ Some at.0 = sym (cell_at_place library placed.instance.kind (Some kind) is) ∙ at.1 in
    subst (Means modules library placed) (step_known library placed.instance kind is)
    (subst (λ (o : Option LibCell). Means modules library placed (cell_step kind o placed.instance.links)) (sym at.1)
    (known_means modules library placed kind at.0 none named at.1 (cell_fault at.0 placed.instance.links) refl))

step_means_at : (modules : List Module) (library : Library) (placed : Placed) (found : Option ℕ) → place_of (module_names modules) placed.instance.kind ≡ found
    → Means modules library placed (named_step modules library placed.instance found)
step_means_at modules library placed None is =
    cell_means modules library placed (sym (first_found (λ (m : Module). m.name) modules placed.instance.kind) ∙ ap (at_place modules) is)
    (place_of (cell_names library) placed.instance.kind) refl
step_means_at modules library placed (Some p) is =
    let at : (b : Module) × (slice_get modules p ≡ Some b) = found_at (λ (m : Module). m.name) modules placed.instance.kind p is in
    module_means modules library placed p (fits_module (module_named modules placed.instance.kind) placed.instance.links) at.0 at.1 (sym (module_at modules placed.instance.kind p is) ∙ at.1)

pub step_means : (modules : List Module) (library : Library) (placed : Placed) → Means modules library placed (step_of modules library placed.instance)
step_means modules library placed = step_means_at modules library placed (place_of (module_names modules) placed.instance.kind) refl
