-- The step of an instance by what the tables find of its name.
use Rattle.std.proofs.Common.{◌≡◌, ◌<◌, ℕ, Bool, true, false, List, length, get_or, slice_get, unwrap_or, Option, Some, None, refl, sym, ◌∙◌, ap, subst, cond}
use Rattle.std.proofs.lemmas.Bool.{cond-true, cond-false}
use Rattle.std.proofs.lemmas.List.Elements.{All-map}
use Rattle.std.proofs.lemmas.Option.{slice_get_read, slice_get_within}
use Rattle.std.specs.List.{All}
use Rattle.source_types.specs.declared.fault_kinds.DesignKind.TheVariants as fault
use Rattle.source_types.specs.declared.libraries.Library.{Library}
use Rattle.pin_types.specs.declared.library_cells.LibCell.{LibCell}
use Rattle.source_types.specs.declared.netlists.Instance.{Instance}
use Rattle.source_types.specs.declared.netlists.Links.{Links}
use Rattle.source_types.specs.declared.netlists.Module.{Module}
use Rattle.flat_model.specs.Connections.{links_fit, pins_of}
use Rattle.flat_model.specs.Instances.{cell_named, module_named}
use Rattle.flat_design.specs.declared.elaborate.walk.Step.{Step}
use Rattle.flat_design.specs.declared.elaborate.walk.Step.TheVariants as step
use Rattle.flat_design.specs.Names.{place_of}
use Rattle.flat_design.specs.Steps.{all_steps, cell_names, cell_place, cell_step, fault_step, fits_module, fits_step, module_names, named_step, step_of, step_of_cell, steps_in}
use Rattle.flat_design.proofs.InstanceFaults.{found_at}
use Rattle.flat_design.proofs.TableFacts.{at_place, first_found}

-- what holds of the step of each instance
pub each_step : (modules : List Module) (library : Library) (P : Step → Type 0) → ((instance : Instance) → P (step_of modules library instance))
    → (steps : List (List Step)) → steps ≡ all_steps modules library → All (All P) steps
each_step modules library P own steps is =
    subst (λ (all : List (List Step)). All (All P) all) (sym is)
    (All-map (All P) (steps_in modules library) modules
    (λ k d within. All-map P (step_of modules library) (get_or modules k d).instances
    (λ j e low. own (get_or (get_or modules k d).instances j e))))

-- the module of a name is the one at its place
pub module_at : (modules : List Module) (name : List ℕ) (p : ℕ) → place_of (module_names modules) name ≡ Some p → slice_get modules p ≡ module_named modules name
module_at modules name p is = ap (at_place modules) (sym is) ∙ first_found (λ (m : Module). m.name) modules name

pub cell_at_place : (library : Library) (name : List ℕ) (found : Option ℕ) → place_of (cell_names library) name ≡ found → at_place library.cells found ≡ cell_named library name
cell_at_place library name found is = ap (at_place library.cells) (sym is) ∙ first_found (λ (cell : LibCell). cell.name) library.cells name

-- a place that is found is one of a module
pub module_within : (modules : List Module) (name : List ℕ) (p : ℕ) → place_of (module_names modules) name ≡ Some p → p < length modules
module_within modules name p is =
    let at = found_at (λ (m : Module). m.name) modules name p is in
    slice_get_within modules p at.0 at.1

pub cell_within : (library : Library) (name : List ℕ) (p : ℕ) → place_of (cell_names library) name ≡ Some p → p < length library.cells
cell_within library name p is =
    let at = found_at (λ (cell : LibCell). cell.name) library.cells name p is in
    slice_get_within library.cells p at.0 at.1

pub step_entered : (modules : List Module) (library : Library) (instance : Instance) (p : ℕ) → place_of (module_names modules) instance.kind ≡ Some p
    → step.Enter p (fits_module (slice_get modules p) instance.links) ≡ step_of modules library instance
step_entered modules library instance p is =
    ap (λ (m : Option Module). step.Enter p (fits_module m instance.links)) (module_at modules instance.kind p is)
    ∙ sym (ap (named_step modules library instance) is)

pub step_other : (modules : List Module) (library : Library) (instance : Instance) → place_of (module_names modules) instance.kind ≡ None
    → step_of_cell library instance ≡ step_of modules library instance
step_other modules library instance is = sym (ap (named_step modules library instance) is)

pub step_known : (library : Library) (instance : Instance) (kind : ℕ) → place_of (cell_names library) instance.kind ≡ Some kind
    → cell_step kind (slice_get library.cells kind) instance.links ≡ step_of_cell library instance
step_known library instance kind is =
    ap (λ (cell : Option LibCell). cell_step kind cell instance.links) (cell_at_place library instance.kind (Some kind) is)
    ∙ ap (λ (found : Option ℕ). cell_step (unwrap_or found 0) (cell_named library instance.kind) instance.links) (sym is)

pub step_unknown : (library : Library) (instance : Instance) → place_of (cell_names library) instance.kind ≡ None
    → step.Fault fault.UnknownModule ≡ step_of_cell library instance
step_unknown library instance is =
    ap (λ (cell : Option LibCell). cell_step (cell_place library instance.kind) cell instance.links) (cell_at_place library instance.kind None is)

-- ---- an instance of a library cell

pub step_refused : (cells : List LibCell) (kind : ℕ) (cell : LibCell) (links : Links) → kind < length cells → cell ≡ get_or cells kind cell → cell.refused ≡ true
    → step.Fault fault.UnsupportedCell ≡ cell_step kind (slice_get cells kind) links
step_refused cells kind cell links within is refused =
    ap (fault_step kind) (sym (cond-true cell.refused _ _ refused))
    ∙ ap (λ (o : Option LibCell). cell_step kind o links) (sym (slice_get_read cells (length cells) kind cell refl within is))

fits_of : (kind : ℕ) (fits : Bool) → fits_step kind fits ≡ fault_step kind (cond fits None (Some fault.WidthMismatch))
fits_of kind true = refl
fits_of kind false = refl

pub step_fitting : (cells : List LibCell) (kind : ℕ) (cell : LibCell) (links : Links) (fits : Bool) → kind < length cells → cell ≡ get_or cells kind cell → cell.refused ≡ false
    → fits ≡ links_fit (pins_of cell) links → fits_step kind fits ≡ cell_step kind (slice_get cells kind) links
step_fitting cells kind cell links fits within is supported same =
    fits_of kind fits
    ∙ (ap (λ (b : Bool). fault_step kind (cond b None (Some fault.WidthMismatch))) same
    ∙ (ap (fault_step kind) (sym (cond-false cell.refused _ _ supported))
    ∙ ap (λ (o : Option LibCell). cell_step kind o links) (sym (slice_get_read cells (length cells) kind cell refl within is))))
