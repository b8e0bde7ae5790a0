-- What the instances of modules are to the walk: cells, modules by their places, or faults. This project's own words.
-- It reads: a name of a module is that module, with whether the connections fit; any other has the fault of its cell.
use Rattle.std.specs.Prelude.{ℕ, Bool, false, List, map, unwrap_or, Option, Some, None, if◌then◌else◌}
use Rattle.source_types.specs.declared.fault_kinds.DesignKind.{DesignKind}
use Rattle.source_types.specs.declared.fault_kinds.DesignKind.TheVariants as fault
use Rattle.source_types.specs.declared.libraries.Library.{Library}
use Rattle.pin_types.specs.declared.library_cells.LibCell.{LibCell}
use Rattle.source_types.specs.declared.netlists.Instance.{Instance}
use Rattle.source_types.specs.declared.netlists.Links.{Links}
use Rattle.source_types.specs.declared.netlists.Module.{Module}
use Rattle.flat_model.specs.Connections.{cell_fault, links_fit, ports_of}
use Rattle.flat_model.specs.Instances.{cell_named, module_named}
use Rattle.flat_design.specs.declared.elaborate.walk.Step.{Step}
use Rattle.flat_design.specs.declared.elaborate.walk.Step.TheVariants as step
use Rattle.flat_design.specs.Names.{place_of}

abbrev pub module_names : List Module → List (List ℕ)
module_names modules = map (λ (m : Module). m.name) modules

-- ---- one instance

-- an instance of the library cell at a place, with the fault that it has
abbrev pub fault_step : ℕ → Option DesignKind → Step
fault_step kind None = step.Cell kind
fault_step kind (Some found) = step.Fault found

abbrev pub cell_step : ℕ → Option LibCell → Links → Step
cell_step kind None all = step.Fault fault.UnknownModule
cell_step kind (Some cell) all = fault_step kind (cell_fault cell all)

abbrev pub cell_names : Library → List (List ℕ)
cell_names library = map (λ (cell : LibCell). cell.name) library.cells

-- the place of the library cell of a name, where there is one
abbrev pub cell_place : Library → List ℕ → ℕ
cell_place library name = unwrap_or (place_of (cell_names library) name) 0

-- the step of a library cell whose connections fit or not
abbrev pub fits_step : ℕ → Bool → Step
fits_step kind fits = if fits then step.Cell kind else step.Fault fault.WidthMismatch

-- the step of what is no module
abbrev pub step_of_cell : Library → Instance → Step
step_of_cell library instance = cell_step (cell_place library instance.kind) (cell_named library instance.kind) instance.links

abbrev pub fits_module : Option Module → Links → Bool
fits_module None all = false
fits_module (Some m) all = links_fit (ports_of m) all

-- by the place of the module of that name, where there is one
abbrev pub named_step : List Module → Library → Instance → Option ℕ → Step
named_step modules library instance None = step_of_cell library instance
named_step modules library instance (Some place) = step.Enter place (fits_module (module_named modules instance.kind) instance.links)

abbrev pub step_of : List Module → Library → Instance → Step
step_of modules library instance = named_step modules library instance (place_of (module_names modules) instance.kind)

-- ---- all instances

abbrev pub steps_in : List Module → Library → Module → List Step
steps_in modules library m = map (step_of modules library) m.instances

abbrev pub all_steps : List Module → Library → List (List Step)
all_steps modules library = map (steps_in modules library) modules
