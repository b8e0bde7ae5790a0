-- The instances of a design: what stands in the top module, in the modules that it instantiates, and so on (IEEE
-- 1364-2005, hierarchy). That a netlist module hides a library cell of its name is this project's own rule.
-- It reads: a name is a module, a library cell or unknown; an instance comes before those in it, and they before the
-- next one; a module is not entered where it stands in itself.
use Rattle.std.specs.Prelude.{◌++◌, ℕ, zero, suc, Bool, List, [], ◌∷◌, length, map, codes, Option, Some, None, if◌then◌else◌}
use Rattle.std.specs.List.{enumerate_from, filter_map, find, flat_map, list_any}
use Rattle.source_types.specs.declared.libraries.Library.{Library}
use Rattle.pin_types.specs.declared.library_cells.LibCell.{LibCell}
use Rattle.source_types.specs.declared.netlists.Instance.{Instance}
use Rattle.source_types.specs.declared.netlists.Module.{Module}
use Rattle.text_model.specs.Words.{same_text}

-- ---- what a name is

pub data Meant : Type 0 where
  a_module : Module → Meant
  a_cell : LibCell → Meant
  unknown : Meant

abbrev pub module_named : List Module → List ℕ → Option Module
module_named modules name = find (λ (m : Module). same_text m.name name) modules

abbrev pub cell_named : Library → List ℕ → Option LibCell
cell_named library name = find (λ (cell : LibCell). same_text cell.name name) library.cells

-- a module, or else a library cell, or else nothing
abbrev pub cell_meant : Option LibCell → Meant
cell_meant (Some cell) = a_cell cell
cell_meant None = unknown

abbrev pub meant : List Module → Library → List ℕ → Meant
meant modules library name =
    elim (module_named modules name) [ Some m ↦ a_module m | None ↦ cell_meant (cell_named library name) ]

-- ---- module instances, and instances in them

-- a module instance, the scope of the names in it: the places of the instances around it, the innermost first; what
-- stands in front of the names of its objects; the names of the modules around it, its own first; and the instance that
-- it stands for
pub record ModuleInstance : Type 0 where
  pub path : List ℕ
  pub prefix : List ℕ
  pub around : List (List ℕ)
  pub body : Module
  pub opened_by : Option Instance

-- an instance where it stands, by its place in the module
pub record Placed : Type 0 where
  pub scope : ModuleInstance
  pub place : ℕ
  pub instance : Instance

abbrev pub top_scope : Module → ModuleInstance
top_scope top = record { path = []; prefix = []; around = top.name ∷ []; body = top; opened_by = None }

abbrev pub placed_in : ModuleInstance → List Placed
placed_in scope =
    map (λ (item : ℕ × Instance). record { scope = scope; place = item.0; instance = item.1 })
    (enumerate_from 0 scope.body.instances)

-- the places of an instance and of those around it, the innermost first
abbrev pub path_of : Placed → List ℕ
path_of placed = placed.place ∷ placed.scope.path

-- the level of an instance; one in the top module stands on level 1
abbrev pub level : Placed → ℕ
level placed = length (path_of placed)

-- the name of an instance in the design
abbrev pub full_name : Placed → List ℕ
full_name placed = placed.scope.prefix ++ placed.instance.name

-- a module would stand in itself
abbrev pub stands_in : Module → ModuleInstance → Bool
stands_in m scope = list_any (same_text m.name) scope.around

abbrev pub scope_for : Placed → Module → ModuleInstance
scope_for placed m = record {
  path = path_of placed;
  prefix = full_name placed ++ codes "/";
  around = m.name ∷ placed.scope.around;
  body = m;
  opened_by = Some placed.instance;
}

-- the module that an instance opens, where it is one and does not stand in itself
abbrev pub entered : List Module → Placed → Option ModuleInstance
entered modules placed =
    elim (module_named modules placed.instance.kind) [
      | None ↦ None
      | Some m ↦ if stands_in m placed.scope then None else Some (scope_for placed m)
    ]

-- ---- all of them

-- the instances in a module and in those that it opens, for as many levels as said
abbrev pub below : List Module → ℕ → ModuleInstance → List Placed
below modules zero scope = []
below modules (suc levels) scope =
    flat_map (λ (placed : Placed). placed ∷ elim (entered modules placed) [ None ↦ [] | Some inner ↦ below modules levels inner ])
    (placed_in scope)

-- all instances of a design; modules that do not stand in themselves are nested no deeper than there are modules
abbrev pub instances_of : List Module → Module → List Placed
instances_of modules top = below modules (length modules) (top_scope top)

-- all module instances, the top first
abbrev pub scopes_of : List Module → Module → List ModuleInstance
scopes_of modules top = top_scope top ∷ filter_map (entered modules) (instances_of modules top)

-- ---- cells

-- an instance of a library cell
pub record PlacedCell : Type 0 where
  pub placed : Placed
  pub kind : LibCell

abbrev pub cell_at : List Module → Library → Placed → Option PlacedCell
cell_at modules library placed =
    elim (meant modules library placed.instance.kind) [
      | a_module m ↦ None
      | a_cell kind ↦ Some (record { placed = placed; kind = kind })
      | unknown ↦ None
    ]

abbrev pub cells_of : List Module → Library → Module → List PlacedCell
cells_of modules library top = filter_map (cell_at modules library) (instances_of modules top)
