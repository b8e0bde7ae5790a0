-- What stands in a design, by places: rows of module instances, and rows of cells. This project's own words.
-- It reads: a row of a module has the place of the module, the instance that it stands for, and the number of its first
-- net; a row of a cell has the instance, the place of the library cell, and the number of its first pin.
use Rattle.std.specs.Prelude.{◌≡◌, ◌<◌, ◌≤◌, ◌+◌, ◌++◌, ◌||◌, ℕ, Bool, List, [], ◌∷◌, length, min, nat_lt, take, slice_get, codes, Option, Some, None}
use Rattle.std.specs.List.{flat_map, sum_by}
use Rattle.source_types.specs.declared.libraries.Library.{Library}
use Rattle.pin_types.specs.declared.library_cells.LibPin.{LibPin}
use Rattle.source_types.specs.declared.netlists.Module.{Module}
use Rattle.source_types.specs.declared.netlists.Port.{Port}
use Rattle.source_types.specs.declared.netlists.Wire.{Wire}
use Rattle.flat_model.specs.FlatDesign.{port_pins}
use Rattle.flat_model.specs.FlatNets.{nets_in}
use Rattle.flat_model.specs.Instances.{Placed, PlacedCell, ModuleInstance, cells_of, full_name, path_of, scopes_of}
use Rattle.netlist_model.specs.Ranges.{width}
use Rattle.flat_design.specs.declared.elaborate.elaboration.CellRow.{CellRow}
use Rattle.flat_design.specs.declared.elaborate.elaboration.Elaboration.{Elaboration}
use Rattle.flat_design.specs.declared.elaborate.elaboration.Outer.{Outer}
use Rattle.flat_design.specs.declared.elaborate.elaboration.ModuleInstanceRow.{ModuleInstanceRow}

-- ---- numbers, as far as a design may have

abbrev pub capped : ℕ → ℕ → ℕ
capped a b = min (a + b) 4000002

abbrev pub net_count : List Wire → ℕ
net_count nets = min (sum_by (λ (net : Wire). width net.range) nets) 4000002

abbrev pub port_count : List Port → ℕ
port_count ports = min (sum_by (λ (port : Port). width port.range) ports) 4000002

-- more than 1,000,000 pins, 4,000,000 nets, or 4,000,000 instances beside the top
abbrev pub is_too_large : Elaboration → Bool
is_too_large elaboration =
    (nat_lt 1000000 elaboration.pins || nat_lt 4000000 elaboration.nets) || nat_lt 4000001 (capped (length elaboration.scopes) (length elaboration.cells))

-- ---- one more row

abbrev pub with_scope : Elaboration → ℕ → Option Outer → ℕ → Elaboration
with_scope elaboration body outer nets = record {
  scopes = elaboration.scopes ++ record { body = body; outer = outer; first_net = elaboration.nets } ∷ [];
  cells = elaboration.cells;
  nets = capped elaboration.nets nets;
  pins = elaboration.pins;
}

abbrev pub with_cell : Elaboration → Outer → ℕ → ℕ → Elaboration
with_cell elaboration at kind pins = record {
  scopes = elaboration.scopes;
  cells = elaboration.cells ++ record { at = at; kind = kind; first_pin = elaboration.pins } ∷ [];
  nets = elaboration.nets;
  pins = capped elaboration.pins pins;
}

-- a top module alone
abbrev pub top_elaboration : ℕ → ℕ → ℕ → Elaboration
top_elaboration top nets pins = record {
  scopes = record { body = top; outer = None; first_net = 0 } ∷ [];
  cells = [];
  nets = capped 0 nets;
  pins = pins;
}

-- ---- what rows say

-- an instance in one of these modules, by places
pub record IsPlaced (scopes : List ModuleInstance) (placed : Placed) (at : Outer) : Type 0 where
  pub scope : slice_get scopes at.scope ≡ Some placed.scope
  pub place : placed.place ≡ at.instance
  pub instance : slice_get placed.scope.body.instances at.instance ≡ Some placed.instance

-- a module that stands for an instance
pub record IsOpenedBy (scopes : List ModuleInstance) (scope : ModuleInstance) (at : Outer) : Type 0 where
  pub placed : Placed
  pub is : IsPlaced scopes placed at
  pub path : scope.path ≡ path_of placed
  pub prefix : scope.prefix ≡ full_name placed ++ codes "/"
  pub opened : scope.opened_by ≡ Some placed.instance

-- the top stands for none
abbrev pub IsOpened : List ModuleInstance → ModuleInstance → Option Outer → Type 0
IsOpened scopes scope None = (scope.path ≡ []) × (scope.prefix ≡ []) × (scope.opened_by ≡ None)
IsOpened scopes scope (Some at) = IsOpenedBy scopes scope at

-- the module around stands before the one at a place
abbrev pub IsEarlier : Option Outer → ℕ → Type 0
IsEarlier None place = Unit {0}
IsEarlier (Some at) place = at.scope < place

-- the number of nets of these modules
abbrev pub nets_of : List ModuleInstance → ℕ
nets_of scopes = length (flat_map nets_in scopes)

abbrev pub kind_pins : PlacedCell → List LibPin
kind_pins cell = cell.kind.pins

-- the number of pins of these cells
abbrev pub pins_in : List PlacedCell → ℕ
pins_in cells = length (flat_map kind_pins cells)

-- the module instance at a place
pub record IsModuleInstance (modules : List Module) (scopes : List ModuleInstance) (place : ℕ) (row : ModuleInstanceRow) : Type 0 where
  pub scope : ModuleInstance
  pub at : slice_get scopes place ≡ Some scope
  pub body : slice_get modules row.body ≡ Some scope.body
  pub opened : IsOpened scopes scope row.outer
  pub earlier : IsEarlier row.outer place
  pub first : row.first_net ≡ nets_of (take place scopes)

abbrev pub AreModuleInstances : List Module → List ModuleInstance → List ModuleInstanceRow → Type 0
AreModuleInstances modules scopes rows = (place : ℕ) (row : ModuleInstanceRow) → slice_get rows place ≡ Some row → IsModuleInstance modules scopes place row

-- the cell at a place, its pins after so many others
pub record IsCell (library : Library) (scopes : List ModuleInstance) (cells : List PlacedCell) (ports place : ℕ) (row : CellRow) : Type 0 where
  pub cell : PlacedCell
  pub at : slice_get cells place ≡ Some cell
  pub is : IsPlaced scopes cell.placed row.at
  pub kind : slice_get library.cells row.kind ≡ Some cell.kind
  pub first : row.first_pin ≡ ports + pins_in (take place cells)

abbrev pub AreCells : Library → List ModuleInstance → List PlacedCell → ℕ → List CellRow → Type 0
AreCells library scopes cells ports rows =
    (place : ℕ) (row : CellRow) → slice_get rows place ≡ Some row → IsCell library scopes cells ports place row

-- the rows are those of a design, each of them
pub record IsElaboration (modules : List Module) (library : Library) (top : Module) (elaboration : Elaboration) : Type 0 where
  pub scope_count : length elaboration.scopes ≡ length (scopes_of modules top)
  pub cell_count : length elaboration.cells ≡ length (cells_of modules library top)
  pub scopes : AreModuleInstances modules (scopes_of modules top) elaboration.scopes
  pub cells : AreCells library (scopes_of modules top) (cells_of modules library top) (length (port_pins top)) elaboration.cells
  pub nets : elaboration.nets ≡ nets_of (scopes_of modules top)
  pub pins : elaboration.pins ≡ length (port_pins top) + pins_in (cells_of modules library top)
  pub few_nets : elaboration.nets ≤ 4000000
  pub few_pins : elaboration.pins ≤ 1000000
