-- What is known of a cell before its functions and arcs are read (Liberty, `cell`): the definitions' values of it. This
-- project's own.
use Rattle.std.specs.Prelude.{◌≡◌, ◌++◌, ◌+◌, ◌≤◌, ℕ, List, length, map, true, false, Option, Some, None}
use Rattle.library_model.specs.LibertyCells.{NamedPin, input_places, is_left_out, pins, state_variables}
use Rattle.library_model.specs.LibertyStatements.{Member}
use Rattle.lib_cells.specs.FunctionNames.{names_of}
use Rattle.bool_lanes.specs.NamedNumbers.{HasPlaces}
use Rattle.lib_cells.specs.declared.cell.cell_names.CellNames.{CellNames}

-- what is known is that of these pins and state variables
pub record HasNames (known : CellNames) (ps : List NamedPin) (states : List (List ℕ)) : Type 0 where
  pub pins : known.pins.items ≡ ps
  pub places : HasPlaces known.places (map (λ (pin : NamedPin). pin.name) ps ++ states)
  pub function_names : known.function_names ≡ names_of ps states
  pub input_places : known.input_places.items ≡ input_places 0 ps
  pub few : length ps + length states ≤ 60000

-- what is known is that of a cell
abbrev pub Describes : CellNames → Member → Type 0
Describes known cell = HasNames known (pins cell) (state_variables cell)

-- nothing is known exactly where the cell is left out
abbrev pub KnownIf : Option CellNames → Member → Type 0
KnownIf None cell = is_left_out cell ≡ true
KnownIf (Some known) cell = (is_left_out cell ≡ false) × Describes known cell
