-- Cells and their pins (Liberty, `cell`), given the names that their functions are read with in place of the cell. This
-- project's own.
use Rattle.std.specs.Prelude.{ℕ, Bool, true, List, []}
use Rattle.std.specs.List.{list_any}
use Rattle.pin_types.specs.declared.library_cells.LibCell.{LibCell}
use Rattle.pin_types.specs.declared.library_cells.LibPin.{LibPin}
use Rattle.library_model.specs.LibertyCells.{NamedPin, direction_of, function_text}
use Rattle.library_model.specs.LibertyStatements.{Member}
use Rattle.lib_cells.specs.FunctionNames.{function_value, is_wide_text}

-- a pin of a cell
abbrev pub pin_value : List (List ℕ) → List ℕ → NamedPin → LibPin
pin_value names places pin = record {
  name = pin.name;
  direction = direction_of pin;
  function = function_value names places (function_text pin.group);
}

-- a `pin` group has a function of too many inputs
abbrev pub has_wide : List (List ℕ) → List Member → Bool
has_wide names pin_groups = list_any (λ (group : Member). is_wide_text names (function_text group)) pin_groups

-- a refused cell keeps its name alone
abbrev pub refused : List ℕ → LibCell
refused name = record { name = name; pins = []; arcs = []; checks = []; refused = true }
