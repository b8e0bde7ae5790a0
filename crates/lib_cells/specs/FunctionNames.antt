-- What a cell's functions are read with, and what they mean over the places of pins (Liberty, `function`), given the
-- names and places in place of the cell. This project's own.
use Rattle.std.specs.Prelude.{◌++◌, ℕ, Bool, false, List, [], ◌∷◌, filter, map, Option, Some, None, option_map, Result, Ok, Err}
use Rattle.pin_types.specs.declared.functions.Expr.{Expr}
use Rattle.source_types.specs.declared.kinds.LibKind.{LibKind}
use Rattle.function_model.specs.FunctionMeaning as function
use Rattle.library_model.specs.LibertyCells.{NamedPin, is_named, is_named_input, is_too_wide, other_names, placed}

-- the names that functions are read with, given the pins and the state variables
abbrev pub names_of : List NamedPin → List (List ℕ) → List (List ℕ)
names_of pins states =
    map (λ (pin : NamedPin). pin.name) (filter is_named_input pins) ++ ([] ∷ filter is_named (states ++ other_names pins))

-- an expression over the places of pins, and none of a text that is refused
abbrev pub placed_if : List ℕ → Result (Option Expr) LibKind → Option Expr
placed_if places (Ok e) = option_map (placed places) e
placed_if places (Err kind) = None

abbrev pub function_value : List (List ℕ) → List ℕ → Option (List ℕ) → Option Expr
function_value names places None = None
function_value names places (Some text) = placed_if places (function.meaning names text)

abbrev pub is_wide_text : List (List ℕ) → Option (List ℕ) → Bool
is_wide_text names None = false
is_wide_text names (Some text) = is_too_wide (function.meaning names text)
