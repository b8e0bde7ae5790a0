-- Which library cells a design may use, and which libraries flattening takes. This project's own form of Liberty.
-- It reads: a cell that is not refused has not too many pins, arcs and checks of its own pins, and functions of at most
-- ten of its own inputs.
use Rattle.std.specs.Prelude.{◌≡◌, ◌<◌, ◌≤◌, ◌==◌, ℕ, false, not, List, [], ◌∷◌, length, map, Option, Some, None, slice_get, if◌then◌else◌}
use Rattle.std.specs.List.{All, list_any}
use Rattle.sdc_base.specs.Time.{IsUnit}
use Rattle.pin_types.specs.declared.functions.Expr.{Expr}
use Rattle.pin_types.specs.declared.library_cells.LibArc.{LibArc}
use Rattle.pin_types.specs.declared.library_cells.LibCell.{LibCell}
use Rattle.pin_types.specs.declared.library_cells.LibCheck.{LibCheck}
use Rattle.pin_types.specs.declared.library_cells.LibPin.{LibPin}
use Rattle.function_model.specs.FunctionMeaning.{pins_of}
use Rattle.text_model.specs.Names.{AreDistinct}
use Rattle.source_types.specs.declared.libraries.Library.{Library}
use Rattle.pin_types.specs.declared.library_cells.Direction.TheVariants as direction

abbrev pub IsInputOf : List LibPin → ℕ → Type 0
IsInputOf pins place = (pin : LibPin) × (slice_get pins place ≡ Some pin) × (pin.direction ≡ direction.Input)

-- numbers, each once
abbrev pub distinct : List ℕ → List ℕ
distinct [] = []
distinct (n ∷ ns) = if list_any (λ m. m == n) ns then distinct ns else n ∷ distinct ns

-- a function names input pins alone, and at most ten different ones
abbrev pub IsFunctionOf : List LibPin → Option Expr → Type 0
IsFunctionOf pins None = Unit {0}
IsFunctionOf pins (Some expr) = All (IsInputOf pins) (pins_of expr) × (length (distinct (pins_of expr)) ≤ 10)

-- a library cell that a design may use: not refused, not too wide, its arcs, checks and functions of its own pins
pub record IsUsable (kind : LibCell) : Type 0 where
  pub supported : kind.refused ≡ false
  pub few : length kind.pins ≤ 60000
  pub arcs : All (λ (arc : LibArc). (arc.from < length kind.pins) × (arc.to < length kind.pins)) kind.arcs
  pub checks : All (λ (check : LibCheck). (check.pin < length kind.pins) × (check.clock < length kind.pins)) kind.checks
  pub functions : All (λ (pin : LibPin). IsFunctionOf kind.pins pin.function) kind.pins

-- a library: its unit is one of the four, no two cells have one name, and what is not refused can be used
pub record IsWellFormedLibrary (library : Library) : Type 0 where
  pub unit : IsUnit library.unit
  pub names : AreDistinct (map (λ (cell : LibCell). cell.name) library.cells)
  pub usable : All (λ (cell : LibCell). cell.refused ≡ false → IsUsable cell) library.cells
