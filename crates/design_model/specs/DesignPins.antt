-- Pins and cells of a design: what a pin is, what drives it, and which pins a cell has (Verilog and Liberty).
-- A pin is known by its place in the design, a pin of a cell by the cell's first pin and its place in the library cell.
use Rattle.std.specs.Prelude.{◌≡◌, ◌+◌, ◌⊎◌, ℕ, Option, Some, slice_get}
use Rattle.std.specs.Option.{option_map}
use Rattle.timing_types.specs.declared.designs.CellInfo.{CellInfo}
use Rattle.timing_types.specs.declared.designs.Design.{Design}
use Rattle.timing_types.specs.declared.designs.Role.{Role}
use Rattle.timing_types.specs.declared.designs.Role.TheVariants.{InPort, OutPort, CellOther}
use Rattle.timing_types.specs.declared.designs.Source.{Source}
use Rattle.pin_types.specs.declared.library_cells.LibCell.{LibCell}

abbrev pub role_of : Design → ℕ → Option Role
role_of design pin = option_map (λ info. info.role) (slice_get design.pins pin)

abbrev pub driver_of : Design → ℕ → Option Source
driver_of design pin = option_map (λ info. info.driver) (slice_get design.pins pin)

abbrev pub IsInputPort : Design → ℕ → Type 0
IsInputPort design pin = role_of design pin ≡ Some InPort

abbrev pub IsOutputPort : Design → ℕ → Type 0
IsOutputPort design pin = role_of design pin ≡ Some OutPort

abbrev pub IsPort : Design → ℕ → Type 0
IsPort design pin = IsInputPort design pin ⊎ IsOutputPort design pin

-- a pin whose direction is neither input nor output
abbrev pub IsOther : Design → ℕ → Type 0
IsOther design pin = role_of design pin ≡ Some CellOther

abbrev pub kind_of : Design → CellInfo → Option LibCell
kind_of design cell = slice_get design.kinds cell.kind

-- a cell stands at a place of a design and is of a kind
pub record IsCell (design : Design) (place : ℕ) (cell : CellInfo) (kind : LibCell) : Type 0 where
  pub is : slice_get design.cells place ≡ Some cell
  pub of_kind : kind_of design cell ≡ Some kind

-- the pin of a cell that is its library cell's pin of a place
abbrev pub cell_pin : CellInfo → ℕ → ℕ
cell_pin cell place = cell.first.0 + place
