-- Well-formed designs: what flattening gives, and every call over a design takes. This project's own form of a netlist
-- (IEEE 1364-2005) over a library (Liberty).
-- It reads sentence by sentence: places are in range, the pins of a cell stand as its library cell has them, drivers
-- drive, and names can be printed, are read again as they are, and are each the name of one pin, of one cell and of one
-- net at most.
use Rattle.std.specs.Prelude.{◌≡◌, ◌+◌, ◌<◌, ◌≤◌, ◌⊎◌, ℕ, true, not, ◌++◌, length, map, codes, Option, Some, None, slice_get, nat_lt}
use Rattle.std.specs.List.{All}
use Rattle.sdc_base.specs.Time.{IsUnit}
use Rattle.timing_types.specs.declared.designs.CellInfo.{CellInfo}
use Rattle.timing_types.specs.declared.designs.Design.{Design}
use Rattle.timing_types.specs.declared.designs.NetInfo.{NetInfo}
use Rattle.timing_types.specs.declared.designs.PinInfo.{PinInfo}
use Rattle.timing_types.specs.declared.designs.Role.{Role}
use Rattle.timing_types.specs.declared.designs.Role.TheVariants.{InPort, OutPort, CellIn, CellOut, CellOther}
use Rattle.timing_types.specs.declared.designs.Source.{Source}
use Rattle.pin_types.specs.declared.library_cells.Direction.{Direction}
use Rattle.pin_types.specs.declared.library_cells.LibCell.{LibCell}
use Rattle.pin_types.specs.declared.library_cells.LibPin.{LibPin}
use Rattle.design_model.specs.DesignPins.{IsInputPort, cell_pin, kind_of, role_of}
use Rattle.text_model.specs.Names.{AreGoodNames}
use Rattle.design_model.specs.UsableLibrary.{IsUsable}
use Rattle.timing_types.specs.declared.designs.Source.TheVariants as source
use Rattle.pin_types.specs.declared.library_cells.Direction.TheVariants as direction

-- ---- pins, cells and nets

abbrev pub role_in_cell : Direction → Role
role_in_cell direction.Input = CellIn
role_in_cell direction.Output = CellOut
role_in_cell direction.Other = CellOther

-- a driver that is a pin is a cell output or an input port of the design
abbrev pub IsDriver : Design → Source → Type 0
IsDriver design (source.Pin pin) = (role_of design pin.0 ≡ Some CellOut) ⊎ IsInputPort design pin.0
IsDriver design _ = Unit {0}

-- a pin is the pin of a library cell's place in the cell at a place; its name is the cell's, `/`, and its own there,
-- which is not empty
pub record IsCellPin (place : ℕ) (cell : CellInfo) (lib_pin : LibPin) (at : ℕ) (info : PinInfo) : Type 0 where
  pub in_cell : info.cell ≡ Some place
  pub at_place : info.lib_pin ≡ at
  pub role : info.role ≡ role_in_cell lib_pin.direction
  pub named : nat_lt 0 (length lib_pin.name) ≡ true
  pub name : info.name ≡ cell.name ++ (codes "/" ++ lib_pin.name)

-- the pins of a cell stand one after the other, as its library cell has them
pub record IsWellFormedCell (design : Design) (place : ℕ) (cell : CellInfo) : Type 0 where
  pub kind : LibCell
  pub is_kind : kind_of design cell ≡ Some kind
  pub usable : IsUsable kind
  pub count : cell.count ≡ length kind.pins
  pub pins : (at : ℕ) (lib_pin : LibPin) → slice_get kind.pins at ≡ Some lib_pin
      → (info : PinInfo) × (slice_get design.pins (cell_pin cell at) ≡ Some info) × IsCellPin place cell lib_pin at info

-- a port is in no cell, and each other pin is one of its cell's
abbrev pub IsInCell : Design → ℕ → Role → Option ℕ → Type 0
IsInCell design pin InPort cell = cell ≡ None
IsInCell design pin OutPort cell = cell ≡ None
IsInCell design pin role None = ⊥
IsInCell design pin role (Some place) =
    (cell : CellInfo) × (slice_get design.cells place ≡ Some cell) × (cell.first.0 ≤ pin) × (pin < cell.first.0 + cell.count)

-- a well-formed design
pub record IsWellFormedDesign (design : Design) : Type 0 where
  pub unit : IsUnit design.unit
  pub cells : (place : ℕ) (cell : CellInfo) → slice_get design.cells place ≡ Some cell → IsWellFormedCell design place cell
  pub pins : (pin : ℕ) (info : PinInfo) → slice_get design.pins pin ≡ Some info → IsInCell design pin info.role info.cell
  pub drivers : All (λ (info : PinInfo). IsDriver design info.driver) design.pins
  pub sources : All (λ (info : NetInfo). IsDriver design info.source) design.nets
  pub pin_names : AreGoodNames (map (λ (info : PinInfo). info.name) design.pins)
  pub cell_names : AreGoodNames (map (λ (info : CellInfo). info.name) design.cells)
  pub net_names : AreGoodNames (map (λ (info : NetInfo). info.name) design.nets)
