-- The pins of a design without their names, and what drives them. This project's own words.
-- It reads: a list has, for each net by its number, what is found by following its sources; a row of a pin has all that
-- a design says of the pin but its name.
use Rattle.std.specs.Prelude.{◌≡◌, ℕ, Bool, true, false, List, length, slice_get, Option, Some, None}
use Rattle.timing_types.specs.declared.designs.Source.{Source}
use Rattle.timing_types.specs.declared.designs.Source.TheVariants as source
use Rattle.flat_model.specs.FlatDesign.{FlatPin, IsDriverOf, IsSourceOf, pin_places}
use Rattle.flat_model.specs.FlatNets.{NetBit, Origin}
use Rattle.flat_design.specs.declared.elaborate.hierarchy.Hierarchy.{Hierarchy}
use Rattle.flat_design.specs.declared.assemble.pin_rows.PinRow.{PinRow}
use Rattle.flat_design.specs.AddedRows.{AddsRows}
use Rattle.flat_design.specs.Hierarchy.{scopes_in}
use Rattle.flat_design.specs.NamedFaults.{flat_of}
use Rattle.flat_design.specs.NetNumbers.{IsNumber}

-- ---- drivers

-- the sources of nets by their numbers
pub record AreEnds (design : Hierarchy) (ends : List Source) : Type 0 where
  pub count : length ends ≡ design.elaboration.nets
  pub each : (number : ℕ) (bit : NetBit) (end : Source) → IsNumber (scopes_in design) number bit → slice_get ends number ≡ Some end
      → IsSourceOf (pin_places (flat_of design)) (flat_of design).drivers bit end

-- a load is driven by this
pub record IsDriven (design : Hierarchy) (load : Option Origin) (driver : Source) : Type 0 where
  pub is : IsDriverOf (flat_of design) load driver

-- what a constant drives
abbrev pub constant_driver : Option Bool → Source
constant_driver None = source.Nothing
constant_driver (Some false) = source.Zero
constant_driver (Some true) = source.One

-- ---- rows

pub record IsPinRow (design : Hierarchy) (pin : FlatPin) (row : PinRow) : Type 0 where
  pub role : row.role ≡ pin.role
  pub cell : row.cell ≡ pin.cell
  pub lib_pin : row.lib_pin ≡ pin.lib_pin
  pub driver : IsDriven design pin.load row.driver

-- rows of these pins are added
abbrev pub AddsPins : Hierarchy → List FlatPin → List PinRow → List PinRow → Type 0
AddsPins design pins old new = AddsRows (IsPinRow design) pins old new
