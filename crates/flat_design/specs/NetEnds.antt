-- The sources of all nets of a design, or the first fault of a net. This project's own words.
-- It reads: a net has a fault by its sources where it has two, or where following them can come back to it; where no
-- net has one, following them from each net finds a source or none.
use Rattle.std.specs.Prelude.{◌≡◌, ◌<◌, ◌⊎◌, ℕ, Bool, true, false, List, length, Option, Some, None, Result, Ok, Err}
use Rattle.std.specs.List.{AllZip}
use Rattle.sdc_base.specs.declared.memory.At.{At}
use Rattle.sdc_base.specs.declared.memory.Stop.{Stop}
use Rattle.sdc_base.specs.declared.memory.Stop.TheVariants as stop
use Rattle.timing_types.specs.declared.designs.Source.{Source}
use Rattle.source_types.specs.declared.fault_kinds.DesignKind.{DesignKind}
use Rattle.flat_model.specs.Flattening.{FirstOfNets, NoneOfNets}
use Rattle.flat_design.specs.declared.drivers.driver_edges.DriverEdge.{DriverEdge}
use Rattle.flat_design.specs.declared.elaborate.hierarchy.Hierarchy.{Hierarchy}
use Rattle.flat_design.specs.declared.drivers.source_table.SourceTable.{SourceTable}
use Rattle.flat_design.specs.Ends.{HaveEnds}
use Rattle.flat_design.specs.Drivers.{IsDriverEdge}
use Rattle.flat_design.specs.NamedFaults.{flat_of}
use Rattle.flat_design.specs.PinRows as pins
use Rattle.flat_design.specs.Sources.{Returns, has_two}
use Rattle.flat_design.specs.SourceTable.{IsLinked}

-- a table of all that drives the nets of a design
pub record IsTableOf (design : Hierarchy) (table : SourceTable) : Type 0 where
  pub rows : AllZip (IsDriverEdge design) (flat_of design).drivers table.rows.now
  pub nets : length table.last ≡ design.elaboration.nets
  pub linked : IsLinked table

-- whether one of so many nets has two sources
abbrev pub TellsTwo : List DriverEdge → ℕ → Bool → Type 0
TellsTwo rows nets true = (net : ℕ) × (net < nets) × (has_two rows net ≡ true)
TellsTwo rows nets false = (net : ℕ) → net < nets → has_two rows net ≡ false

-- one of so many nets has two sources, or following them can come back to it
abbrev pub IsFaulty : List DriverEdge → ℕ → Type 0
IsFaulty rows nets = (net : ℕ) × (net < nets) × ((has_two rows net ≡ true) ⊎ Returns rows net)

-- each net has its end, or one of them has a fault by its sources
abbrev pub AreFound : List DriverEdge → ℕ → Option (List Source) → Type 0
AreFound rows nets None = IsFaulty rows nets
AreFound rows nets (Some ends) = HaveEnds rows nets ends

-- no net has a fault, and these are the sources of all nets; or the first fault of a net
abbrev pub HasNetEnds : Hierarchy → Result (List Source) (At DesignKind) → Type 0
HasNetEnds design (Ok ends) = NoneOfNets (flat_of design) × pins.AreEnds design ends
HasNetEnds design (Err first) = FirstOfNets (flat_of design) first

-- a call stops with a first fault, or memory ran out
abbrev pub Refuses : {E : Type 0} → Stop E → (E → Type 0) → Type 0
Refuses (stop.Refused first) IsFirst = IsFirst first
Refuses stop.NoMemory IsFirst = Unit {0}
