-- The tables that flattening has of modules and of library cells. This project's own words.
-- It reads: each table has the places of the names of what it is a table of.
use Rattle.std.specs.Prelude.{◌≡◌, List}
use Rattle.std.specs.List.{AllZip}
use Rattle.source_types.specs.declared.libraries.Library.{Library}
use Rattle.source_types.specs.declared.netlists.Module.{Module}
use Rattle.flat_model.specs.Connections.{Terminal, names_of, pins_of, ports_of}
use Rattle.flat_design.specs.declared.elaborate.steps.Tables.{Tables}
use Rattle.flat_design.specs.declared.elaborate.terminals.Terminals.{Terminals}
use Rattle.flat_design.specs.Fitting.{widths_of}
use Rattle.flat_design.specs.Names.{IsTable}
use Rattle.flat_design.specs.Steps.{cell_names, module_names}

-- the places and the widths of terminals
pub record IsTerminals (all : List Terminal) (found : Terminals) : Type 0 where
  pub places : IsTable found.places (names_of all)
  pub widths : found.widths ≡ widths_of all

-- the tables have these modules and this library, with what stands in them
pub record AreTables (tables : Tables) : Type 0 where
  pub modules : IsTable tables.module_places (module_names tables.modules.now)
  pub cells : IsTable tables.cell_places (cell_names tables.library.now)
  pub ports : AllZip (λ m found. IsTerminals (ports_of m) found) tables.modules.now tables.ports.items
  pub pins : AllZip (λ cell found. IsTerminals (pins_of cell) found) tables.library.now.cells tables.pins.items

abbrev pub HasTables : List Module → Library → Tables → Type 0
HasTables modules library tables = (tables.modules.now ≡ modules) × (tables.library.now ≡ library) × AreTables tables
