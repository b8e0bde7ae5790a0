-- The table of what drives each net. This project's own words.
-- It reads: the table has of each net its last row, and of each row the one before it of the same net, counted from 1,
-- so that 0 is none.
use Rattle.std.specs.Prelude.{◌≡◌, ◌<◌, ◌≤◌, ℕ, zero, suc, List, length, slice_get, take, Some}
use Rattle.std.specs.List.{All}
use Rattle.flat_design.specs.declared.drivers.driver_edges.DriverEdge.{DriverEdge}
use Rattle.flat_design.specs.declared.drivers.driver_edges.Driver.{Driver}
use Rattle.flat_design.specs.declared.drivers.driver_edges.Driver.TheVariants as driver
use Rattle.flat_design.specs.declared.drivers.source_table.SourceTable.{SourceTable}
use Rattle.flat_design.specs.Sources.{driven_by}

-- ---- rows are of these nets, whatever their pins are

abbrev pub IsNetWithin : ℕ → Driver → Type 0
IsNetWithin nets (driver.Net net) = net < nets
IsNetWithin nets (driver.Value value) = Unit {0}
IsNetWithin nets (driver.Pin pin) = Unit {0}

abbrev pub IsNetRow : ℕ → DriverEdge → Type 0
IsNetRow nets row = (row.to < nets) × IsNetWithin nets row.from

abbrev pub AreNetRows : ℕ → List DriverEdge → Type 0
AreNetRows nets rows = All (IsNetRow nets) rows

-- ---- the last row of a net

-- the row counted so drives a net, where there is one
abbrev pub IsRowOf : List DriverEdge → ℕ → ℕ → Type 0
IsRowOf rows net zero = Unit {0}
IsRowOf rows net (suc place) = (row : DriverEdge) × (slice_get rows place ≡ Some row) × (row.to ≡ net)

-- the last one of the first `count` rows that drives a net
pub record IsLast (rows : List DriverEdge) (net count last : ℕ) : Type 0 where
  pub within : last ≤ count
  pub drivers : IsRowOf rows net last
  pub whole : driven_by (take count rows) net ≡ driven_by (take last rows) net

-- ---- the table

pub record IsLinked (table : SourceTable) : Type 0 where
  pub within : AreNetRows (length table.last) table.rows.now
  pub count : length table.earlier ≡ length table.rows.now
  pub lasts : (net at : ℕ) → slice_get table.last net ≡ Some at → IsLast table.rows.now net (length table.rows.now) at
  pub before : (place at : ℕ) (row : DriverEdge) → slice_get table.rows.now place ≡ Some row → slice_get table.earlier place ≡ Some at
      → IsLast table.rows.now row.to place at

pub record IsSourceTable (rows : List DriverEdge) (nets : ℕ) (table : SourceTable) : Type 0 where
  pub same : table.rows.now ≡ rows
  pub size : length table.last ≡ nets
  pub linked : IsLinked table
