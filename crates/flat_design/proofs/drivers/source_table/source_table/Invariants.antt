-- The last rows of nets among those so far.
use Rattle.std.proofs.Common.{◌≡◌, ℕ, length, slice_get, Some}
use Rattle.flat_design.specs.declared.drivers.driver_edges.DriverEdge.{DriverEdge}
use Rattle.flat_design.specs.SourceTable.{IsLast}
use Rattle.flat_design.proofs.drivers.source_table.source_table.Given as goal

abbrev pub invariant-loop-place : goal.invariant-loop-place
invariant-loop-place l = record {
  size : length l.last.items ≡ l.nets;
  count : length l.earlier.items ≡ l.place;
  lasts : (net at : ℕ) → slice_get l.last.items net ≡ Some at → IsLast l.rows net l.place at;
  before : (place at : ℕ) (row : DriverEdge) → slice_get l.rows place ≡ Some row → slice_get l.earlier.items place ≡ Some at → IsLast l.rows row.to place at;
}
