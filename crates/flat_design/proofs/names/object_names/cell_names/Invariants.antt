-- The names of the cells so far.
use Rattle.std.proofs.Common.{◌≡◌, map, take}
use Rattle.flat_design.specs.Hierarchy.{cell_name, cells_in}
use Rattle.flat_design.proofs.names.object_names.cell_names.Given as goal

abbrev pub invariant-loop-place : goal.invariant-loop-place
invariant-loop-place l = l.names ≡ map cell_name (take l.place (cells_in l.design))
