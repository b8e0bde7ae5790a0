-- The cells so far are added.
use Rattle.std.proofs.Common.{take}
use Rattle.std.specs.List.{flat_map}
use Rattle.flat_model.specs.FlatNets.{cell_drivers}
use Rattle.flat_design.specs.Drivers.{Adds}
use Rattle.flat_design.specs.Hierarchy.{cells_in}
use Rattle.flat_design.proofs.drivers.all_drivers.add_cells.Given as goal

abbrev pub invariant-loop-place : goal.invariant-loop-place
invariant-loop-place l = Adds l.design (flat_map cell_drivers (take l.place (cells_in l.design))) l.initial.rows l.rows
