-- The pins so far are added.
use Rattle.std.proofs.Common.{◌≡◌, Some, slice_get, take}
use Rattle.std.specs.List.{flat_map}
use Rattle.flat_model.specs.FlatNets.{connected_pins, output_drivers}
use Rattle.flat_model.specs.Instances.{PlacedCell}
use Rattle.flat_design.specs.Drivers.{Adds}
use Rattle.flat_design.specs.Hierarchy.{cells_in}
use Rattle.flat_design.proofs.drivers.cell_drivers.add_cell.Given as goal

abbrev pub invariant-loop-place : goal.invariant-loop-place
invariant-loop-place l = (found : PlacedCell) → slice_get (cells_in l.design) l.cell ≡ Some found
    → Adds l.design (flat_map (output_drivers found) (take l.place (connected_pins found))) l.initial.rows l.rows
