-- The pins so far are added.
use Rattle.std.proofs.Common.{◌≡◌, Some, map, slice_get, take}
use Rattle.flat_model.specs.FlatDesign.{cell_pin}
use Rattle.flat_model.specs.FlatNets.{connected_pins}
use Rattle.flat_model.specs.Instances.{PlacedCell}
use Rattle.flat_design.specs.Hierarchy.{cells_in}
use Rattle.flat_design.specs.PinRows.{AddsPins}
use Rattle.flat_design.proofs.assemble.cell_pins.add_cell_pins.Given as goal

abbrev pub invariant-loop-place : goal.invariant-loop-place
invariant-loop-place l = (found : PlacedCell) → slice_get (cells_in l.design) l.cell ≡ Some found
    → AddsPins l.design (map (cell_pin l.cell found) (take l.place (connected_pins found))) l.initial.rows l.rows
