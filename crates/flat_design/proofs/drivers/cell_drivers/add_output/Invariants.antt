-- The bits so far are added.
use Rattle.std.proofs.Common.{◌≡◌, Some, slice_get, take}
use Rattle.std.specs.List.{filter_map}
use Rattle.flat_model.specs.Instances.{PlacedCell}
use Rattle.flat_design.specs.Drivers.{Adds, pin_drive}
use Rattle.flat_design.specs.Hierarchy.{cells_in}
use Rattle.flat_design.proofs.drivers.cell_drivers.add_output.Given as goal

abbrev pub invariant-loop-place : goal.invariant-loop-place
invariant-loop-place l = (found : PlacedCell) → slice_get (cells_in l.design) l.cell ≡ Some found
    → Adds l.design (filter_map (pin_drive found l.at) (take l.place l.connection)) l.initial.rows l.rows
