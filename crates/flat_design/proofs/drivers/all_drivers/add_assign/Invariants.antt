-- The pairs of bits so far are added.
use Rattle.std.proofs.Common.{◌≡◌, Some, slice_get, take}
use Rattle.std.specs.List.{filter_map, zip}
use Rattle.flat_model.specs.Instances.{ModuleInstance}
use Rattle.flat_design.specs.Drivers.{Adds}
use Rattle.flat_design.specs.Hierarchy.{scopes_in}
use Rattle.flat_design.proofs.AddedDrivers.{pair_drive}
use Rattle.flat_design.proofs.drivers.all_drivers.add_assign.Given as goal

abbrev pub invariant-loop-place : goal.invariant-loop-place
invariant-loop-place l = (found : ModuleInstance) → slice_get (scopes_in l.design) l.scope ≡ Some found
    → Adds l.design (filter_map (pair_drive found.path) (take l.place (zip l.assign.left l.assign.right))) l.initial.rows l.rows
