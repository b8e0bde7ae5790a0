-- The assignments so far are added.
use Rattle.std.proofs.Common.{◌≡◌, Some, slice_get, take}
use Rattle.std.specs.List.{flat_map}
use Rattle.flat_model.specs.FlatNets.{assign_drivers}
use Rattle.flat_model.specs.Instances.{ModuleInstance}
use Rattle.flat_design.specs.Drivers.{Adds}
use Rattle.flat_design.specs.Hierarchy.{scopes_in}
use Rattle.flat_design.proofs.drivers.all_drivers.add_assigns.Given as goal

abbrev pub invariant-loop-place : goal.invariant-loop-place
invariant-loop-place l = (found : ModuleInstance) → slice_get (scopes_in l.design) l.scope ≡ Some found
    → Adds l.design (flat_map (assign_drivers found.path) (take l.place found.body.assigns)) l.initial.rows l.rows
