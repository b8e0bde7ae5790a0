-- The modules so far are added.
use Rattle.std.proofs.Common.{take}
use Rattle.std.specs.List.{flat_map}
use Rattle.flat_model.specs.FlatNets.{scope_drivers}
use Rattle.flat_design.specs.Drivers.{Adds}
use Rattle.flat_design.specs.Hierarchy.{scopes_in}
use Rattle.flat_design.proofs.drivers.all_drivers.add_instances.Given as goal

abbrev pub invariant-loop-place : goal.invariant-loop-place
invariant-loop-place l = Adds l.design (flat_map scope_drivers (take l.place (scopes_in l.design))) l.initial.rows l.rows
