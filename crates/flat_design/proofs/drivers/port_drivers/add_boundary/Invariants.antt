-- The ports so far are added.
use Rattle.std.proofs.Common.{◌≡◌, Some, slice_get, take}
use Rattle.std.specs.List.{flat_map, zip}
use Rattle.flat_model.specs.Connections.{connected, names_of, ports_of}
use Rattle.flat_model.specs.FlatNets.{port_drivers}
use Rattle.flat_model.specs.Instances.{Placed, ModuleInstance}
use Rattle.flat_design.specs.Drivers.{Adds}
use Rattle.flat_design.specs.Hierarchy.{scopes_in}
use Rattle.flat_design.specs.Elaboration.{IsPlaced}
use Rattle.flat_design.proofs.drivers.port_drivers.add_boundary.Given as goal

abbrev pub invariant-loop-place : goal.invariant-loop-place
invariant-loop-place l = (inner : ModuleInstance) (placed : Placed) → slice_get (scopes_in l.design) l.inside ≡ Some inner → IsPlaced (scopes_in l.design) placed l.at
    → Adds l.design (flat_map (port_drivers inner.path placed.scope.path) (take l.place (zip inner.body.ports (connected (names_of (ports_of inner.body)) placed.instance.links))))
    l.initial.rows l.rows
