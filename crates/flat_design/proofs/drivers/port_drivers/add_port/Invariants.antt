-- The pairs of bits so far are added.
use Rattle.std.proofs.Common.{◌≡◌, Some, slice_get, take}
use Rattle.std.specs.List.{filter_map, zip}
use Rattle.flat_model.specs.FlatNets.{port_bits}
use Rattle.flat_model.specs.Instances.{ModuleInstance}
use Rattle.flat_design.specs.Drivers.{Adds}
use Rattle.flat_design.specs.Hierarchy.{scopes_in}
use Rattle.flat_design.proofs.PortFacts.{pair_across}
use Rattle.flat_design.proofs.drivers.port_drivers.add_port.Given as goal

abbrev pub invariant-loop-place : goal.invariant-loop-place
invariant-loop-place l = (inner outer : ModuleInstance) → slice_get (scopes_in l.design) l.inside ≡ Some inner → slice_get (scopes_in l.design) l.outside ≡ Some outer
    → Adds l.design (filter_map (pair_across l.port inner.path outer.path) (take l.place (zip (port_bits l.port) l.connection))) l.initial.rows l.rows
