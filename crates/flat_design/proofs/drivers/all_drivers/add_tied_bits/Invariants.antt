-- The bits so far are added.
use Rattle.std.proofs.Common.{◌≡◌, Some, map, slice_get, take}
use Rattle.flat_model.specs.Instances.{ModuleInstance}
use Rattle.netlist_model.specs.Ranges.{indices}
use Rattle.flat_design.specs.Drivers.{Adds, tied_bit}
use Rattle.flat_design.specs.Hierarchy.{scopes_in}
use Rattle.flat_design.proofs.drivers.all_drivers.add_tied_bits.Given as goal

abbrev pub invariant-loop-place : goal.invariant-loop-place
invariant-loop-place l = (found : ModuleInstance) → slice_get (scopes_in l.design) l.scope ≡ Some found
    → Adds l.design (map (tied_bit found.path l.wire l.value) (take l.place (indices l.wire.range))) l.initial.rows l.rows
