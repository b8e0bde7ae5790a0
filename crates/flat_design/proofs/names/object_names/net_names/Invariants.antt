-- The names of the nets of the modules so far.
use Rattle.std.proofs.Common.{◌≡◌, map, take}
use Rattle.std.specs.List.{flat_map}
use Rattle.flat_model.specs.FlatNets.{net_name, nets_in}
use Rattle.flat_design.specs.Hierarchy.{scopes_in}
use Rattle.flat_design.proofs.names.object_names.net_names.Given as goal

abbrev pub invariant-loop-place : goal.invariant-loop-place
invariant-loop-place l = l.names ≡ map net_name (flat_map nets_in (take l.place (scopes_in l.design)))
