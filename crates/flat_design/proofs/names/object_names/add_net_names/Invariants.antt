-- The names of the nets so far are added.
use Rattle.std.proofs.Common.{◌≡◌, ◌++◌, take}
use Rattle.std.specs.List.{flat_map}
use Rattle.flat_design.specs.Hierarchy.{wire_names}
use Rattle.flat_design.proofs.names.object_names.add_net_names.Given as goal

abbrev pub invariant-loop-net : goal.invariant-loop-net
invariant-loop-net l = l.names ≡ l.initial.names ++ flat_map (wire_names l.prefix) (take l.net-index l.nets)
