-- The names of the ports so far.
use Rattle.std.proofs.Common.{◌≡◌, take}
use Rattle.flat_design.specs.Hierarchy.{port_names}
use Rattle.flat_design.proofs.names.pin_names.port_names.Given as goal

abbrev pub invariant-loop-port : goal.invariant-loop-port
invariant-loop-port l = l.names ≡ port_names (take l.port-index l.ports)
