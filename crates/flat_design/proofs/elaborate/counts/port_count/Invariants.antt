-- The count so far.
use Rattle.std.proofs.Common.{◌≡◌, take}
use Rattle.flat_design.specs.Elaboration.{port_count}
use Rattle.flat_design.proofs.elaborate.counts.port_count.Given as goal

abbrev pub invariant-loop-port : goal.invariant-loop-port
invariant-loop-port l = l.count ≡ port_count (take l.port-index l.ports)
