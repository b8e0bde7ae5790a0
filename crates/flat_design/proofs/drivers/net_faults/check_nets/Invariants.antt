-- No net so far has a fault.
use Rattle.flat_model.specs.FlatFaults.{NetHas}
use Rattle.flat_model.specs.FlatNets.{FlatNet}
use Rattle.flat_design.specs.NamedFaults.{HaveNoneBefore, flat_of}
use Rattle.flat_design.proofs.drivers.net_faults.check_nets.Given as goal

abbrev pub invariant-loop-net : goal.invariant-loop-net
invariant-loop-net l = HaveNoneBefore FlatNet (NetHas (flat_of l.design)) (flat_of l.design).nets l.net
