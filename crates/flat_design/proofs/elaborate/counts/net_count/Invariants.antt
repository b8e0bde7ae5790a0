-- The count so far.
use Rattle.std.proofs.Common.{◌≡◌, take}
use Rattle.flat_design.specs.Elaboration.{net_count}
use Rattle.flat_design.proofs.elaborate.counts.net_count.Given as goal

abbrev pub invariant-loop-net : goal.invariant-loop-net
invariant-loop-net l = l.count ≡ net_count (take l.net-index l.nets)
