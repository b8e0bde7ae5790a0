-- The starts so far, and from here on those that are left.
use Rattle.std.proofs.Common.{◌≡◌, ◌++◌, drop}
use Rattle.flat_design.specs.NetNumbers.{net_starts}
use Rattle.flat_design.proofs.drivers.net_numbers.net_starts.Given as goal

abbrev pub invariant-loop-net : goal.invariant-loop-net
invariant-loop-net l = l.starts ++ net_starts l.start (drop l.net-index l.nets) ≡ net_starts 0 l.nets
