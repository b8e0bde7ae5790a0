use Rattle.std.proofs.Common.{ℕ, List, drop}
use Rattle.verilog_net.specs.Contexts.{HasNames}
use Rattle.verilog_net.proofs.WireFacts.{NewSoFar}
use Rattle.verilog_net.proofs.meaning.nets.add_all_new.Given as goal

abbrev pub invariant-loop-net : goal.invariant-loop-net
invariant-loop-net l = (names : List (List ℕ)) → HasNames l.fn.taken names → NewSoFar l.taken names l.fn.nets l.nets (drop l.net-index l.found) l.found
