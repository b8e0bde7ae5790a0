use Rattle.std.proofs.Common.{drop}
use Rattle.verilog_net.proofs.WireFacts.{NamesSoFar}
use Rattle.verilog_net.proofs.meaning.nets.name_set.Given as goal

abbrev pub invariant-loop-name : goal.invariant-loop-name
invariant-loop-name l = NamesSoFar l.set (drop l.name-index l.names) l.names
