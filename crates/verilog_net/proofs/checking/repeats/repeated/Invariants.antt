use Rattle.std.proofs.Common.{drop}
use Rattle.verilog_net.proofs.RepeatFacts.{RepeatedSoFar}
use Rattle.verilog_net.proofs.checking.repeats.repeated.Given as goal

abbrev pub invariant-loop-name : goal.invariant-loop-name
invariant-loop-name l = RepeatedSoFar l.before l.found.items (drop l.name-index l.names) l.names
