use Rattle.std.proofs.Common.{drop}
use Rattle.verilog_net.proofs.RepeatFacts.{SecondsSoFar}
use Rattle.verilog_net.proofs.checking.repeats.seconds.Given as goal

abbrev pub invariant-loop-one : goal.invariant-loop-one
invariant-loop-one l = SecondsSoFar l.known l.found.items (drop l.one-index l.declared) l.declared
