use Rattle.verilog_net.proofs.KindFacts.{KindsSoFar}
use Rattle.verilog_net.proofs.syntax.contexts.kinds_of.Given as goal

abbrev pub invariant-loop-token : goal.invariant-loop-token
invariant-loop-token l = KindsSoFar l.tokens l.token-index l.kinds.items l.part l.names l.braces
