use Rattle.verilog_net.proofs.CutFacts.{CutSoFar}
use Rattle.verilog_net.proofs.parsing.parts.cut.Given as goal

abbrev pub invariant-loop-at : goal.invariant-loop-at
invariant-loop-at l = CutSoFar l.kind l.tokens l.from l.at l.parts.items
