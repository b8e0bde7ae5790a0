use Rattle.verilog_net.proofs.CutFacts.{PartsSoFar}
use Rattle.verilog_net.proofs.parsing.parts.parts_of.Given as goal

abbrev pub invariant-loop-at : goal.invariant-loop-at
invariant-loop-at l = PartsSoFar l.tokens l.from l.at l.depth l.parts.items
