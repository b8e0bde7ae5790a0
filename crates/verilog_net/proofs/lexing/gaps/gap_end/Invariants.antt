use Rattle.std.proofs.Common.{◌-◌, length}
use Rattle.verilog_net.proofs.GapFacts.{GapSoFar}
use Rattle.verilog_net.proofs.lexing.gaps.gap_end.Given as goal

abbrev pub invariant-loop-at : goal.invariant-loop-at
invariant-loop-at l = GapSoFar l.bytes l.from l.at l.gap

abbrev pub decreases-loop-at : goal.decreases-loop-at
decreases-loop-at l = length l.bytes - l.at
