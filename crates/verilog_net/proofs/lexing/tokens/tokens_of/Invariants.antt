use Rattle.std.proofs.Common.{◌-◌, length}
use Rattle.verilog_net.proofs.TokenFacts.{ReadSoFar}
use Rattle.verilog_net.proofs.lexing.tokens.tokens_of.Given as goal

abbrev pub invariant-loop-token : goal.invariant-loop-token
invariant-loop-token l = ReadSoFar l.text l.tokens.items l.place

abbrev pub decreases-loop-token : goal.decreases-loop-token
decreases-loop-token l = length l.text - l.place.at
