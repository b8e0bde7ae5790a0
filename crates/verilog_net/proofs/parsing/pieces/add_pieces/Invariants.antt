use Rattle.std.proofs.Common.{◌≡◌, ◌++◌, drop}
use Rattle.netlist_model.specs.VerilogSyntax as grammar
use Rattle.verilog_net.specs.Seen.{tokens_seen}
use Rattle.verilog_net.specs.Syntax.{pieces_seen}
use Rattle.verilog_net.proofs.parsing.pieces.add_pieces.Given as goal

abbrev pub invariant-loop-at : goal.invariant-loop-at
invariant-loop-at l =
    pieces_seen l.pieces.items ++ grammar.pieces_of (tokens_seen (drop l.at l.tokens)) ≡ pieces_seen l.fn.pieces.items ++ grammar.pieces_of (tokens_seen l.tokens)
