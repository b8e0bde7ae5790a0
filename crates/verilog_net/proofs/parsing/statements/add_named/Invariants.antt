use Rattle.std.proofs.Common.{◌≡◌, ◌++◌, List, drop}
use Rattle.std.specs.List.{flat_map}
use Rattle.netlist_model.specs.VerilogStatements as grammar
use Rattle.netlist_model.specs.VerilogSyntax as syntax
use Rattle.netlist_model.specs.VerilogTokens as lexical
use Rattle.verilog_net.specs.Syntax.{parts_seen, pieces_seen}
use Rattle.verilog_net.proofs.parsing.statements.add_named.Given as goal

abbrev pub invariant-loop-part : goal.invariant-loop-part
invariant-loop-part l =
    pieces_seen l.pieces.items ++ flat_map (λ (link : lexical.Token × List syntax.Piece). link.1) (flat_map grammar.named_one (parts_seen (drop l.part-index l.parts)))
    ≡ pieces_seen l.fn.pieces.items ++ flat_map (λ (link : lexical.Token × List syntax.Piece). link.1) (flat_map grammar.named_one (parts_seen l.parts))
