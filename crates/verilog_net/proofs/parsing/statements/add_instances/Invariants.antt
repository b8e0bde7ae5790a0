use Rattle.std.proofs.Common.{◌≡◌, ◌++◌, drop}
use Rattle.std.specs.List.{flat_map}
use Rattle.netlist_model.specs.VerilogStatements as grammar
use Rattle.netlist_model.specs.VerilogNets.{connected}
use Rattle.verilog_net.specs.Seen.{token_seen}
use Rattle.verilog_net.specs.Syntax.{parts_seen, pieces_seen}
use Rattle.verilog_net.proofs.parsing.statements.add_instances.Given as goal

abbrev pub invariant-loop-part : goal.invariant-loop-part
invariant-loop-part l =
    pieces_seen l.pieces.items ++ flat_map (λ (placed : grammar.Placed). connected placed.connections) (flat_map (grammar.instance_of (token_seen l.kind)) (parts_seen (drop l.part-index l.parts)))
    ≡ pieces_seen l.fn.pieces.items ++ flat_map (λ (placed : grammar.Placed). connected placed.connections) (flat_map (grammar.instance_of (token_seen l.kind)) (parts_seen l.parts))
