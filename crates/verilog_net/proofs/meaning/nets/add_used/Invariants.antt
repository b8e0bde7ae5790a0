use Rattle.std.proofs.Common.{◌≡◌, ◌++◌, drop}
use Rattle.std.specs.List.{filter_map}
use Rattle.netlist_model.specs.VerilogNets as nets
use Rattle.verilog_net.specs.Names.{declarations_of}
use Rattle.verilog_net.specs.Syntax.{pieces_seen}
use Rattle.verilog_net.specs.Wires.{candidates_seen}
use Rattle.verilog_net.proofs.meaning.nets.add_used.Given as goal

abbrev pub invariant-loop-piece : goal.invariant-loop-piece
invariant-loop-piece l =
    candidates_seen l.found.items ++ filter_map (nets.used_wire (declarations_of l.names)) (pieces_seen (drop l.piece-index l.pieces))
    ≡ candidates_seen l.fn.found.items ++ filter_map (nets.used_wire (declarations_of l.names)) (pieces_seen l.pieces)
