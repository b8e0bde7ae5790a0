use Rattle.std.proofs.Common.{◌≡◌, ◌++◌, drop}
use Rattle.netlist_model.specs.VerilogNets as nets
use Rattle.verilog_net.specs.Names.{declarations_of}
use Rattle.verilog_net.specs.Syntax.{pieces_seen}
use Rattle.verilog_net.proofs.meaning.bits.bits_of.Given as goal

abbrev pub invariant-loop-piece : goal.invariant-loop-piece
invariant-loop-piece l =
    l.bits ++ nets.bits_of (declarations_of l.names) (pieces_seen (drop l.piece-index l.pieces))
    ≡ nets.bits_of (declarations_of l.names) (pieces_seen l.pieces)
