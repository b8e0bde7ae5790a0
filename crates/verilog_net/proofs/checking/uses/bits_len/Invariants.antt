use Rattle.std.proofs.Common.{◌≡◌, ◌+◌, drop, length}
use Rattle.netlist_model.specs.VerilogNets as nets
use Rattle.verilog_net.specs.Names.{declarations_of}
use Rattle.verilog_net.specs.Syntax.{pieces_seen}
use Rattle.verilog_net.proofs.checking.uses.bits_len.Given as goal

abbrev pub invariant-loop-piece : goal.invariant-loop-piece
invariant-loop-piece l =
    l.len + length (nets.bits_of (declarations_of l.names) (pieces_seen (drop l.piece-index l.pieces))) ≡ length (nets.bits_of (declarations_of l.names) (pieces_seen l.pieces))
