use Rattle.std.proofs.Common.{◌≡◌, ◌++◌, drop}
use Rattle.std.specs.List.{flat_map}
use Rattle.netlist_model.specs.Verilog as spec
use Rattle.verilog_net.specs.Names.{declarations_of}
use Rattle.verilog_net.specs.Seen.{tokens_seen}
use Rattle.verilog_net.specs.Syntax.{pieces_seen}
use Rattle.verilog_net.proofs.checking.uses.add_unknown.Given as goal

abbrev pub invariant-loop-piece : goal.invariant-loop-piece
invariant-loop-piece l =
    tokens_seen l.found.items ++ flat_map (spec.unknown_in (declarations_of l.names)) (pieces_seen (drop l.piece-index l.pieces))
    ≡ tokens_seen l.fn.found.items ++ flat_map (spec.unknown_in (declarations_of l.names)) (pieces_seen l.pieces)
