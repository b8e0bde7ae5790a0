use Rattle.std.proofs.Common.{◌≡◌, ◌++◌, drop, map}
use Rattle.std.specs.List.{flat_map}
use Rattle.netlist_model.specs.VerilogNets as nets
use Rattle.netlist_model.specs.VerilogStatements as grammar
use Rattle.verilog_net.specs.Syntax.{parts_seen, pieces_seen}
use Rattle.verilog_net.proofs.checking.faults.pieces_of_all.Given as goal

abbrev pub invariant-loop-statement : goal.invariant-loop-statement
invariant-loop-statement l =
    pieces_seen l.pieces.items ++ flat_map nets.pieces_in (map grammar.statement_of (parts_seen (drop l.statement-index l.statements)))
    ≡ flat_map nets.pieces_in (map grammar.statement_of (parts_seen l.statements))
