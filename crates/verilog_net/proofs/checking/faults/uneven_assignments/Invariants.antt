use Rattle.std.proofs.Common.{◌≡◌, ◌++◌, drop, map}
use Rattle.std.specs.List.{flat_map}
use Rattle.netlist_model.specs.Verilog as spec
use Rattle.netlist_model.specs.VerilogStatements as grammar
use Rattle.verilog_net.specs.Names.{declarations_of}
use Rattle.verilog_net.specs.Seen.{tokens_seen}
use Rattle.verilog_net.specs.Syntax.{parts_seen}
use Rattle.verilog_net.proofs.checking.faults.uneven_assignments.Given as goal

abbrev pub invariant-loop-statement : goal.invariant-loop-statement
invariant-loop-statement l =
    tokens_seen l.found.items ++ flat_map (spec.uneven (declarations_of l.names)) (map grammar.statement_of (parts_seen (drop l.statement-index l.statements)))
    ≡ flat_map (spec.uneven (declarations_of l.names)) (map grammar.statement_of (parts_seen l.statements))
