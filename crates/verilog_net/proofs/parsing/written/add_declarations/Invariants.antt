use Rattle.std.proofs.Common.{◌≡◌, ◌++◌, drop, map}
use Rattle.std.specs.List.{flat_map}
use Rattle.netlist_model.specs.VerilogStatements as grammar
use Rattle.verilog_net.specs.Syntax.{declareds_seen, parts_seen}
use Rattle.verilog_net.proofs.parsing.written.add_declarations.Given as goal

abbrev pub invariant-loop-statement : goal.invariant-loop-statement
invariant-loop-statement l =
    declareds_seen l.found.items ++ flat_map grammar.declared_by (map grammar.statement_of (parts_seen (drop l.statement-index l.statements)))
    ≡ declareds_seen l.fn.found.items ++ flat_map grammar.declared_by (map grammar.statement_of (parts_seen l.statements))
