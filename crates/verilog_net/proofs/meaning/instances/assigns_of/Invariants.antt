use Rattle.std.proofs.Common.{◌≡◌, ◌++◌, drop, map}
use Rattle.std.specs.List.{flat_map}
use Rattle.netlist_model.specs.VerilogNets as nets
use Rattle.netlist_model.specs.VerilogStatements as grammar
use Rattle.verilog_net.specs.Names.{declarations_of}
use Rattle.verilog_net.specs.Syntax.{parts_seen}
use Rattle.verilog_net.proofs.meaning.instances.assigns_of.Given as goal

abbrev pub invariant-loop-statement : goal.invariant-loop-statement
invariant-loop-statement l =
    l.found ++ flat_map (nets.assigns_in (declarations_of l.names)) (map grammar.statement_of (parts_seen (drop l.statement-index l.statements)))
    ≡ flat_map (nets.assigns_in (declarations_of l.names)) (map grammar.statement_of (parts_seen l.statements))
