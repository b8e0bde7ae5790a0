use Rattle.std.proofs.Common.{◌≡◌, drop, map}
use Rattle.std.specs.List.{list_any}
use Rattle.netlist_model.specs.Verilog as spec
use Rattle.netlist_model.specs.VerilogStatements as grammar
use Rattle.verilog_net.specs.Names.{declarations_of}
use Rattle.verilog_net.specs.Syntax.{parts_seen}
use Rattle.verilog_net.proofs.checking.uses.any_uneven.Given as goal

abbrev pub invariant-loop-part : goal.invariant-loop-part
invariant-loop-part l =
    list_any (spec.is_uneven (declarations_of l.names)) (map grammar.sides_of (parts_seen (drop l.part-index l.parts)))
    ≡ list_any (spec.is_uneven (declarations_of l.names)) (map grammar.sides_of (parts_seen l.parts))
