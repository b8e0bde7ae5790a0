use Rattle.std.proofs.Common.{◌≡◌, ◌++◌, drop, map}
use Rattle.netlist_model.specs.VerilogNets as nets
use Rattle.verilog_net.specs.Names.{declarations_of}
use Rattle.verilog_net.specs.Syntax.{declareds_seen}
use Rattle.verilog_net.specs.Wires.{candidates_seen}
use Rattle.verilog_net.proofs.meaning.nets.add_declared.Given as goal

abbrev pub invariant-loop-one : goal.invariant-loop-one
invariant-loop-one l =
    candidates_seen l.found.items ++ map (nets.declared_wire (declarations_of l.names)) (declareds_seen (drop l.one-index l.declared))
    ≡ candidates_seen l.fn.found.items ++ map (nets.declared_wire (declarations_of l.names)) (declareds_seen l.declared)
