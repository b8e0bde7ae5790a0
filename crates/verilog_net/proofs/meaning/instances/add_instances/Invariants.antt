use Rattle.std.proofs.Common.{◌≡◌, ◌++◌, drop, map}
use Rattle.std.specs.List.{flat_map}
use Rattle.netlist_model.specs.VerilogNets as nets
use Rattle.netlist_model.specs.VerilogStatements as grammar
use Rattle.verilog_net.specs.Names.{declarations_of}
use Rattle.verilog_net.specs.Seen.{token_seen}
use Rattle.verilog_net.specs.Syntax.{parts_seen}
use Rattle.verilog_net.proofs.meaning.instances.add_instances.Given as goal

abbrev pub invariant-loop-part : goal.invariant-loop-part
invariant-loop-part l =
    l.found ++ map (nets.instance_from (declarations_of l.names)) (flat_map (grammar.instance_of (token_seen l.kind)) (parts_seen (drop l.part-index l.parts)))
    ≡ l.fn.found ++ map (nets.instance_from (declarations_of l.names)) (flat_map (grammar.instance_of (token_seen l.kind)) (parts_seen l.parts))
