use Rattle.std.proofs.Common.{◌≡◌, ◌++◌, drop, map}
use Rattle.std.specs.List.{flat_map}
use Rattle.netlist_model.specs.VerilogStatements as grammar
use Rattle.verilog_net.specs.Links.{link_from}
use Rattle.verilog_net.specs.Names.{declarations_of}
use Rattle.verilog_net.specs.Syntax.{parts_seen}
use Rattle.verilog_net.proofs.meaning.instances.named_links.Given as goal

abbrev pub invariant-loop-part : goal.invariant-loop-part
invariant-loop-part l =
    l.links ++ map (link_from (declarations_of l.names)) (flat_map grammar.named_one (parts_seen (drop l.part-index l.parts)))
    ≡ map (link_from (declarations_of l.names)) (flat_map grammar.named_one (parts_seen l.parts))
