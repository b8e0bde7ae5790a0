use Rattle.std.proofs.Common.{◌≡◌, ◌++◌, drop, map}
use Rattle.netlist_model.specs.VerilogNets as nets
use Rattle.netlist_model.specs.VerilogSyntax as syntax
use Rattle.verilog_net.specs.Names.{declarations_of}
use Rattle.verilog_net.specs.Syntax.{parts_seen}
use Rattle.verilog_net.proofs.meaning.instances.ordered_links.Given as goal

abbrev pub invariant-loop-part : goal.invariant-loop-part
invariant-loop-part l =
    l.all ++ map (nets.bits_of (declarations_of l.names)) (map syntax.pieces_of (parts_seen (drop l.part-index l.parts)))
    ≡ map (nets.bits_of (declarations_of l.names)) (map syntax.pieces_of (parts_seen l.parts))
