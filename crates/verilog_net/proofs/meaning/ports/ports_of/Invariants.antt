use Rattle.std.proofs.Common.{◌≡◌, ◌++◌, drop}
use Rattle.std.specs.List.{filter_map}
use Rattle.netlist_model.specs.VerilogNets as nets
use Rattle.verilog_net.specs.Names.{declarations_of}
use Rattle.verilog_net.specs.Seen.{tokens_seen}
use Rattle.verilog_net.specs.Wires.{texts}
use Rattle.verilog_net.proofs.meaning.ports.ports_of.Given as goal

abbrev pub invariant-loop-name : goal.invariant-loop-name
invariant-loop-name l =
    l.ports ++ filter_map (nets.port_of (declarations_of l.names)) (texts (tokens_seen (drop l.name-index l.port_names)))
    ≡ filter_map (nets.port_of (declarations_of l.names)) (texts (tokens_seen l.port_names))
