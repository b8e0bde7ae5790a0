use Rattle.std.proofs.Common.{◌≡◌, ◌++◌, drop, map}
use Rattle.netlist_model.specs.WellFormedNetlist.{net_of_port}
use Rattle.verilog_net.proofs.meaning.nets.add_port_nets.Given as goal

abbrev pub invariant-loop-port : goal.invariant-loop-port
invariant-loop-port l =
    l.nets ++ map net_of_port (drop l.port-index l.ports)
    ≡ l.fn.nets ++ map net_of_port l.ports
