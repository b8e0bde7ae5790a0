use Rattle.std.proofs.Common.{◌≡◌, ◌++◌, drop}
use Rattle.netlist_model.specs.Verilog as spec
use Rattle.verilog_net.specs.Names.{declarations_of}
use Rattle.verilog_net.specs.Seen.{tokens_seen}
use Rattle.verilog_net.proofs.checking.uses.undeclared.Given as goal

abbrev pub invariant-loop-name : goal.invariant-loop-name
invariant-loop-name l =
    tokens_seen l.found.items ++ spec.undeclared (declarations_of l.names) (tokens_seen (drop l.name-index l.listed))
    ≡ spec.undeclared (declarations_of l.names) (tokens_seen l.listed)
