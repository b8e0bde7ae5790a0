use Rattle.std.proofs.Common.{◌≡◌, drop}
use Rattle.std.specs.Option.{option_map}
use Rattle.netlist_model.specs.Verilog as spec
use Rattle.verilog_net.specs.Faults.{wrong_seen, wrongs_seen}
use Rattle.verilog_net.proofs.FaultFacts.{joined}
use Rattle.verilog_net.proofs.checking.faults.first_of.Given as goal

abbrev pub invariant-loop-wrong : goal.invariant-loop-wrong
invariant-loop-wrong l =
    joined (option_map wrong_seen l.first) (spec.first_wrong (wrongs_seen (drop l.wrong-index l.wrongs))) ≡ spec.first_wrong (wrongs_seen l.wrongs)
