use Rattle.std.proofs.Common.{◌≡◌, ◌≤◌, ◌++◌}
use Rattle.netlist_model.specs.VerilogConstants as grammar
use Rattle.verilog_net.proofs.meaning.constants.add_low_bits.Given as goal

abbrev pub invariant-loop-left : goal.invariant-loop-left
invariant-loop-left l = record {
  few : l.left ≤ 64;
  all : l.bits.items ++ grammar.low_bits l.left l.number ≡ l.fn.bits.items ++ grammar.low_bits l.fn.count l.number;
}

abbrev pub decreases-loop-left : goal.decreases-loop-left
decreases-loop-left l = l.left
