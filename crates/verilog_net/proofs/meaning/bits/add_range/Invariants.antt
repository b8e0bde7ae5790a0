use Rattle.std.proofs.Common.{◌≡◌, ◌+◌, ◌-◌, ◌++◌, Some, map}
use Rattle.netlist_model.specs.Ranges.{from_to}
use Rattle.netlist_model.specs.VerilogNets.{net_bit}
use Rattle.verilog_net.proofs.meaning.bits.add_range.Given as goal

abbrev pub invariant-loop-index : goal.invariant-loop-index
invariant-loop-index l =
    l.bits ++ map (λ i. net_bit l.name (Some i)) (from_to l.index l.right) ≡ l.fn.bits ++ map (λ i. net_bit l.name (Some i)) (from_to l.fn.left l.right)

abbrev pub decreases-loop-index : goal.decreases-loop-index
decreases-loop-index l = (l.right - l.index) + (l.index - l.right)
