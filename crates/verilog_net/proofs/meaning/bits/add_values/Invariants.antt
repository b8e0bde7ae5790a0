use Rattle.std.proofs.Common.{◌≡◌, ◌++◌, drop, map}
use Rattle.source_types.specs.declared.netlists.Bit.TheVariants as bit
use Rattle.verilog_net.proofs.meaning.bits.add_values.Given as goal

abbrev pub invariant-loop-value : goal.invariant-loop-value
invariant-loop-value l =
    l.bits ++ map bit.Constant (drop l.value-index l.values)
    ≡ l.fn.bits ++ map bit.Constant l.values
