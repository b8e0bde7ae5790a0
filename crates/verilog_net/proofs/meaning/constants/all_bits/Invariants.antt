use Rattle.std.proofs.Common.{◌≡◌, ◌++◌, drop}
use Rattle.std.specs.List.{flat_map}
use Rattle.netlist_model.specs.VerilogConstants as grammar
use Rattle.verilog_net.proofs.meaning.constants.all_bits.Given as goal

abbrev pub invariant-loop-digit : goal.invariant-loop-digit
invariant-loop-digit l =
    l.bits.items ++ flat_map (grammar.digit_bits l.count) (drop l.digit-index l.digits)
    ≡ flat_map (grammar.digit_bits l.count) l.digits
