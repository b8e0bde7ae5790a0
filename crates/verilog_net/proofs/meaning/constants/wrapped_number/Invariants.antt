use Rattle.std.proofs.Common.{◌≡◌, ◌%◌, ◌<◌, drop}
use Rattle.netlist_model.specs.VerilogConstants as grammar
use Rattle.verilog_net.proofs.meaning.constants.wrapped_number.Given as goal

-- the number so far, with the digits that are left, gives the lowest bits of the number of all
abbrev pub invariant-loop-digit : goal.invariant-loop-digit
invariant-loop-digit l = record {
  few : l.number < 18446744073709551616;
  same : grammar.number_after l.number (drop l.digit-index l.digits) % 18446744073709551616 ≡ grammar.number_of l.digits % 18446744073709551616;
}
