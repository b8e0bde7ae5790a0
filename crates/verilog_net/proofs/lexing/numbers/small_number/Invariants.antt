use Rattle.std.proofs.Common.{◌≡◌, ◌≤◌, drop}
use Rattle.netlist_model.specs.VerilogConstants.{number_after, number_of}
use Rattle.verilog_net.proofs.lexing.numbers.small_number.Given as goal

-- the number so far, with the digits that are left, gives the number of all
abbrev pub invariant-loop-digit : goal.invariant-loop-digit
invariant-loop-digit l = (number_after l.number (drop l.digit-index l.digits) ≡ number_of l.digits) × (l.number ≤ 4294967295)
