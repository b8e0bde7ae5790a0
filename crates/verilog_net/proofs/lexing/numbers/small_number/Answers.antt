use Rattle.verilog_net.proofs.NumberFacts.{too_large_step}
use Rattle.verilog_net.proofs.lexing.numbers.small_number.Goals as goal

pub returns-then-number-gt4294967295-clause-is : goal.returns-then-number-gt4294967295-clause-is
returns-then-number-gt4294967295-clause-is c =
    too_large_step c.loop-digit.number c.next_number-number.result c.args.digits.now c.loop-digit.digit-index c.loop-digit-test.true c.loop-digit.invariant.0 c.next_number-number.ensures c.if-number-gt4294967295.true
