use Rattle.std.proofs.Common.{get_or}
use Rattle.verilog_net.proofs.ConstantFacts.{wrapped_all, wrapped_few, wrapped_step}
use Rattle.netlist_model.specs.VerilogConstants.{next_number}
use Rattle.verilog_net.proofs.meaning.constants.wrapped_number.Goals as goal

pub loop-digit-preserved : goal.loop-digit-preserved
loop-digit-preserved c = record {
  few = wrapped_few c.next_wrapped-number.result (next_number c.loop-digit.number (get_or c.args.digits.now c.loop-digit.digit-index 0)) c.next_wrapped-number.ensures;
  same = wrapped_step c.loop-digit.number c.next_wrapped-number.result c.args.digits.now c.loop-digit.digit-index c.loop-digit-test.true c.loop-digit.invariant.same c.next_wrapped-number.ensures;
}

pub returns : goal.returns
returns c = wrapped_all c.loop-digit.number c.args.digits.now c.loop-digit.digit-index c.loop-digit-test.false c.loop-digit.invariant.few c.loop-digit.invariant.same
