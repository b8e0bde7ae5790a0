use Rattle.std.proofs.Common.{arith}
use Rattle.verilog_net.proofs.ConstantFacts.{low_bit_more}
use Rattle.verilog_net.proofs.meaning.constants.add_low_bits.Goals as goal

pub loop-left-preserved : goal.loop-left-preserved
loop-left-preserved c = record {
  few = omega (arith, c.loop-left.invariant.few);
  all = low_bit_more c.loop-left.bits.items c.push.new.self.items _ c.loop-left.left c.args.number c.bit_at.result c.loop-left-test.true c.bit_at.ensures c.in_ok-push.ensures.items c.loop-left.invariant.all;
}
