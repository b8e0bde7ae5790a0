use Rattle.verilog_net.proofs.ConstantFacts.{repeat_more}
use Rattle.verilog_net.proofs.meaning.constants.add_repeated.Goals as goal

pub loop-left-preserved : goal.loop-left-preserved
loop-left-preserved c =
    repeat_more c.loop-left.bits.items c.push.new.self.items _ c.loop-left.left c.args.bit c.loop-left-test.true c.in_ok-push.ensures.items c.loop-left.invariant
