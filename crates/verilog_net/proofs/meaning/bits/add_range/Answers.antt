use Rattle.verilog_net.proofs.RangeFacts.{range_more}
use Rattle.verilog_net.proofs.meaning.bits.add_range.Goals as goal

pub loop-index-preserved : goal.loop-index-preserved
loop-index-preserved c =
    range_more c.loop-index.bits c.add_bit.new.bits _ c.args.name.now c.loop-index.index c.args.right c.next_towards-index.result c.loop-index-test.true c.in_ok-add_bit.ensures c.next_towards-index.ensures c.loop-index.invariant
