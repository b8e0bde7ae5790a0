use Rattle.verilog_net.proofs.MeantFacts.{modules_more}
use Rattle.verilog_net.proofs.meaning.meant.meant_modules.Goals as goal

pub loop-named-preserved : goal.loop-named-preserved
loop-named-preserved c =
    modules_more c.args.modules.now c.loop-named.named-index c.loop-named.found c.push.new.self c.in_ok-one.one c.named-item.result _ c.loop-named-test.true c.named-item.is
    c.in_ok-one.ensures c.in_ok-push.ensures.ok c.loop-named.invariant
