use Rattle.verilog_net.specs.Faults.{wrongs_seen}
use Rattle.verilog_net.proofs.FaultFacts.{wrongs_more}
use Rattle.verilog_net.proofs.checking.faults.add_all_wrongs.Goals as goal

pub loop-named-preserved : goal.loop-named-preserved
loop-named-preserved c =
    wrongs_more c.args.modules.now c.loop-named.named-index (wrongs_seen c.loop-named.found.items) (wrongs_seen c.add_module_wrongs.new.found.items) c.named-item.result _ c.loop-named-test.true c.named-item.is
    c.in_ok-add_module_wrongs.ensures c.loop-named.invariant
