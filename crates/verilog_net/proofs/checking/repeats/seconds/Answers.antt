use Rattle.std.proofs.Common.{◌+◌, drop, get_or}
use Rattle.std.proofs.lemmas.List.{drop_more}
use Rattle.verilog_net.proofs.RepeatFacts.{no_declared, one_second}
use Rattle.verilog_net.proofs.checking.repeats.seconds.Goals as goal

pub loop-one-preserved : goal.loop-one-preserved
loop-one-preserved c =
    one_second c.loop-one.known c.add_known.new.known c.loop-one.found.items c.add_second.new.found.items (drop c.loop-one.one-index c.args.declared.now) (drop (c.loop-one.one-index + 1) c.args.declared.now) c.args.declared.now
    (get_or c.args.declared.now c.loop-one.one-index no_declared) c.loop-one.invariant (drop_more c.args.declared.now c.loop-one.one-index no_declared c.loop-one-test.true)
    c.in_ok-add_second.ensures c.in_ok-add_known.ensures
