use Rattle.std.proofs.Common.{◌+◌, drop, get_or, refl}
use Rattle.std.proofs.lemmas.List.{drop_more}
use Rattle.verilog_net.proofs.WireFacts.{all_added, no_candidate, one_added}
use Rattle.verilog_net.proofs.meaning.nets.add_all_new.Goals as goal

pub loop-net-init : goal.loop-net-init
loop-net-init c = λ names has. record { listed = names; has = has; same = refl }

pub loop-net-preserved : goal.loop-net-preserved
loop-net-preserved c = λ names has.
    one_added c.loop-net.taken c.add_new.new.taken names c.args.nets.now c.loop-net.nets c.add_new.new.nets (drop c.loop-net.net-index c.args.found.now) (drop (c.loop-net.net-index + 1) c.args.found.now) c.args.found.now
    (get_or c.args.found.now c.loop-net.net-index no_candidate) (c.loop-net.invariant names has) (drop_more c.args.found.now c.loop-net.net-index no_candidate c.loop-net-test.true) c.in_ok-add_new.ensures

pub returns : goal.returns
returns c = λ names has.
    all_added c.loop-net.taken names c.args.nets.now c.loop-net.nets c.args.found.now c.loop-net.net-index (c.loop-net.invariant names has) c.loop-net-test.false
