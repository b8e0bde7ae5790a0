use Rattle.std.proofs.Common.{◌+◌, drop, get_or}
use Rattle.std.proofs.lemmas.List.{drop_more}
use Rattle.verilog_net.proofs.KindFacts.{no_token}
use Rattle.verilog_net.proofs.WireFacts.{one_name}
use Rattle.verilog_net.proofs.meaning.nets.name_set.Goals as goal

pub loop-name-preserved : goal.loop-name-preserved
loop-name-preserved c =
    one_name c.loop-name.set c.add_name.new.names (drop c.loop-name.name-index c.args.names.now) (drop (c.loop-name.name-index + 1) c.args.names.now) c.args.names.now (get_or c.args.names.now c.loop-name.name-index no_token)
    c.loop-name.invariant (drop_more c.args.names.now c.loop-name.name-index no_token c.loop-name-test.true) c.in_ok-add_name.ensures
