use Rattle.std.specs.String.{string_bytes}
use Rattle.verilog_net.proofs.RepeatFacts.{known_added}
use Rattle.verilog_net.proofs.checking.repeats.add_known.Goals as goal

pub returns : goal.returns
returns c = λ before has.
    known_added c.args.known.now c.insert.new.self (string_bytes c.in_ok-key.key) c.one_later-later.result c.args.declared.now c.known_of-earlier.result before
    c.in_ok-key.ensures.ok c.known_of-earlier.ensures c.one_later-later.ensures c.in_ok-insert.ensures.updates has
