use Rattle.std.proofs.Common.{◌++◌, ◌∙◌, ◌∷◌, [], Bool, ap}
use Rattle.std.specs.Prelude.{if◌then◌else◌}
use Rattle.verilog_net.specs.Seen.{token_seen, tokens_seen}
use Rattle.verilog_net.proofs.RepeatFacts.{second_known}
use Rattle.verilog_net.proofs.checking.repeats.add_second.Goals as goal

pub returns : goal.returns
returns c = λ before has.
    c.in_ok-add_if.ensures
    ∙ ap (λ (t : Bool). tokens_seen c.args.found.now.items ++ (if t then token_seen c.args.declared.now.name ∷ [] else []))
    (second_known c.args.known.now before c.known_of-earlier.result c.args.declared.now c.is_second-second.result has c.known_of-earlier.ensures c.is_second-second.ensures)
