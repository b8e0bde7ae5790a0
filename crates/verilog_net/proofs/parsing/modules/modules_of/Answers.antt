use Rattle.std.proofs.Common.{◌≡◌, ◌++◌, ◌∙◌, List, ap, sym}
use Rattle.std.proofs.lemmas.List.{append-nil, drop_all}
use Rattle.verilog_net.specs.declared.lexing.tokens.Token.{Token}
use Rattle.verilog_net.specs.Modules.{modules_from}
use Rattle.verilog_net.specs.Names.{named_modules}
use Rattle.verilog_net.specs.Seen.{tokens_seen}
use Rattle.verilog_net.proofs.ModuleFacts.{modules_are}
use Rattle.verilog_net.proofs.parsing.modules.modules_of.Goals as goal

pub returns-clause-modules : goal.returns-clause-modules
returns-clause-modules c =
    let none = drop_all c.loop-at.at c.args.tokens.now c.loop-at-test.false in
    sym (append-nil (named_modules c.loop-at.found.items))
    ∙ (ap (λ (rest : List Token). named_modules c.loop-at.found.items ++ modules_from (tokens_seen rest)) (sym none)
    ∙ (c.loop-at.invariant.same ∙ sym (modules_are (tokens_seen c.args.tokens.now))))
