use Rattle.std.proofs.Common.{sym, ◌∙◌}
use Rattle.flat_design.proofs.TableFacts.{more_kept, more_new}
use Rattle.flat_design.proofs.names.named.with_first.Goals as goal

pub returns-then-contains_key : goal.returns-then-contains_key
returns-then-contains_key c = more_kept c.args.table c.args.name.now c.args.place (sym c.contains_key.ensures ∙ c.if-contains_key.true)

pub returns : goal.returns
returns c =
    more_new c.args.table c.insert.new.self c.args.name.now c.args.place (sym c.contains_key.ensures ∙ c.if-contains_key.false) c.in_ok-insert.ensures.updates
