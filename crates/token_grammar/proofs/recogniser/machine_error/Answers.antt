use Rattle.std.proofs.Common.{true, false, ap, ◌∙◌}
use Rattle.std.specs.List.{list_all}
use Rattle.token_grammar.proofs.Ends.{found_at_end}
use Rattle.token_grammar.proofs.recogniser.machine_error.Goals as goal

pub returns-then-may_end : goal.returns-then-may_end
returns-then-may_end g c =
    found_at_end g.G.Grammar.table c.args.start c.loop-place.stack.items c.loop-place.place c.args.kinds.now true c.loop-place-test.false c.loop-place.invariant (c.if-may_end.ensures {u = tt} ∙ ap (list_all g.G.Grammar.table.nullable) c.deref.ensures.value)

pub returns : goal.returns
returns g c =
    found_at_end g.G.Grammar.table c.args.start c.loop-place.stack.items c.loop-place.place c.args.kinds.now false c.loop-place-test.false c.loop-place.invariant (c.if-may_end.ensures {u = tt} ∙ ap (list_all g.G.Grammar.table.nullable) c.deref.ensures.value)
