use Rattle.std.proofs.Common.{List, take, sym, subst, ◌+◌}
use Rattle.std.specs.List.{AllZip}
use Rattle.flat_design.specs.declared.elaborate.terminals.Terminals.{Terminals}
use Rattle.flat_design.specs.Tables.{IsTerminals}
use Rattle.flat_design.proofs.TerminalFacts.{zip_more}
use Rattle.flat_design.proofs.elaborate.terminals.all_terminals.Goals as goal

pub loop-thing-preserved : goal.loop-thing-preserved
loop-thing-preserved g c =
    subst (λ (all : List Terminals). AllZip (λ thing found. IsTerminals (g.T.HasTerminals.terminals thing) found) (take (c.loop-thing.thing-index + 1) c.args.things.now) all)
    (sym c.in_ok-push.ensures.items)
    (zip_more (λ thing found. IsTerminals (g.T.HasTerminals.terminals thing) found) c.args.things.now c.loop-thing.all.items c.loop-thing.thing-index
    c.thing-item.result c.in_ok-terminals.field-0 c.loop-thing-test.true c.thing-item.is c.loop-thing.invariant c.in_ok-terminals.ensures)
