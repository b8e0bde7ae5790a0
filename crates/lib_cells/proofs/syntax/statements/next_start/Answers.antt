use Rattle.std.proofs.Common.{refl, sym, ◌∙◌}
use Rattle.lib_cells.specs.Starts.{place_seen}
use Rattle.lib_cells.proofs.StartFacts.{item_is, start_more}
use Rattle.lib_cells.proofs.syntax.statements.next_start.Goals as goal

pub loop-start-preserved : goal.loop-start-preserved
loop-start-preserved c =
    start_more c.args.tokens.now c.args.from (place_seen c.args.place) c.loop-start.start _ _
    c.loop-start.invariant c.loop-start-test.true (sym c.begins.ensures ∙ c.if-begins.false) refl c.after.ensures
    (item_is c.args.tokens.now c.loop-start.start.at _ c.loop-start-test.true)
