use Rattle.std.proofs.Common.{◌∙◌}
use Rattle.clock_map.proofs.RowLists.{rows_step}
use Rattle.clock_map.proofs.rows.rows_of.Goals as goal

pub loop-view-preserved : goal.loop-view-preserved
loop-view-preserved c =
    rows_step _ _ _ _ _ c.loop-view.rows _ c.from.result c.view-item.result c.loop-view-test.true c.view-item.is
    c.len.ensures (c.from.ensures ∙ c.in_ok-row.ensures.items) c.in_ok-push.ensures.ok c.loop-view.invariant
