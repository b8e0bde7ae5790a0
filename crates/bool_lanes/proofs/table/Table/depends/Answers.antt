use Rattle.std.proofs.Common.{below_more}
use Rattle.bool_lanes.proofs.Searches.{failed}
use Rattle.bool_lanes.proofs.table.Table.depends.Goals as goal

pub loop-completion-preserved : goal.loop-completion-preserved
loop-completion-preserved c =
    below_more _ _ c.loop-completion.invariant (failed c.changes_at.result c.changes_at.ensures c.if-changes_at.false)
