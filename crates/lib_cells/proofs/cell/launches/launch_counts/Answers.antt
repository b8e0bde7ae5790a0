use Rattle.lib_cells.proofs.LaunchFacts.{counts_step}
use Rattle.lib_cells.proofs.cell.launches.launch_counts.Goals as goal

pub loop-arc-preserved : goal.loop-arc-preserved
loop-arc-preserved c =
    counts_step c.loop-arc.counts.items c.count_arc.new.counts.items c.args.pins c.loop-arc.arc-index _ c.args.arcs.now c.loop-arc-test.true c.loop-arc.invariant c.count_arc.ensures
