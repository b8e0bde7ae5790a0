use Rattle.std.proofs.Common.{drop}
use Rattle.lib_cells.specs.Launches.{CountsSoFar}
use Rattle.lib_cells.proofs.cell.launches.launch_counts.Given as goal

abbrev pub invariant-loop-arc : goal.invariant-loop-arc
invariant-loop-arc l = CountsSoFar l.counts.items l.pins (drop l.arc-index l.arcs) l.arcs
