use Rattle.timing_laws.proofs.BuiltGraphs.{built_graph}
use Rattle.timing_laws.proofs.timings.graphs_of_designs_are_well_formed.Goals as goal

pub returns : goal.returns
returns c design graph well is = built_graph design graph is well
