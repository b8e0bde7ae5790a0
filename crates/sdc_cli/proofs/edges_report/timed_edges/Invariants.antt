use Rattle.std.proofs.Common.{◌≡◌, ◌++◌, drop}
use Rattle.sdc_model.specs.EdgesText.{clock_edges}
use Rattle.sdc_cli.proofs.edges_report.timed_edges.Given as goal

-- the edges so far and those of the clocks that are left are those of all clocks
abbrev pub invariant-loop-clock : goal.invariant-loop-clock
invariant-loop-clock l = l.edges ++ clock_edges (drop l.clock-index l.clocks) ≡ clock_edges l.clocks
