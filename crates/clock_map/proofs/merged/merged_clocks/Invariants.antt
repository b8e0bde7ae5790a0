-- The merged clocks so far are those of the clocks so far, and no more than these.
use Rattle.std.proofs.Common.{◌≤◌, length}
use Rattle.clock_map.proofs.MergedLists.{MergedSoFar}
use Rattle.clock_map.proofs.merged.merged_clocks.Given as goal

abbrev pub invariant-loop-at : goal.invariant-loop-at
invariant-loop-at l = record {
  merged : MergedSoFar l.standings-2 l.numbers l.at l.merged;
  few : length l.merged.clocks ≤ l.at;
}
