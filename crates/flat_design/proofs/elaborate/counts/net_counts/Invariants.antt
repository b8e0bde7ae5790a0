-- The counts of the modules so far.
use Rattle.std.proofs.Common.{◌≡◌, map, take}
use Rattle.flat_design.specs.Elaboration.{net_count}
use Rattle.flat_design.proofs.elaborate.counts.net_counts.Given as goal

abbrev pub invariant-loop-body : goal.invariant-loop-body
invariant-loop-body l = l.counts ≡ map (λ m. net_count m.nets) (take l.body-index l.modules)
