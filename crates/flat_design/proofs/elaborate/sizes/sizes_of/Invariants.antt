-- The sizes so far, with those of the modules from here on, are all.
use Rattle.std.proofs.Common.{◌≡◌, drop, length}
use Rattle.flat_design.specs.Sizes.{sizes_along, sizes_in}
use Rattle.flat_design.proofs.elaborate.sizes.sizes_of.Given as goal

abbrev pub invariant-loop-place : goal.invariant-loop-place
invariant-loop-place l = (length l.sizes.items ≡ length l.steps)
    × (sizes_along l.library l.steps l.net_counts l.sizes.items (drop l.place-index l.order)
    ≡ sizes_in l.library l.steps l.net_counts l.order)
