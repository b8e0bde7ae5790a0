-- The prefixes so far.
use Rattle.std.proofs.Common.{◌≡◌, length, map, take}
use Rattle.flat_design.specs.Hierarchy.{prefix_in, scopes_in}
use Rattle.flat_design.proofs.elaborate.hierarchy.prefixes.Given as goal

abbrev pub invariant-loop-place : goal.invariant-loop-place
invariant-loop-place l = (l.all ≡ map prefix_in (take l._place (scopes_in l.design))) × (length l.all ≡ l._place)
