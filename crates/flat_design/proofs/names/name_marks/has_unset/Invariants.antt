-- None of the marks so far.
use Rattle.std.proofs.Common.{◌≡◌, ◌<◌, ◌+◌, ℕ, Some, false, slice_get}
use Rattle.flat_design.proofs.names.name_marks.has_unset.Given as goal

abbrev pub invariant-loop-at : goal.invariant-loop-at
invariant-loop-at l = (k : ℕ) → k < l.at → slice_get l.marks (l.first + k) ≡ Some false → ⊥
