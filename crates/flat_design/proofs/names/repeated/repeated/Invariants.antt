-- The names so far.
use Rattle.std.proofs.Common.{◌≡◌, ◌<◌, ℕ, List, Some, length, slice_get, take}
use Rattle.flat_model.specs.FlatFaults.{is_among}
use Rattle.flat_design.proofs.names.repeated.repeated.Given as goal

abbrev pub invariant-loop-at : goal.invariant-loop-at
invariant-loop-at l = record {
  count : length l.repeats ≡ l.at;
  each : (k : ℕ) (name : List ℕ) → k < l.at → slice_get l.names k ≡ Some name → slice_get l.repeats k ≡ Some (is_among (take k l.names) name);
}
