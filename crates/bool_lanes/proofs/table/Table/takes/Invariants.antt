use Rattle.std.proofs.Common.{ℕ, ◌<◌}
use Rattle.function_model.specs.FunctionValue.{TakesAt}
use Rattle.bool_lanes.proofs.table.Table.takes.Given as goal

abbrev pub invariant-loop-completion : goal.invariant-loop-completion
invariant-loop-completion l = (c : ℕ) → c < l.completion → TakesAt l.self l.known.mask l.known.value l.value c → ⊥
