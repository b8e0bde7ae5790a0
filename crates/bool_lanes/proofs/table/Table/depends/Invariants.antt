use Rattle.std.proofs.Common.{ℕ, ◌<◌}
use Rattle.function_model.specs.FunctionValue.{ChangesAt}
use Rattle.bool_lanes.proofs.table.Table.depends.Given as goal

abbrev pub invariant-loop-completion : goal.invariant-loop-completion
invariant-loop-completion l = (c : ℕ) → c < l.completion → ChangesAt l.self l.known.mask l.known.value l.pin c → ⊥
