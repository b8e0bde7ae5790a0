use Rattle.std.proofs.Common.{◌≡◌, ℕ, ◌<◌, length, get_or}
use Rattle.std.specs.Prelude.{false}
use Rattle.function_model.specs.FunctionValue.{pin_value, value_of}
use Rattle.bool_lanes.proofs.table.Table.of.Given as goal

abbrev pub invariant-loop-completion : goal.invariant-loop-completion
invariant-loop-completion l = record {
  room : length l.values ≡ 1024;
  each : (c : ℕ) → c < l.completion → get_or l.values c false ≡ value_of (pin_value c) l.expr;
}
