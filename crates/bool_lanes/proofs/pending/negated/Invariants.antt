use Rattle.std.proofs.Common.{◌≡◌, drop}
use Rattle.function_model.specs.FunctionText.{negated}
use Rattle.bool_lanes.proofs.pending.negated.Given as goal

abbrev pub invariant-loop-negation : goal.invariant-loop-negation
invariant-loop-negation l = negated (drop l._negation-index l.negations) l.inner ≡ negated l.negations l.fn.operand
