use Rattle.std.proofs.Common.{◌≡◌, ◌+◌, ◌∷◌, drop, drop-cons, get_or, add-one, subst, sym}
use Rattle.pin_types.specs.declared.functions.Expr.TheVariants as expr
use Rattle.function_model.specs.FunctionText.{negated}
use Rattle.bool_lanes.proofs.pending.negated.Goals as goal

pub loop-negation-preserved : goal.loop-negation-preserved
loop-negation-preserved c =
    let e : drop c.loop-negation._negation-index c.args.negations.now
    ≡ get_or c.args.negations.now c.loop-negation._negation-index 0 ∷ drop (c.loop-negation._negation-index + 1) c.args.negations.now =
    rw add-one (drop-cons c.args.negations.now c.loop-negation._negation-index 0 c.loop-negation-test.true) in
    let so_far = subst (λ rest. negated rest c.loop-negation.inner ≡ negated c.args.negations.now c.args.operand) e c.loop-negation.invariant in
    subst (λ inner. negated (drop (c.loop-negation._negation-index + 1) c.args.negations.now) (expr.Not inner) ≡ negated c.args.negations.now c.args.operand)
    (sym c.in_ok-new.ensures) so_far
