use Rattle.std.proofs.Common.{◌≡◌, ◌<◌, true, ◌∙◌, sym, ap, rules, arith}
use Rattle.std.proofs.lemmas.Int.{to_z-of_z, ints}
use Rattle.std.specs.Int.{w128}
use Rattle.std.specs.Int.RustNames.{unsigned_abs}
use mir.Val.{SFits}
use Rattle.sdc_base.proofs.ArithmeticSteps.{Leaves_floored, remainder_none, remainder_some}
use Rattle.sdc_base.proofs.fixed.Fixed.rem.Goals as goal

pub returns-then-other-eq0 : goal.returns-then-other-eq0
returns-then-other-eq0 c =
    let g : SFits w128 c.other.inside.scaled = search rules in
    let z : unsigned_abs c.other.inside.scaled ≡ 0 = omega (arith, ints, c.if-other-eq0.true) in
    remainder_none c.args.self c.args.other (ap (λ n. unsigned_abs n.scaled) (sym c.other.view_is) ∙ z)

pub overflow_sub-result : goal.overflow_sub-result
overflow_sub-result c =
    let x = c.self.inside.scaled in
    let y = c.other.inside.scaled in
    let q = c.floored-quotient.result in
    let f : SFits w128 x = search rules in
    let g : SFits w128 y = search rules in
    let i : SFits w128 q = search rules in
    let e = simp to_z-of_z at c.floored-quotient.ensures in
    let some : 0 < unsigned_abs y = omega (arith, ints, c.if-other-eq0.false) in
    let v : c.self.inside.whole ≡ true = ap (λ n. n.whole) c.self.view_is ∙ c.requires.dividend in
    let w : c.other.inside.whole ≡ true = ap (λ n. n.whole) c.other.view_is ∙ c.requires.divisor in
    let l = Leaves_floored x y q c.self.invariant.below c.other.invariant.below (c.self.invariant.decimals v) (c.other.invariant.decimals w) some e in
    let p = l.product in
    simp to_z-of_z l.rest

pub invariant_of-result : goal.invariant_of-result
invariant_of-result c =
    let x = c.self.inside.scaled in
    let y = c.other.inside.scaled in
    let q = c.floored-quotient.result in
    let f : SFits w128 x = search rules in
    let g : SFits w128 y = search rules in
    let i : SFits w128 q = search rules in
    let e = simp to_z-of_z at c.floored-quotient.ensures in
    let some : 0 < unsigned_abs y = omega (arith, ints, c.if-other-eq0.false) in
    let v : c.self.inside.whole ≡ true = ap (λ n. n.whole) c.self.view_is ∙ c.requires.dividend in
    let w : c.other.inside.whole ≡ true = ap (λ n. n.whole) c.other.view_is ∙ c.requires.divisor in
    let l = Leaves_floored x y q c.self.invariant.below c.other.invariant.below (c.self.invariant.decimals v) (c.other.invariant.decimals w) some e in
    let p = l.product in
    let r = l.rest in
    simp to_z-of_z (record { below = l.below; decimals = λ _. l.decimals })

pub returns : goal.returns
returns c =
    let x = c.self.inside.scaled in
    let y = c.other.inside.scaled in
    let q = c.floored-quotient.result in
    let f : SFits w128 x = search rules in
    let g : SFits w128 y = search rules in
    let i : SFits w128 q = search rules in
    let e = simp to_z-of_z at c.floored-quotient.ensures in
    let some : 0 < unsigned_abs y = omega (arith, ints, c.if-other-eq0.false) in
    let v : c.self.inside.whole ≡ true = ap (λ n. n.whole) c.self.view_is ∙ c.requires.dividend in
    let w : c.other.inside.whole ≡ true = ap (λ n. n.whole) c.other.view_is ∙ c.requires.divisor in
    let l = Leaves_floored x y q c.self.invariant.below c.other.invariant.below (c.self.invariant.decimals v) (c.other.invariant.decimals w) some e in
    let p = l.product in
    let r = l.rest in
    rw (← c.self.view_is, ← c.other.view_is) (simp to_z-of_z (remainder_some _ _ q some e))
