use Rattle.std.proofs.Common.{◌≡◌, ◌&&◌, ◌<◌, true, false, ◌∙◌, sym, ap, refl, rules, arith}
use Rattle.std.proofs.lemmas.Int.{to_z-of_z}
use Rattle.std.specs.Int.{w128}
use Rattle.std.specs.Int.RustNames.{unsigned_abs}
use mir.Val.{SFits}
use Rattle.sdc_base.proofs.ArithmeticSteps.{Divided, quotient_none, quotient_whole, quotient_rounded, quotient_bound, quotient_decimals, SFits_quotient}
use Rattle.sdc_base.proofs.fixed.Fixed.div.Goals as goal
use Rattle.sdc_base.proofs.fixed.Fixed.div.Goals.{else-self-via-then-self+else-other, else-self-via-else-self}

pub returns-then-divisor-eq0 : goal.returns-then-divisor-eq0
returns-then-divisor-eq0 c =
    let g : SFits w128 c.other.inside.scaled = search rules in
    let v = simp to_z-of_z at c.unsigned_abs-divisor.ensures.value in
    quotient_none c.args.self c.args.other (ap (λ n. unsigned_abs n.scaled) (sym c.other.view_is) ∙ sym v ∙ c.if-divisor-eq0.true)

pub number_in-requires : goal.number_in-requires
number_in-requires c t =
    let x = c.self.inside.scaled in
    let y = c.other.inside.scaled in
    let q = c.floored.result in
    let f : SFits w128 x = search rules in
    let g : SFits w128 y = search rules in
    let i : SFits w128 q = search rules in
    let e = simp to_z-of_z at c.floored.ensures in
    let p = SFits_quotient x y q c.self.invariant.below e in
    simp to_z-of_z (quotient_decimals q)

pub returns-then-other : goal.returns-then-other
returns-then-other c =
    let x = c.self.inside.scaled in
    let y = c.other.inside.scaled in
    let q = c.floored.result in
    let f : SFits w128 x = search rules in
    let g : SFits w128 y = search rules in
    let i : SFits w128 q = search rules in
    let e = simp to_z-of_z at c.floored.ensures in
    let p = SFits_quotient x y q c.self.invariant.below e in
    let v = simp to_z-of_z at c.unsigned_abs-divisor.ensures.value in
    let some : 0 < unsigned_abs y = omega (arith, v, c.if-divisor-eq0.false) in
    let w : (c.self.inside.whole && c.other.inside.whole) ≡ true = rw (c.if-self.true, c.if-other.true) refl in
    rw (← c.self.view_is, ← c.other.view_is) (quotient_whole _ _ q c.number_in.result some w e (simp to_z-of_z at c.number_in.ensures))

pub with_sign-requires : goal.with_sign-requires
with_sign-requires c =
    let f : SFits w128 c.self.inside.scaled = search rules in
    let u = simp to_z-of_z at c.unsigned_abs.ensures.value in
    quotient_bound c.unsigned_abs.result c.unsigned_abs-divisor.result c.nearest-magnitude.result (omega (arith, u, c.self.invariant.below))
    (omega (arith, c.if-divisor-eq0.false)) c.nearest-magnitude.ensures

pub returns : goal.returns
returns c =
    let x = c.self.inside.scaled in
    let y = c.other.inside.scaled in
    let f : SFits w128 x = search rules in
    let g : SFits w128 y = search rules in
    let i : SFits w128 c.with_sign.result = search rules in
    let v = simp to_z-of_z at c.unsigned_abs-divisor.ensures.value in
    let some : 0 < unsigned_abs y = omega (arith, v, c.if-divisor-eq0.false) in
    let w : (c.self.inside.whole && c.other.inside.whole) ≡ false = elim c.else-self.branch [
      | else-self-via-then-self+else-other t ↦ rw (t.if-self.true, t.if-other.false) refl
      | else-self-via-else-self t ↦ rw t.if-self.false refl
    ] in
    let d : Divided x y c.with_sign.result = record {
      sign = c.signs_differ-negative.result;
      dividend = c.unsigned_abs.result;
      divisor = c.unsigned_abs-divisor.result;
      magnitude = c.nearest-magnitude.result;
      sign_is = simp to_z-of_z at c.signs_differ-negative.ensures;
      dividend_is = simp to_z-of_z at c.unsigned_abs.ensures.value;
      divisor_is = v;
      magnitude_is = c.nearest-magnitude.ensures;
      is = c.with_sign.ensures;
    } in
    rw (← c.self.view_is, ← c.other.view_is) (quotient_rounded _ _ c.with_sign.result c.number_in-2.result some w d (simp to_z-of_z at c.number_in-2.ensures))
