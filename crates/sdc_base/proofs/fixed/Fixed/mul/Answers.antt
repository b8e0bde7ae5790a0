use Rattle.std.proofs.Common.{◌≡◌, ◌&&◌, ◌∙◌, sym, rules}
use Rattle.std.proofs.lemmas.Bool.{and_parts}
use Rattle.std.proofs.lemmas.Int.{to_z-of_z}
use Rattle.std.specs.Int.{w128}
use mir.Val.{SFits}
use Rattle.sdc_base.proofs.ArithmeticSteps.{Multiplied, product_is, product_decimals}
use Rattle.sdc_base.proofs.fixed.Fixed.mul.Goals as goal
use Rattle.sdc_base.proofs.fixed.Fixed.mul.Goals.{then-self, else-self}

pub number_in-requires : goal.number_in-requires
number_in-requires c t =
    let x = c.self.inside.scaled in
    let y = c.other.inside.scaled in
    let f : SFits w128 x = search rules in
    let g : SFits w128 y = search rules in
    let i : SFits w128 c.with_sign.result = search rules in
    let w : c.if-self.whole ≡ (c.self.inside.whole && c.other.inside.whole) = elim c.if-self.branch [
      | then-self v ↦ rw v.if-self.true v.whole-is
      | else-self v ↦ rw v.if-self.false (v.whole-is ∙ v.if-self.false)
    ] in
    let p = and_parts c.self.inside.whole c.other.inside.whole (sym w ∙ t) in
    let m : Multiplied x y c.with_sign.result = record {
      sign = c.signs_differ-negative.result;
      left = c.unsigned_abs.result;
      right = c.unsigned_abs-2.result;
      magnitude = c.product-magnitude.result;
      sign_is = simp to_z-of_z at c.signs_differ-negative.ensures;
      left_is = simp to_z-of_z at c.unsigned_abs.ensures.value;
      right_is = simp to_z-of_z at c.unsigned_abs-2.ensures.value;
      magnitude_is = c.product-magnitude.ensures;
      is = c.with_sign.ensures;
    } in
    simp to_z-of_z (product_decimals x y c.with_sign.result (c.self.invariant.decimals p.0) (c.other.invariant.decimals p.1) m)

pub returns : goal.returns
returns c =
    let x = c.self.inside.scaled in
    let y = c.other.inside.scaled in
    let f : SFits w128 x = search rules in
    let g : SFits w128 y = search rules in
    let i : SFits w128 c.with_sign.result = search rules in
    let w : c.if-self.whole ≡ (c.self.inside.whole && c.other.inside.whole) = elim c.if-self.branch [
      | then-self v ↦ rw v.if-self.true v.whole-is
      | else-self v ↦ rw v.if-self.false (v.whole-is ∙ v.if-self.false)
    ] in
    let m : Multiplied x y c.with_sign.result = record {
      sign = c.signs_differ-negative.result;
      left = c.unsigned_abs.result;
      right = c.unsigned_abs-2.result;
      magnitude = c.product-magnitude.result;
      sign_is = simp to_z-of_z at c.signs_differ-negative.ensures;
      left_is = simp to_z-of_z at c.unsigned_abs.ensures.value;
      right_is = simp to_z-of_z at c.unsigned_abs-2.ensures.value;
      magnitude_is = c.product-magnitude.ensures;
      is = c.with_sign.ensures;
    } in
    rw (← c.self.view_is, ← c.other.view_is) (product_is _ _ c.if-self.whole c.with_sign.result c.number_in.result w m (simp to_z-of_z at c.number_in.ensures))
