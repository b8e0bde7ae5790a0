use Rattle.std.proofs.Common.{◌≡◌, ◌&&◌, ◌∙◌, rules}
use Rattle.std.proofs.lemmas.Int.{to_z-of_z}
use Rattle.std.specs.Int.{w128}
use mir.Val.{SFits}
use Rattle.sdc_base.proofs.ArithmeticSteps.{sum_is, SFits_sum}
use Rattle.sdc_base.proofs.fixed.Fixed.add.Goals as goal
use Rattle.sdc_base.proofs.fixed.Fixed.add.Goals.{then-self, else-self}

pub returns : goal.returns
returns c =
    let x = c.self.inside.scaled in
    let y = c.other.inside.scaled in
    let f : SFits w128 x = search rules in
    let g : SFits w128 y = search rules in
    let h = SFits_sum x y c.self.invariant.below c.other.invariant.below in
    let w : c.if-self.whole ≡ (c.self.inside.whole && c.other.inside.whole) = elim c.if-self.branch [
      | then-self v ↦ rw v.if-self.true v.whole-is
      | else-self v ↦ rw v.if-self.false (v.whole-is ∙ v.if-self.false)
    ] in
    rw (← c.self.view_is, ← c.other.view_is) (sum_is _ _ c.if-self.whole c.number_in.result w (simp to_z-of_z at c.number_in.ensures))
