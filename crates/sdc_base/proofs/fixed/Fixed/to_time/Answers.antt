use Rattle.std.proofs.Common.{◌≡◌, rules, ◌∙◌, ap}
use Rattle.std.proofs.lemmas.Int.{to_z-of_z}
use Rattle.std.specs.Int.{w64, w128, is_negative}
use mir.Val.{SFits}
use Rattle.sdc_base.specs.Number.{with_sign}
use Rattle.sdc_base.proofs.TimeFacts.{time_above, time_below, product_is, SFits_with_sign}
use Rattle.sdc_base.proofs.fixed.Fixed.to_time.Goals as goal

pub returns-then-magnitude-gt-LONGEST : goal.returns-then-magnitude-gt-LONGEST
returns-then-magnitude-gt-LONGEST c =
    let a : SFits w128 c.self.inside.scaled = search rules in
    let b : SFits w64 c.args.unit = search rules in
    let h = simp to_z-of_z at c.unsigned_abs.ensures.value in
    let i = simp to_z-of_z at c.unsigned_abs-2.ensures.value in
    let j = ap (λ n. n.scaled) c.self.view_is in
    time_above c.args.self c.args.unit c.nearest-magnitude.result
    (product_is c.args.self c.self.inside.scaled c.args.unit _ _ _ _ j h i c.from.ensures c.nearest-magnitude.ensures)
    c.if-magnitude-gt-LONGEST.true

pub returns : goal.returns
returns c =
    let a : SFits w128 c.self.inside.scaled = search rules in
    let b : SFits w64 c.args.unit = search rules in
    let h = simp to_z-of_z at c.unsigned_abs.ensures.value in
    let i = simp to_z-of_z at c.unsigned_abs-2.ensures.value in
    let j = ap (λ n. n.scaled) c.self.view_is in
    let t =
    time_below c.args.self c.args.unit c.nearest-magnitude.result
    (product_is c.args.self c.self.inside.scaled c.args.unit _ _ _ _ j h i c.from.ensures c.nearest-magnitude.ensures)
    c.if-magnitude-gt-LONGEST.false in
    let s = simp to_z-of_z at c.with_sign.ensures in
    let k : c.with_sign.result ≡ with_sign (is_negative c.args.self.scaled) c.nearest-magnitude.result =
    s ∙ ap (λ z. with_sign (is_negative z) c.nearest-magnitude.result) j in
    let f = SFits_with_sign (is_negative c.args.self.scaled) c.nearest-magnitude.result c.if-magnitude-gt-LONGEST.false in
    let f64 = f.0 in
    let f128 = f.1 in
    rw k (simp to_z-of_z t)
