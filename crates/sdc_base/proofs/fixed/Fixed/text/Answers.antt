use Rattle.std.proofs.Common.{rules, ◌++◌, ◌∙◌, ap}
use Rattle.std.proofs.lemmas.Int.{to_z-of_z}
use Rattle.std.specs.Int.{w128}
use mir.Val.{SFits}
use Rattle.sdc_base.proofs.WrittenFacts.{number_text_is}
use Rattle.sdc_base.proofs.fixed.Fixed.text.Goals as goal

pub returns : goal.returns
returns c =
    let f : SFits w128 c.self.inside.scaled = search rules in
    number_text_is c.args.self c.self.inside.scaled c.self.inside.whole c.unsigned_abs-magnitude.result c.new-text.result c.push_sign.new.text
    c.push_str.new.self c.push_fraction.new.text (ap (λ n. n.scaled) c.self.view_is) (ap (λ n. n.whole) c.self.view_is)
    (simp to_z-of_z at c.unsigned_abs-magnitude.ensures.value) c.new-text.ensures (simp to_z-of_z at c.in_ok-push_sign.ensures)
    (c.in_ok-push_str.ensures.ok ∙ ap (λ t. c.push_sign.new.text ++ t) c.format.ensures.text) c.in_ok-push_fraction.ensures
