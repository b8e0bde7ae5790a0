use Rattle.std.proofs.Common.{◌≡◌, ◌*◌, ◌/◌, ◌^◌, ◌++◌, ◌∙◌, ap, subst, arith}
use Rattle.std.proofs.lemmas.Fmt.{decimal_digit}
use Rattle.sdc_base.proofs.PlaceFacts.{Writes, Writes_more, Writes_end, Writes_full, digit_below}
use Rattle.sdc_base.proofs.fixed_text.push_places.Goals as goal

pub loop-place-preserved : goal.loop-place-preserved
loop-place-preserved c =
    let l = c.loop-place in
    let digit = l.left * 10 / 10 ^ 9 in
    Writes_more 9 c.args.text.now l.text _ l._place c.args.rest l.left (10 ^ 9) (omega arith) (omega arith)
    (c.in_ok-push_str.ensures.ok ∙ ap (λ t. l.text ++ t) (c.format.ensures.text ∙ decimal_digit digit (digit_below l.left (10 ^ 9) l.invariant.less))) l.invariant

pub returns-then-left-eq0 : goal.returns-then-left-eq0
returns-then-left-eq0 c =
    let l = c.loop-place in
    Writes_end 9 c.args.text.now l.text l._place c.args.rest l.left (10 ^ 9) (omega arith) l.invariant

pub returns : goal.returns
returns c =
    let l = c.loop-place in
    let i : l._place ≡ 9 = omega arith in
    Writes_full 9 c.args.text.now l.text c.args.rest l.left (10 ^ 9) (subst (λ k. Writes 9 c.args.text.now l.text k c.args.rest l.left (10 ^ 9)) i l.invariant)
