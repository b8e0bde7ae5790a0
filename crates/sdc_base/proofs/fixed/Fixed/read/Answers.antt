use Rattle.std.proofs.Common.{rules, ◌∙◌, sym}
use Rattle.std.proofs.lemmas.Int.{to_z-of_z}
use Rattle.std.proofs.lemmas.Result.{err_from_is_err_and}
use Rattle.std.specs.Int.{w128}
use mir.Val.{SFits}
use Rattle.sdc_base.proofs.ReadFacts.{scanned, read_no_exponent, read_no_count, read_scanned, IsNumber_read}
use Rattle.sdc_base.proofs.fixed.Fixed.read.Goals as goal

pub returns-in_default : goal.returns-in_default
returns-in_default c =
    let s =
    scanned c.as_bytes.result.now c.args.text.now c.split_sign-negative.result.1.now c.split_digits.result.0.now
    c.split_digits.result.1.now c.split_decimals.result.0.now c.split_decimals.result.1.now c.as_bytes.ensures.value
    c.split_sign-negative.ensures.rest c.split_digits.ensures.digits c.split_digits.ensures.rest
    c.split_decimals.ensures.digits c.split_decimals.ensures.rest in
    read_no_exponent _ _ _ _ _ s (sym c.exponent_in.ensures ∙ c.in_default.is)

pub returns-then-not-is_count : goal.returns-then-not-is_count
returns-then-not-is_count c =
    let s =
    scanned c.as_bytes.result.now c.args.text.now c.split_sign-negative.result.1.now c.split_digits.result.0.now
    c.split_digits.result.1.now c.split_decimals.result.0.now c.split_decimals.result.1.now c.as_bytes.ensures.value
    c.split_sign-negative.ensures.rest c.split_digits.ensures.digits c.split_digits.ensures.rest
    c.split_decimals.ensures.digits c.split_decimals.ensures.rest in
    read_no_count _ _ _ _ _ c.in-Some.power s (sym c.exponent_in.ensures ∙ c.in-Some.is)
    (sym c.is_count.ensures ∙ c.if-not-is_count.true)

pub returns-in_err-magnitude : goal.returns-in_err-magnitude
returns-in_err-magnitude c =
    let s =
    scanned c.as_bytes.result.now c.args.text.now c.split_sign-negative.result.1.now c.split_digits.result.0.now
    c.split_digits.result.1.now c.split_decimals.result.0.now c.split_decimals.result.1.now c.as_bytes.ensures.value
    c.split_sign-negative.ensures.rest c.split_digits.ensures.digits c.split_digits.ensures.rest
    c.split_decimals.ensures.digits c.split_decimals.ensures.rest in
    let r =
    read_scanned _ _ _ _ _ c.in-Some.power c.digits_value.result c.scale.result s
    (sym c.exponent_in.ensures ∙ c.in-Some.is) (sym c.is_count.ensures ∙ c.if-not-is_count.false)
    c.split_digits.ensures.all c.split_decimals.ensures.all c.digits_value.ensures.value c.scale.ensures in
    let p = err_from_is_err_and c.from_residual.result c.from_residual.ensures.1 in
    let q = rw c.in_err-magnitude.was at r in
    rw (p.1, p.2) q

pub invariant_of-result : goal.invariant_of-result
invariant_of-result c =
    let s =
    scanned c.as_bytes.result.now c.args.text.now c.split_sign-negative.result.1.now c.split_digits.result.0.now
    c.split_digits.result.1.now c.split_decimals.result.0.now c.split_decimals.result.1.now c.as_bytes.ensures.value
    c.split_sign-negative.ensures.rest c.split_digits.ensures.digits c.split_digits.ensures.rest
    c.split_decimals.ensures.digits c.split_decimals.ensures.rest in
    let n =
    IsNumber_read _ _ _ _ _ c.in-Some.power c.digits_value.result c.in_ok-magnitude.magnitude c.split_sign-negative.result.0 s
    (sym c.exponent_in.ensures ∙ c.in-Some.is) (sym c.in_ok-magnitude.was ∙ c.scale.ensures) in
    let f : SFits w128 c.with_sign.result = search rules in
    simp to_z-of_z (rw (c.with_sign.ensures, c.is_empty.ensures) n)

pub returns : goal.returns
returns c =
    let s =
    scanned c.as_bytes.result.now c.args.text.now c.split_sign-negative.result.1.now c.split_digits.result.0.now
    c.split_digits.result.1.now c.split_decimals.result.0.now c.split_decimals.result.1.now c.as_bytes.ensures.value
    c.split_sign-negative.ensures.rest c.split_digits.ensures.digits c.split_digits.ensures.rest
    c.split_decimals.ensures.digits c.split_decimals.ensures.rest in
    let r =
    read_scanned _ _ _ _ _ c.in-Some.power c.digits_value.result c.scale.result s
    (sym c.exponent_in.ensures ∙ c.in-Some.is) (sym c.is_count.ensures ∙ c.if-not-is_count.false)
    c.split_digits.ensures.all c.split_decimals.ensures.all c.digits_value.ensures.value c.scale.ensures in
    let f : SFits w128 c.with_sign.result = search rules in
    let q = rw c.in_ok-magnitude.was at r in
    simp to_z-of_z (rw (c.with_sign.ensures, c.is_empty.ensures, c.split_sign-negative.ensures.sign, c.as_bytes.ensures.value) q)
