use Rattle.std.proofs.Common.{◌-◌, ◌++◌, length, arith, ◌∙◌, sym, ap, length-append}
use Rattle.std.specs.Str.Parse.{digits_value_after}
use Rattle.sdc_base.proofs.NearestFacts.{ten_pos, ten_mono}
use Rattle.sdc_base.proofs.DigitFacts.{digits_below, digits_value_after-append, all_digits-append}
use Rattle.sdc_base.proofs.number_text.digits_value.Goals as goal

pub append_digits-requires-clause-room : goal.append_digits-requires-clause-room
append_digits-requires-clause-room c = ten_pos (30 - length c.args.before.now)

pub append_digits-requires-2-clause-room : goal.append_digits-requires-2-clause-room
append_digits-requires-2-clause-room c =
    let a = digits_below c.args.before.now c.requires.before in
    let b = ten_mono (length c.args.before.now) (30 - length c.args.fraction.now) (omega arith) in
    omega (arith, a, b, c.append_digits.ensures)

pub returns-clause-value : goal.returns-clause-value
returns-clause-value c =
    c.append_digits-2.ensures ∙ ap (λ n. digits_value_after 10 n c.args.fraction.now) c.append_digits.ensures
    ∙ sym (digits_value_after-append 0 c.args.before.now c.args.fraction.now)

pub returns-clause-below : goal.returns-clause-below
returns-clause-below c =
    let a = digits_below (c.args.before.now ++ c.args.fraction.now) (all_digits-append c.args.before.now c.args.fraction.now c.requires.before c.requires.fraction) in
    let e = length-append c.args.before.now c.args.fraction.now in
    let b = ten_mono (length (c.args.before.now ++ c.args.fraction.now)) 30 (omega (arith, e, c.requires.few)) in
    omega (arith, a, b, returns-clause-value c)
