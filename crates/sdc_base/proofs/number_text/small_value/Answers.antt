use Rattle.std.proofs.Common.{arith, refl, sym, ◌∙◌}
use Rattle.sdc_base.proofs.DigitFacts.{ReadsSmall_stop, ReadsSmall_more}
use Rattle.sdc_base.proofs.number_text.small_value.Goals as goal

pub returns-then-not-is_ascii_digit : goal.returns-then-not-is_ascii_digit
returns-then-not-is_ascii_digit c =
    let e =
    ReadsSmall_stop c.loop-byte.value c.loop-byte.byte-index c.args.digits.now (omega arith)
    (sym c.is_ascii_digit.ensures.value ∙ c.if-not-is_ascii_digit.true) c.loop-byte.invariant in
    rw e refl

pub loop-byte-preserved : goal.loop-byte-preserved
loop-byte-preserved c =
    ReadsSmall_more c.loop-byte.value c.min-value.result c.loop-byte.byte-index c.args.digits.now (omega arith)
    (sym c.is_ascii_digit.ensures.value ∙ c.if-not-is_ascii_digit.false) (omega arith) c.loop-byte.invariant
