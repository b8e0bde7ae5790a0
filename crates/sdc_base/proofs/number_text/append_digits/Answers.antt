use Rattle.std.proofs.Common.{arith}
use Rattle.sdc_base.proofs.DigitFacts.{Reads_digit, Reads_more, Reads_all}
use Rattle.sdc_base.proofs.number_text.append_digits.Goals as goal

pub overflow_mul-total : goal.overflow_mul-total
overflow_mul-total c =
    let d = Reads_digit c.args.value c.loop-byte.total c.loop-byte.byte-index c.args.digits.now (omega arith) (omega arith) c.loop-byte.invariant in
    omega arith

pub overflow_add-total : goal.overflow_add-total
overflow_add-total c =
    let d = Reads_digit c.args.value c.loop-byte.total c.loop-byte.byte-index c.args.digits.now (omega arith) (omega arith) c.loop-byte.invariant in
    let e = c.from.ensures in omega arith

pub loop-byte-preserved : goal.loop-byte-preserved
loop-byte-preserved c =
    let d = Reads_more c.args.value c.loop-byte.total c.loop-byte.byte-index c.args.digits.now (omega arith) (omega arith) c.loop-byte.invariant in
    rw c.from.ensures d

pub returns : goal.returns
returns c = Reads_all c.args.value c.loop-byte.total c.loop-byte.byte-index c.args.digits.now (omega arith) c.loop-byte.invariant
