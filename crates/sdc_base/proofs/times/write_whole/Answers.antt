use Rattle.std.proofs.Common.{◌≡◌, ◌<◌, ◌≤◌, length, arith, rules}
use Rattle.std.proofs.lemmas.Fmt.{length-decimal-le}
use Rattle.sdc_base.proofs.TimeBytes.{unsigned_text, signed_text}
use Rattle.sdc_base.proofs.times.write_whole.Goals as goal

pub write_digits-start-requires : goal.write_digits-start-requires
write_digits-start-requires c =
    let long : length c.args.bytes.now ≡ 28 = search rules in
    (omega (arith, length-decimal-le 20 c.args.count (omega arith) (omega arith) c.ranges.count.fits), omega (arith, long))

pub overflow_sub-bytes : goal.overflow_sub-bytes
overflow_sub-bytes c = omega (arith, length-decimal-le 20 c.args.count (omega arith) (omega arith) c.ranges.count.fits)

pub overflow_sub-result : goal.overflow_sub-result
overflow_sub-result c = omega (arith, length-decimal-le 20 c.args.count (omega arith) (omega arith) c.ranges.count.fits)

pub returns-then-negative-clause-text : goal.returns-then-negative-clause-text
returns-then-negative-clause-text c =
    let w = c.write_digits-start in
    let some : 0 < w.result = omega (arith, length-decimal-le 20 c.args.count (omega arith) (omega arith) c.ranges.count.fits) in
    let within : w.result ≤ length w.new.buf = omega arith in
    signed_text c.args.negative w.new.buf _ c.args.count w.result c.if-negative.true some within w.ensures.start w.ensures.written

pub returns-clause-text : goal.returns-clause-text
returns-clause-text c =
    let w = c.write_digits-start in
    let within : w.result ≤ length w.new.buf = omega arith in
    unsigned_text c.args.negative w.new.buf _ c.args.count w.result c.if-negative.false within w.ensures.start w.ensures.written
