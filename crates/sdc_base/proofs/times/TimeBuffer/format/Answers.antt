use Rattle.std.proofs.Common.{◌≡◌, ◌/◌, ◌%◌, ◌++◌, length, take, refl, arith, rules}
use Rattle.std.proofs.lemmas.Int.{to_z-of_z}
use Rattle.std.specs.Fmt.{decimal}
use Rattle.std.specs.Int.{is_negative, w64}
use mir.Val.{SFits}
use Rattle.sdc_base.specs.Time.{minus_text, decimals_text}
use Rattle.sdc_base.proofs.PlaceFacts.{time_text_is}
use Rattle.sdc_base.proofs.TimeBytes.{between_is}
use Rattle.sdc_base.proofs.times.TimeBuffer.format.Goals as goal

pub returns : goal.returns
returns c =
    let f : SFits w64 c.args.fs = search rules in
    let g : SFits w64 c.args.unit = search rules in
    let m = c.unsigned_abs-magnitude.result in
    let u = c.unsigned_abs-unit.result in
    let w = c.write_whole-start in
    let d = c.write_decimals-end in
    let whole = minus_text (is_negative c.args.fs) ++ decimal (m / u) in
    let long : length w.new.bytes ≡ 28 = search rules in
    let front : take 21 w.new.bytes ≡ take w.result w.new.bytes ++ whole = simp to_z-of_z at w.ensures.text in
    time_text_is c.args.fs c.args.unit m u whole (whole ++ decimals_text (m % u) u) _
    (simp to_z-of_z at c.unsigned_abs-magnitude.ensures.value) (simp to_z-of_z at c.unsigned_abs-unit.ensures.value) refl refl
    (between_is w.new.bytes d.new.bytes whole (decimals_text (m % u) u) w.result d.result
    (omega (arith, long, w.ensures.within)) (omega (arith, w.ensures.within, d.ensures.within.0)) front d.ensures.text)
