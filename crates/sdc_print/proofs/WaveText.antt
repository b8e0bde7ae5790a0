-- The texts of a printed clock, read again: its times and its waveform.
use Rattle.std.proofs.Common.{◌≡◌, ◌<◌, ◌≤◌, ◌+◌, ◌-◌, ◌%◌, ◌^◌, ℕ, ℤ, pos, negsuc, true, [], ◌∷◌, nat_lt, nat_le, Some, Result, refl, ◌∙◌, ap, inr, arith}
use Rattle.std.proofs.lemmas.Bool.Decides.{nat_tests}
use Rattle.std.proofs.lemmas.Int.{ints}
use Rattle.std.proofs.Math.Nat.{mod-eq_of_lt}
use Rattle.std.specs.Int.RustNames.{unsigned_abs}
use Rattle.std.specs.Option.{option_and_then}
use Rattle.sdc_base.specs.Number.{Number}
use Rattle.sdc_base.specs.declared.fixed.NumberError.{NumberError}
use Rattle.sdc_base.specs.NumberLaws.{IsTimeText, ReadsBack, is_time_byte}
use Rattle.sdc_base.specs.Time.{time_text_of}
use Rattle.sdc_base.proofs.ReadBackFacts.{time_text_plain, time_text_reads_back}
use Rattle.timing_types.specs.declared.clocks.Wave.{Wave}
use Rattle.mode_model.specs.ClockFile.{wave_given}
use Rattle.constraint_model.specs.ClockWaves.{IsPrintableWave}
use Rattle.mode_model.specs.PrintedLine.{spaced}
use Rattle.mode_model.specs.Waveform.{nanoseconds, time_from, time_in, limited_time, wave_of, waveform_of}
use Rattle.constraint_model.specs.ClockWaves.{wave_within}
use Rattle.sdc_print.proofs.FileText.{AreItems, IsItem}
use Rattle.sdc_print.proofs.ListBack.{list_spaced}
use Rattle.sdc_print.proofs.PlainWords.{all_pass, is_plain}

-- ---- times and waveforms

abbrev pub ns : ℤ
ns = pos 1000000

time_back : (least t : ℕ) → least ≤ t → t ≤ 10 ^ 12 → time_from least (time_text_of (pos t) ns) ≡ Some t
time_back least t h k =
    let back : ReadsBack (pos t) ns = time_text_reads_back (pos t) ns (inr (inr (inr refl))) (omega arith) in
    let a : nat_le least t ≡ true = grind (arith, nat_tests) in
    let b : nat_le t (10 ^ 12) ≡ true = grind (arith, nat_tests) in
    ap (λ (r : Result Number NumberError). option_and_then (limited_time least) (nanoseconds r)) back.read
    ∙ (ap (λ (r : Result ℤ NumberError). option_and_then (limited_time least) (time_in r)) back.time ∙ rw (a, b) refl)

-- a rise below the period stays where it is
wave_kept : (p r f : ℕ) → r < p → r < f → f < r + p → wave_within p r f ≡ Some (record { period = pos p; rise = pos r; fall = pos f })
wave_kept p r f h k l =
    let a : nat_lt r f ≡ true = grind (arith, nat_tests) in
    let b : nat_lt f (r + p) ≡ true = grind (arith, nat_tests) in
    let c : r % p ≡ r = mod-eq_of_lt h in
    let d : f - (r - r) ≡ f = omega arith in
    rw (a, b, c, d) refl

wave_text_back : (p r f : ℕ) → 2 ≤ p → p ≤ 10 ^ 12 → r < p → r < f → f < r + p → f ≤ 10 ^ 12
    → AreItems (time_text_of (pos r) ns ∷ time_text_of (pos f) ns ∷ [])
    → wave_given (time_text_of (pos p) ns) (Some (spaced (time_text_of (pos r) ns ∷ time_text_of (pos f) ns ∷ []))) ≡ Some (record { period = pos p; rise = pos r; fall = pos f })
wave_text_back p r f a b c d e g items =
    let rise = time_text_of (pos r) ns in
    let fall = time_text_of (pos f) ns in
    ap (option_and_then (λ (time : ℕ). waveform_of time (spaced (rise ∷ fall ∷ [])))) (time_back 2 p a b)
    ∙ (ap (option_and_then (wave_of p)) (list_spaced (rise ∷ fall ∷ []) items)
    ∙ (ap (option_and_then (λ (rise_time : ℕ). option_and_then (wave_within p rise_time) (time_from 0 fall))) (time_back 0 r (omega arith) (omega arith))
    ∙ (ap (option_and_then (wave_within p r)) (time_back 0 f (omega arith) g) ∙ wave_kept p r f c d e)))

-- the texts of times are plain
time_byte_plain : (b : ℕ) → is_time_byte b ≡ true → is_plain b ≡ true
time_byte_plain b h = grind (arith, nat_tests)

pub time_item : (fs : ℤ) → unsigned_abs fs ≤ 2 ^ 63 → IsItem (time_text_of fs ns)
time_item fs h =
    let t : IsTimeText (time_text_of fs ns) = time_text_plain fs ns (inr (inr (inr refl))) h in
    record { some = t.some; plain = all_pass is_time_byte is_plain time_byte_plain (time_text_of fs ns) t.bytes }

-- what is known of the waveform of a printable clock
pub record WaveText (wave : Wave) : Type 0 where
  pub period : IsItem (time_text_of wave.period ns)
  pub edges : AreItems (time_text_of wave.rise ns ∷ time_text_of wave.fall ns ∷ [])
  pub back : wave_given (time_text_of wave.period ns) (Some (spaced (time_text_of wave.rise ns ∷ time_text_of wave.fall ns ∷ []))) ≡ Some wave

pub wave_text : (wave : Wave) → IsPrintableWave wave → WaveText wave
wave_text wave w = wave_parts wave.period wave.rise wave.fall w where
  wave_parts : (period rise fall : ℤ) → IsPrintableWave (record { period = period; rise = rise; fall = fall }) → WaveText (record { period = period; rise = rise; fall = fall })
  wave_parts (pos p) (pos r) (pos f) w =
      let a : 2 ≤ p = omega (arith, ints, w.period) in
      let b : p ≤ 10 ^ 12 = omega (arith, ints, w.period) in
      let c : r < p = omega (arith, ints, w.rise) in
      let d : r < f = omega (arith, ints, w.fall) in
      let e : f < r + p = omega (arith, ints, w.fall) in
      let g : f ≤ 10 ^ 12 = omega (arith, ints, w.fall) in
      let edges : AreItems (time_text_of (pos r) ns ∷ time_text_of (pos f) ns ∷ []) = (time_item (pos r) (omega arith), (time_item (pos f) (omega arith), tt)) in
      record { period = time_item (pos p) (omega arith); edges = edges; back = wave_text_back p r f a b c d e g edges }
  wave_parts (negsuc p) rise fall w = absurd (omega (arith, ints, w.period))
  wave_parts (pos p) (negsuc r) fall w = absurd (omega (arith, ints, w.rise))
  wave_parts (pos p) (pos r) (negsuc f) w = absurd (omega (arith, ints, w.fall))
