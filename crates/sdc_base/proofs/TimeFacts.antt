-- What a product and its rounding give as a time.
use Rattle.std.proofs.Common.{◌≡◌, ◌↔◌, ℕ, zero, suc, ◌*◌, ◌^◌, ◌<◌, ◌≤◌, Bool, true, false, nat_le, Ok, Err, ℤ, pos, negsuc, refl, sym, ap, ◌∙◌, arith, lit<}
use Rattle.std.proofs.lemmas.Bool.Decides.{nat_tests}
use Rattle.std.proofs.lemmas.Int.{ints}
use Rattle.std.specs.Int.{is_negative, w64, w128}
use Rattle.std.specs.Int.RustNames.{unsigned_abs}
use lib.Signed.{mag}
use mir.Val.{SFits}
use Rattle.sdc_base.specs.Number.{Number, nearest, with_sign}
use Rattle.sdc_base.specs.Time.{time_of}
use Rattle.sdc_base.specs.NumberLaws.{IsTime, TimeIsNearest, TimeRangeIsExact}
use Rattle.sdc_base.proofs.CaseFacts.{by_bool}
use Rattle.sdc_base.proofs.NearestFacts.{IsNearest-nearest, nearest-IsNearest}
use Rattle.sdc_base.proofs.ReadFacts.{abs_with_sign}
use Rattle.sdc_base.specs.declared.fixed.NumberError.TheVariants.{NumberRange}

pub time_above : (n : Number) (u : ℤ) (m : ℕ) → m ≡ nearest (unsigned_abs n.scaled * unsigned_abs u) (10 ^ 9) → 10 ^ 16 < m → Err NumberRange ≡ time_of n u
unfolding time_of
time_above n u m e h =
    let f : nat_le m (10 ^ 16) ≡ false = grind (arith, nat_tests) in
    rw (sym e, f) refl

pub time_below : (n : Number) (u : ℤ) (m : ℕ) → m ≡ nearest (unsigned_abs n.scaled * unsigned_abs u) (10 ^ 9) → m ≤ 10 ^ 16 → Ok (with_sign (is_negative n.scaled) m) ≡ time_of n u
unfolding time_of
time_below n u m e h =
    let f : nat_le m (10 ^ 16) ≡ true = grind (arith, nat_tests) in
    rw (sym e, f) refl

pub mag_with_sign : (b : Bool) (m : ℕ) → mag (with_sign b m) ≤ m
mag_with_sign true m = grind (arith, ints)
mag_with_sign false m = grind (arith, ints)

pub SFits_with_sign : (b : Bool) (m : ℕ) → m ≤ 10 ^ 16 → SFits w64 (with_sign b m) × SFits w128 (with_sign b m)
SFits_with_sign b m h = let e = mag_with_sign b m in (record { sfits = omega arith }, record { sfits = omega arith })

pub product_is : (n : Number) (s u : ℤ) (p q w m : ℕ) → s ≡ n.scaled → p ≡ unsigned_abs s → q ≡ unsigned_abs u → w ≡ q → m ≡ nearest (p * w) (10 ^ 9) → m ≡ nearest (unsigned_abs n.scaled * unsigned_abs u) (10 ^ 9)
product_is n s u p q w m a b d e f = cc

pub pos_not_negative : (n : ℕ) → is_negative (pos n) ≡ false
pos_not_negative n = grind (arith, nat_tests)

pub with_sign_abs : (z : ℤ) → with_sign (is_negative z) (unsigned_abs z) ≡ z
with_sign_abs (pos n) = let e = pos_not_negative n in rw e refl
with_sign_abs (negsuc n) = refl

pub is_negative-with_sign : (b : Bool) (m : ℕ) → 0 < m → is_negative (with_sign b m) ≡ b
is_negative-with_sign b zero h = absurd (omega arith)
is_negative-with_sign true (suc m) h = refl
is_negative-with_sign false (suc m) h = pos_not_negative (suc m)

pub time_above_exact : (n : Number) (u : ℤ) (m : ℕ) → m ≡ nearest (unsigned_abs n.scaled * unsigned_abs u) (10 ^ 9) → (time_of n u ≡ Err NumberRange) ↔ (10 ^ 16 < m)
time_above_exact n u m e = (
  λ h. by_bool (λ b. nat_le m (10 ^ 16) ≡ b → 10 ^ 16 < m) (nat_le m (10 ^ 16))
      (λ _ t. let k = time_below n u m e (grind (arith, nat_tests)) in absurd cc)
      (λ _ t. grind (arith, nat_tests)) refl,
  λ h. sym (time_above n u m e h),
)

pub time_range_is_exact : (n : Number) (unit : ℤ) → TimeRangeIsExact n unit
time_range_is_exact n unit m near =
    time_above_exact n unit m (nearest-IsNearest (unsigned_abs n.scaled * unsigned_abs unit) (10 ^ 9) m (lit< tt) near)

pub time_is_nearest : (n : Number) (unit : ℤ) → TimeIsNearest n unit
time_is_nearest n unit fs =
    let p = unsigned_abs n.scaled * unsigned_abs unit in
    let m = nearest p (10 ^ 9) in
    let i = IsNearest-nearest p (10 ^ 9) (lit< tt) in (
      λ h. by_bool (λ b. nat_le m (10 ^ 16) ≡ b → IsTime n unit fs) (nat_le m (10 ^ 16))
          (λ _ t. let l : m ≤ 10 ^ 16 = grind (arith, nat_tests) in
          let k = time_below n unit m refl l in
          let e : with_sign (is_negative n.scaled) m ≡ fs = cc in
          let a : unsigned_abs fs ≡ m = ap unsigned_abs (sym e) ∙ abs_with_sign (is_negative n.scaled) m in
          record { value = rw a i; sign = sym e ∙ ap (with_sign (is_negative n.scaled)) (sym a); below = rw a l })
          (λ _ t. let k = time_above n unit m refl (grind (arith, nat_tests)) in absurd cc) refl,
      λ t. let e = nearest-IsNearest p (10 ^ 9) (unsigned_abs fs) (lit< tt) t.value in
          sym (time_below n unit (unsigned_abs fs) e t.below) ∙ ap Ok (sym t.sign),
    )
