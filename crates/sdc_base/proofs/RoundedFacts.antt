-- That what is rounded is nearest, and that the product of whole numbers is exact.
use Rattle.std.proofs.Common.{◌≡◌, ℕ, zero, suc, ◌*◌, ◌/◌, ◌%◌, ◌^◌, Bool, true, false, ℤ, pos, refl, sym, ap, ◌∙◌, arith}
use Rattle.std.proofs.lemmas.Int.{unsigned_abs-mul}
use Rattle.std.specs.Int.{is_negative}
use Rattle.std.specs.Int.RustNames.{unsigned_abs}
use lib.IntN.{◌*ℤ◌}
use Rattle.sdc_base.specs.Number.{Number, nearest, with_sign}
use Rattle.sdc_base.specs.Arithmetic.{signs_differ}
use Rattle.sdc_base.specs.ArithmeticLaws.{RoundedIsNearest, WholeProductIsExact}
use Rattle.sdc_base.proofs.ArithmeticFacts.{sign_over_pos}
use Rattle.sdc_base.proofs.NearestFacts.{IsNearest-nearest, nearest-IsNearest}
use Rattle.sdc_base.proofs.ReadFacts.{abs_with_sign}
use Rattle.sdc_base.proofs.TimeFacts.{with_sign_abs}

pub rounded_is_nearest : (n d : ℤ) → RoundedIsNearest n d
rounded_is_nearest n d r h =
    let s = signs_differ n d in
    let m = nearest (unsigned_abs n) (unsigned_abs d) in
    let i = IsNearest-nearest (unsigned_abs n) (unsigned_abs d) h in (
      λ e. let a : unsigned_abs r ≡ m = ap unsigned_abs (sym e) ∙ abs_with_sign s m in
          record { value = rw a i; sign = sym e ∙ ap (with_sign s) (sym a) },
      λ f. ap (with_sign s) (sym (nearest-IsNearest (unsigned_abs n) (unsigned_abs d) (unsigned_abs r) h f.value)) ∙ sym f.sign,
    )

pub with_sign_times : (b : Bool) (k s : ℕ) → with_sign b k *ℤ pos s ≡ with_sign b (k * s)
with_sign_times false k s = refl
with_sign_times true zero s = let e : 0 * s ≡ 0 = omega arith in rw e refl
with_sign_times true (suc k) s = refl

-- the nearest multiple of 10 ^ 9 is the product itself
pub nearest_exact : (a b : ℕ) → a % 10 ^ 9 ≡ 0 → nearest (a * b) (10 ^ 9) * 10 ^ 9 ≡ a * b
unfolding nearest
nearest_exact a b h =
    let f : a ≡ 10 ^ 9 * (a / 10 ^ 9) = omega arith in
    let g : a * b ≡ 10 ^ 9 * (a / 10 ^ 9 * b) = ap (λ x. x * b) f ∙ (grind arith) in
    omega arith

pub whole_product_is_exact : (a b : Number) → WholeProductIsExact a b
whole_product_is_exact a b x y v w =
    let z = a.scaled *ℤ b.scaled in
    let m = nearest (unsigned_abs z) (10 ^ 9) in
    let e : m * 10 ^ 9 ≡ unsigned_abs z =
    ap (λ k. nearest k (10 ^ 9) * 10 ^ 9) (unsigned_abs-mul a.scaled b.scaled)
    ∙ nearest_exact (unsigned_abs a.scaled) (unsigned_abs b.scaled) (x.decimals v) ∙ sym (unsigned_abs-mul a.scaled b.scaled) in
    ap (λ s. with_sign s m *ℤ pos (10 ^ 9)) (sign_over_pos z (10 ^ 9)) ∙ with_sign_times (is_negative z) m (10 ^ 9)
    ∙ ap (with_sign (is_negative z)) e ∙ with_sign_abs z
