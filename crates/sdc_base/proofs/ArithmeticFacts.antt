-- Products and quotients of numbers on magnitudes, their signs, and that whole results have no decimals.
use Rattle.std.proofs.Common.{◌≡◌, ℕ, zero, suc, ◌+◌, ◌-◌, ◌*◌, ◌/◌, ◌%◌, ◌^◌, ◌<◌, min, true, not, cond, ℤ, pos, negsuc, refl, sym, ap, ◌∙◌, arith, lit<}
use Rattle.std.proofs.Math.Nat.{div-add-mod', mul-add-div_right}
use Rattle.std.specs.Int.{is_negative}
use Rattle.std.specs.Int.RustNames.{unsigned_abs}
use lib.IntN.{neg_ℤ, ◌*ℤ◌}
use Rattle.sdc_base.specs.Number.{nearest, with_sign}
use Rattle.sdc_base.specs.Arithmetic.{signs_differ}
use Rattle.sdc_base.proofs.CaseFacts.{by_bool}
use Rattle.sdc_base.proofs.NearestFacts.{nearest_small}
use Rattle.sdc_base.proofs.ReadBackFacts.{with_sign_zero}
use Rattle.sdc_base.proofs.TimeFacts.{pos_not_negative}

-- ---- the magnitude of a product

-- a whole number of divisors comes out of the rounding
pub nearest_more : (k n d : ℕ) → 0 < d → nearest (k * d + n) d ≡ k + nearest n d
unfolding nearest
nearest_more k n d h =
    let e : 2 * (k * d + n) + d ≡ k * (2 * d) + (2 * n + d) = grind arith in
    rw e (mul-add-div_right (omega arith) k (2 * n + d))

-- the product of the whole part, and that of the decimals
pub product_split : (a b : ℕ) → nearest (a * b) (10 ^ 9) ≡ a / 10 ^ 9 * b + nearest (a % 10 ^ 9 * b) (10 ^ 9)
product_split a b =
    let w : a / 10 ^ 9 * 10 ^ 9 + a % 10 ^ 9 ≡ a = div-add-mod' a (10 ^ 9) in
    let e : a * b ≡ a / 10 ^ 9 * b * 10 ^ 9 + a % 10 ^ 9 * b = ap (λ x. x * b) (sym w) ∙ (grind arith) in
    rw e (nearest_more (a / 10 ^ 9 * b) (a % 10 ^ 9 * b) (10 ^ 9) (lit< tt))

-- sums that stop at 2 ^ 128 - 1 are cut down to the limit all the same
pub product_capped : (a b w d s r : ℕ) → w ≡ min (a / 10 ^ 9 * b) (2 ^ 128 - 1) → d ≡ nearest (a % 10 ^ 9 * b) (10 ^ 9) → s ≡ min (w + d) (2 ^ 128 - 1) → r ≡ min s (10 ^ 24) → r ≡ min (nearest (a * b) (10 ^ 9)) (10 ^ 24)
product_capped a b w d s r h i j k = let e = product_split a b in omega arith

-- the product of numbers without decimals has none
pub product_whole : (a b : ℕ) → a % 10 ^ 9 ≡ 0 → b % 10 ^ 9 ≡ 0 → min (nearest (a * b) (10 ^ 9)) (10 ^ 24) % 10 ^ 9 ≡ 0
product_whole a b h i =
    let e = product_split a b in
    let k : a % 10 ^ 9 * b ≡ 0 = rw h (omega arith) in
    let z : nearest (a % 10 ^ 9 * b) (10 ^ 9) ≡ 0 = ap (λ x. nearest x (10 ^ 9)) k ∙ nearest_small 0 (10 ^ 9) (lit< tt) in
    let f : b ≡ 10 ^ 9 * (b / 10 ^ 9) = omega arith in
    let g : a / 10 ^ 9 * b ≡ 10 ^ 9 * (a / 10 ^ 9 * (b / 10 ^ 9)) = ap (λ x. a / 10 ^ 9 * x) f ∙ (grind arith) in
    omega arith

-- ---- signs

pub neg_is_negative : (n : ℕ) → 0 < n → is_negative (neg_ℤ (pos n)) ≡ true
neg_is_negative zero h = absurd (omega arith)
neg_is_negative (suc n) h = refl

pub negsuc_negative : (n : ℕ) → is_negative (negsuc n) ≡ true
negsuc_negative n = refl

-- with a divisor above 0 the dividend has the sign of the quotient
pub sign_over_pos : (z : ℤ) (d : ℕ) → signs_differ z (pos d) ≡ is_negative z
sign_over_pos z d =
    let e = pos_not_negative d in
    by_bool (λ b. cond b (not (is_negative (pos d))) (is_negative (pos d)) ≡ b) (is_negative z) (λ _. rw e refl) (λ _. e)

-- the sign of a product is that of its factors, where it has one
pub product_sign : (a b : ℤ) (m : ℕ) → (unsigned_abs a * unsigned_abs b ≡ 0 → m ≡ 0) → with_sign (is_negative (a *ℤ b)) m ≡ with_sign (signs_differ a b) m
product_sign (pos a) (pos b) m h = rw (pos_not_negative (a * b), pos_not_negative a, pos_not_negative b) refl
product_sign (pos zero) (negsuc b) m h =
    rw (h (omega arith)) (with_sign_zero (is_negative (pos 0 *ℤ negsuc b)) ∙ sym (with_sign_zero (signs_differ (pos 0) (negsuc b))))
product_sign (pos (suc a)) (negsuc b) m h =
    rw (neg_is_negative (suc a * suc b) (omega arith), pos_not_negative (suc a)) refl
product_sign (negsuc a) (pos zero) m h =
    rw (h (omega arith)) (with_sign_zero (is_negative (negsuc a *ℤ pos 0)) ∙ sym (with_sign_zero (signs_differ (negsuc a) (pos 0))))
product_sign (negsuc a) (pos (suc b)) m h =
    rw (neg_is_negative (suc a * suc b) (omega arith), pos_not_negative (suc b)) refl
product_sign (negsuc a) (negsuc b) m h = rw (pos_not_negative (suc a * suc b)) refl

pub scaled_sign : (a : ℤ) → is_negative (a *ℤ pos (10 ^ 9)) ≡ is_negative a
scaled_sign (pos a) = rw (pos_not_negative a, pos_not_negative (a * 10 ^ 9)) refl
scaled_sign (negsuc a) = neg_is_negative (suc a * 10 ^ 9) (omega arith)
