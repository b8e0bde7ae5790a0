-- Quotients of whole numbers rounded towards minus infinity, and what they leave.
use Rattle.std.proofs.Common.{◌≡◌, ℕ, zero, suc, ◌+◌, ◌*◌, ◌/◌, ◌%◌, ◌<◌, ◌≤◌, min, ℤ, pos, negsuc, subst, arith}
use Rattle.std.proofs.Math.Nat.{div-add-mod', mul-le-mul_right}
use Rattle.std.proofs.lemmas.Int.{ints, by_lt_z}
use Rattle.std.proofs.lemmas.Nat.{mod_below}
use Rattle.std.specs.Int.{div_ceil}
use Rattle.std.specs.Int.RustNames.{unsigned_abs}
use borrow.Author.Differences.{up, down}
use lib.IntN.{neg_ℤ, ◌*ℤ◌, ◌-ℤ◌}
use lib.Signed.{◌<ℤ◌}
use Rattle.sdc_base.specs.Arithmetic.{floored}
use Rattle.sdc_base.specs.ArithmeticLaws.{IsFloor, FlooredIsFloor}
use Rattle.sdc_base.proofs.TimeFacts.{pos_not_negative}

-- the multiple of k that is next below m, and the one that is next above
pub floor_bounds : (m k : ℕ) → 0 < k → (m / k * k ≤ m) × (m < m / k * k + k)
floor_bounds m k h = let w = div-add-mod' m k in let b = mod_below m k h in (omega arith, omega arith)

ceil_by : (q r k m : ℕ) → q * k + r ≡ m → r < k → (m ≤ (q + min 1 r) * k) × ((q + min 1 r) * k < m + k)
ceil_by q zero k m e h = (omega arith, omega arith)
ceil_by q (suc r) k m e h =
    let o : min 1 (suc r) ≡ 1 = omega arith in
    rw o (omega arith, omega arith)

pub ceil_bounds : (m k : ℕ) → 0 < k → (m ≤ div_ceil m k * k) × (div_ceil m k * k < m + k)
ceil_bounds m k h = ceil_by (m / k) (m % k) k m (div-add-mod' m k) (mod_below m k h)

-- ---- by the signs of dividend and divisor

both_positive : (a b q : ℕ) → (q * b ≤ a) × (a < q * b + b) → IsFloor (pos a) (pos b) (pos q)
both_positive a b q h = record {
  over_positive = λ _. (omega (arith, ints), omega (arith, ints));
  over_negative = λ l. absurd (omega (arith, ints));
}

first_negative : (a b c : ℕ) → (suc a ≤ c * b) × (c * b < suc a + b) → IsFloor (negsuc a) (pos b) (neg_ℤ (pos c))
first_negative a b zero h = absurd (omega arith)
first_negative a b (suc c) h = record {
  over_positive = λ _. (omega (arith, ints), omega (arith, ints));
  over_negative = λ l. absurd (omega (arith, ints));
}

second_negative : (a b c : ℕ) → (a ≤ c * suc b) × (c * suc b < a + suc b) → IsFloor (pos a) (negsuc b) (neg_ℤ (pos c))
second_negative a b zero h = record {
  over_positive = λ l. absurd (omega (arith, ints));
  over_negative = λ _. (omega (arith, ints), omega (arith, ints));
}
second_negative a b (suc c) h = record {
  over_positive = λ l. absurd (omega (arith, ints));
  over_negative = λ _. (omega (arith, ints), omega (arith, ints));
}

both_negative : (a b q : ℕ) → (q * suc b ≤ suc a) × (suc a < q * suc b + suc b) → IsFloor (negsuc a) (negsuc b) (pos q)
both_negative a b q h = record {
  over_positive = λ l. absurd (omega (arith, ints));
  over_negative = λ _. (omega (arith, ints), omega (arith, ints));
}

pub IsFloor-floored : (n d : ℤ) → 0 < unsigned_abs d → IsFloor n d (floored n d)
IsFloor-floored (pos a) (pos b) h = rw (pos_not_negative a, pos_not_negative b) (both_positive a b (a / b) (floor_bounds a b h))
IsFloor-floored (negsuc a) (pos b) h = rw (pos_not_negative b) (first_negative a b (div_ceil (suc a) b) (ceil_bounds (suc a) b h))
IsFloor-floored (pos a) (negsuc b) h = rw (pos_not_negative a) (second_negative a b (div_ceil a (suc b)) (ceil_bounds a (suc b) h))
IsFloor-floored (negsuc a) (negsuc b) h = both_negative a b (suc a / suc b) (floor_bounds (suc a) (suc b) h)

-- ---- there is one

not_below : (n d p q : ℤ) → IsFloor n d p → IsFloor n d q → 0 < unsigned_abs d → p <ℤ q → ⊥
not_below n (pos b) p q f g h l =
    let x = f.over_positive (omega (arith, ints)) in
    let y = g.over_positive (omega (arith, ints)) in
    let i : up p + 1 + down q ≤ up q + down p = omega (arith, ints) in
    let j = mul-le-mul_right b i in
    omega (arith, ints)
not_below n (negsuc b) p q f g h l =
    let x = f.over_negative (omega (arith, ints)) in
    let y = g.over_negative (omega (arith, ints)) in
    let i : up p + 1 + down q ≤ up q + down p = omega (arith, ints) in
    let j = mul-le-mul_right (suc b) i in
    omega (arith, ints)

pub floor_once : (n d p q : ℤ) → 0 < unsigned_abs d → IsFloor n d p → IsFloor n d q → p ≡ q
floor_once n d p q h f g =
    by_lt_z p q (λ l. absurd (not_below n d p q f g h l))
    (λ le. by_lt_z q p (λ l. absurd (not_below n d q p g f h l)) (λ ge. omega (arith, ints)))

pub floored_is_floor : (n d : ℤ) → FlooredIsFloor n d
floored_is_floor n d q h = (
  λ e. subst (IsFloor n d) e (IsFloor-floored n d h),
  λ f. floor_once n d (floored n d) q h (IsFloor-floored n d h) f,
)

-- ---- what is left

pub left_below : (n d q : ℤ) → 0 < unsigned_abs d → IsFloor n d q → unsigned_abs (n -ℤ (q *ℤ d)) < unsigned_abs d
left_below n (pos b) q h f =
    let x = f.over_positive (omega (arith, ints)) in
    omega (arith, ints)
left_below n (negsuc b) q h f =
    let x = f.over_negative (omega (arith, ints)) in
    omega (arith, ints)

pub multiple_near : (n d q : ℤ) → 0 < unsigned_abs d → IsFloor n d q → unsigned_abs (q *ℤ d) < unsigned_abs n + unsigned_abs d
multiple_near n d q h f = let l = left_below n d q h f in omega (arith, ints)
