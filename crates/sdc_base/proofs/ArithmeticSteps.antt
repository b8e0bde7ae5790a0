-- What each step of a sum, a product, a quotient or a remainder says of the number that is meant.
use Rattle.std.proofs.Common.{◌≡◌, ℕ, ◌+◌, ◌*◌, ◌/◌, ◌%◌, ◌^◌, ◌<◌, ◌≤◌, min, Bool, true, false, not, cond, nat_eq, nat_lt, Result, Ok, Err, ℤ, pos, refl, sym, ap, ◌∙◌, arith, lit<, lit≤}
use Rattle.std.proofs.Math.Nat.{div-le_self, div-le_of_le-mul, le-mul_of_pos_right}
use Rattle.std.proofs.lemmas.Bool.Decides.{nat_tests}
use Rattle.std.proofs.lemmas.Int.{ints, unsigned_abs-mul, fits_signed_mul, fits_signed_from_abs}
use Rattle.std.specs.Int.{w128, is_negative, div_ceil}
use Rattle.std.specs.Int.RustNames.{unsigned_abs}
use lib.IntN.{◌*ℤ◌, ◌+ℤ◌, ◌-ℤ◌}
use mir.Val.{SFits}
use Rattle.sdc_base.specs.Number.{Number, nearest, with_sign}
use Rattle.sdc_base.specs.Arithmetic.{signs_differ, rounded, floored, number_in, both_whole, sum_of, difference_of, product_of, quotient_of, remainder_of}
use Rattle.sdc_base.specs.declared.fixed.NumberError.{NumberError}
use Rattle.sdc_base.specs.declared.fixed.NumberError.TheVariants.{NumberRange, DivideByZero}
use Rattle.sdc_base.proofs.CaseFacts.{by_bool}
use Rattle.sdc_base.proofs.ReadFacts.{abs_with_sign}
use Rattle.sdc_base.proofs.ArithmeticFacts.{product_whole, sign_over_pos, product_sign, scaled_sign}
use Rattle.sdc_base.specs.ArithmeticLaws.{IsFloor}
use Rattle.sdc_base.proofs.FloorFacts.{IsFloor-floored, left_below, multiple_near}

-- ---- the range

pub number_in_below : (whole : Bool) (s : ℤ) (m : ℕ) → m ≡ unsigned_abs s → m < 10 ^ 24 → Ok (let n : Number = record { scaled = s; whole = whole } in n) ≡ number_in whole s
number_in_below whole s m e h =
    let t : nat_lt (unsigned_abs s) (10 ^ 24) ≡ true = grind (arith, nat_tests) in
    rw t refl

pub number_in_above : (whole : Bool) (s : ℤ) (m : ℕ) → m ≡ unsigned_abs s → 10 ^ 24 ≤ m → Err NumberRange ≡ number_in whole s
number_in_above whole s m e h =
    let t : nat_lt (unsigned_abs s) (10 ^ 24) ≡ false = grind (arith, nat_tests) in
    rw t refl

-- a magnitude may be cut down to the limit before it is tested
pub number_in_capped : (whole sign : Bool) (m : ℕ) → number_in whole (with_sign sign (min m (10 ^ 24))) ≡ number_in whole (with_sign sign m)
number_in_capped whole sign m =
    by_bool (λ b. nat_lt m (10 ^ 24) ≡ b → number_in whole (with_sign sign (min m (10 ^ 24))) ≡ number_in whole (with_sign sign m)) (nat_lt m (10 ^ 24))
    (λ _ t. let e : min m (10 ^ 24) ≡ m = grind (arith, nat_tests) in
    ap (λ x. number_in whole (with_sign sign x)) e)
    (λ _ t. let l : 10 ^ 24 ≤ m = grind (arith, nat_tests) in
    let c = min m (10 ^ 24) in
    sym (number_in_above whole (with_sign sign c) c (sym (abs_with_sign sign c)) (omega arith))
    ∙ number_in_above whole (with_sign sign m) m (sym (abs_with_sign sign m)) l) refl

-- ---- what has no decimals

pub multiple_difference : (x y : ℤ) → unsigned_abs x % 10 ^ 9 ≡ 0 → unsigned_abs y % 10 ^ 9 ≡ 0 → unsigned_abs (x -ℤ y) % 10 ^ 9 ≡ 0
multiple_difference x y h i = omega (arith, ints)

pub multiple_product : (q d : ℤ) → unsigned_abs d % 10 ^ 9 ≡ 0 → unsigned_abs (q *ℤ d) % 10 ^ 9 ≡ 0
multiple_product q d h =
    let f : unsigned_abs d ≡ 10 ^ 9 * (unsigned_abs d / 10 ^ 9) = omega arith in
    let g : unsigned_abs (q *ℤ d) ≡ 10 ^ 9 * (unsigned_abs q * (unsigned_abs d / 10 ^ 9)) =
    unsigned_abs-mul q d ∙ ap (λ x. unsigned_abs q * x) f ∙ (grind arith) in
    omega arith

-- ---- sums and differences

pub sum_is : (a b : Number) (w : Bool) (r : Result Number NumberError) → w ≡ both_whole a b → r ≡ number_in w (a.scaled +ℤ b.scaled) → r ≡ sum_of a b
unfolding sum_of
sum_is a b w r e h = h ∙ ap (λ x. number_in x (a.scaled +ℤ b.scaled)) e

pub difference_is : (a b : Number) (w : Bool) (r : Result Number NumberError) → w ≡ both_whole a b → r ≡ number_in w (a.scaled -ℤ b.scaled) → r ≡ difference_of a b
unfolding difference_of
difference_is a b w r e h = h ∙ ap (λ x. number_in x (a.scaled -ℤ b.scaled)) e

pub SFits_sum : (x y : ℤ) → unsigned_abs x < 10 ^ 24 → unsigned_abs y < 10 ^ 24 → SFits w128 (x +ℤ y)
SFits_sum x y h i = omega (arith, ints)

pub SFits_difference : (x y : ℤ) → unsigned_abs x < 10 ^ 24 → unsigned_abs y < 10 ^ 24 → SFits w128 (x -ℤ y)
SFits_difference x y h i = omega (arith, ints)

-- ---- products

nothing_nearest : (n : ℕ) → n ≡ 0 → nearest n (10 ^ 9) ≡ 0
unfolding nearest
nothing_nearest n h = rw h refl

-- the magnitude of a product, with the sign of its factors
rounded_product : (x y : ℤ) → rounded (x *ℤ y) (pos (10 ^ 9)) ≡ with_sign (signs_differ x y) (nearest (unsigned_abs x * unsigned_abs y) (10 ^ 9))
rounded_product x y =
    let m = nearest (unsigned_abs x * unsigned_abs y) (10 ^ 9) in
    ap (λ k. with_sign (signs_differ (x *ℤ y) (pos (10 ^ 9))) (nearest k (10 ^ 9))) (unsigned_abs-mul x y)
    ∙ ap (λ s. with_sign s m) (sign_over_pos (x *ℤ y) (10 ^ 9))
    ∙ product_sign x y m (nothing_nearest (unsigned_abs x * unsigned_abs y))

-- z is the product of x and y in units, cut down to the limit
pub record Multiplied (x y z : ℤ) : Type 0 where
  pub sign : Bool
  pub left : ℕ
  pub right : ℕ
  pub magnitude : ℕ
  pub sign_is : sign ≡ signs_differ x y
  pub left_is : left ≡ unsigned_abs x
  pub right_is : right ≡ unsigned_abs y
  pub magnitude_is : magnitude ≡ min (nearest (left * right) (10 ^ 9)) (10 ^ 24)
  pub is : z ≡ with_sign sign magnitude

multiplied : (x y z : ℤ) → Multiplied x y z → z ≡ with_sign (signs_differ x y) (min (nearest (unsigned_abs x * unsigned_abs y) (10 ^ 9)) (10 ^ 24))
multiplied x y z m = m.is ∙ rw (m.magnitude_is, m.sign_is, m.left_is, m.right_is) refl

pub product_is : (a b : Number) (w : Bool) (z : ℤ) (r : Result Number NumberError) → w ≡ both_whole a b → Multiplied a.scaled b.scaled z → r ≡ number_in w z → r ≡ product_of a b
unfolding product_of
product_is a b w z r e m h =
    let n = nearest (unsigned_abs a.scaled * unsigned_abs b.scaled) (10 ^ 9) in
    h ∙ rw (e, multiplied a.scaled b.scaled z m) (number_in_capped (both_whole a b) (signs_differ a.scaled b.scaled) n
    ∙ ap (number_in (both_whole a b)) (sym (rounded_product a.scaled b.scaled)))

pub product_decimals : (x y z : ℤ) → unsigned_abs x % 10 ^ 9 ≡ 0 → unsigned_abs y % 10 ^ 9 ≡ 0 → Multiplied x y z → unsigned_abs z % 10 ^ 9 ≡ 0
product_decimals x y z h i m =
    let c = min (nearest (unsigned_abs x * unsigned_abs y) (10 ^ 9)) (10 ^ 24) in
    ap (λ k. unsigned_abs k % 10 ^ 9) (multiplied x y z m) ∙ ap (λ k. k % 10 ^ 9) (abs_with_sign (signs_differ x y) c)
    ∙ product_whole (unsigned_abs x) (unsigned_abs y) h i

-- ---- quotients

divides_not : (y : ℤ) → unsigned_abs y ≡ 0 → nat_eq (unsigned_abs y) 0 ≡ true
divides_not y h = rw h refl

divides : (y : ℤ) → 0 < unsigned_abs y → nat_eq (unsigned_abs y) 0 ≡ false
divides y h = grind (arith, nat_tests)

pub quotient_none : (a b : Number) → unsigned_abs b.scaled ≡ 0 → Err DivideByZero ≡ quotient_of a b
unfolding quotient_of
quotient_none a b h = rw (divides_not b.scaled h) refl

pub quotient_whole : (a b : Number) (q : ℤ) (r : Result Number NumberError) → 0 < unsigned_abs b.scaled → both_whole a b ≡ true → q ≡ floored a.scaled b.scaled → r ≡ number_in true (q *ℤ pos (10 ^ 9)) → r ≡ quotient_of a b
unfolding quotient_of
quotient_whole a b q r some w e h = rw (divides b.scaled some, w) (h ∙ ap (λ x. number_in true (x *ℤ pos (10 ^ 9))) e)

rounded_quotient : (x y : ℤ) → rounded (x *ℤ pos (10 ^ 9)) y ≡ with_sign (signs_differ x y) (nearest (unsigned_abs x * 10 ^ 9) (unsigned_abs y))
rounded_quotient x y =
    let m = nearest (unsigned_abs x * 10 ^ 9) (unsigned_abs y) in
    ap (λ k. with_sign (signs_differ (x *ℤ pos (10 ^ 9)) y) (nearest k (unsigned_abs y))) (unsigned_abs-mul x (pos (10 ^ 9)))
    ∙ ap (λ s. with_sign (cond s (not (is_negative y)) (is_negative y)) m) (scaled_sign x)

-- z is the quotient of x and y in units, to nearest
pub record Divided (x y z : ℤ) : Type 0 where
  pub sign : Bool
  pub dividend : ℕ
  pub divisor : ℕ
  pub magnitude : ℕ
  pub sign_is : sign ≡ signs_differ x y
  pub dividend_is : dividend ≡ unsigned_abs x
  pub divisor_is : divisor ≡ unsigned_abs y
  pub magnitude_is : magnitude ≡ nearest (dividend * 10 ^ 9) divisor
  pub is : z ≡ with_sign sign magnitude

pub quotient_rounded : (a b : Number) (z : ℤ) (r : Result Number NumberError) → 0 < unsigned_abs b.scaled → both_whole a b ≡ false → Divided a.scaled b.scaled z → r ≡ number_in false z → r ≡ quotient_of a b
unfolding quotient_of
quotient_rounded a b z r some w d h =
    let e : z ≡ with_sign (signs_differ a.scaled b.scaled) (nearest (unsigned_abs a.scaled * 10 ^ 9) (unsigned_abs b.scaled)) =
    d.is ∙ rw (d.magnitude_is, d.sign_is, d.dividend_is, d.divisor_is) refl in
    rw (divides b.scaled some, w) (h ∙ ap (number_in false) (e ∙ sym (rounded_quotient a.scaled b.scaled)))

-- a rounded quotient is hardly above its dividend
pub nearest_below : (n d : ℕ) → 0 < d → nearest n d ≤ n + 1
unfolding nearest
nearest_below n d h =
    let e : n ≤ n * d = le-mul_of_pos_right n h in
    let f : 2 * d * (n + 1) ≡ 2 * (n * d) + 2 * d = grind arith in
    div-le_of_le-mul (2 * d) (omega (arith, e, f))

pub quotient_bound : (u v m : ℕ) → u < 10 ^ 24 → 0 < v → m ≡ nearest (u * 10 ^ 9) v → m < 2 ^ 127
quotient_bound u v m h i e = let b = nearest_below (u * 10 ^ 9) v i in omega arith

pub floored_near : (n d : ℤ) (m : ℕ) → unsigned_abs n < m → unsigned_abs (floored n d) ≤ m
floored_near n d m h =
    let q = div-le_self (unsigned_abs n) (unsigned_abs d) in
    let c = div_ceil (unsigned_abs n) (unsigned_abs d) in
    by_bool (λ b. unsigned_abs (cond b (with_sign true c) (with_sign false (unsigned_abs n / unsigned_abs d))) ≤ m) (signs_differ n d)
    (λ _. rw (abs_with_sign true c) (omega arith))
    (λ _. omega arith)

pub SFits_quotient : (n d q : ℤ) → unsigned_abs n < 10 ^ 24 → q ≡ floored n d → SFits w128 (q *ℤ pos (10 ^ 9))
SFits_quotient n d q h e =
    let l : unsigned_abs q ≤ 10 ^ 24 = rw e (floored_near n d (10 ^ 24) h) in
    fits_signed_mul w128 q (pos (10 ^ 9)) (10 ^ 24) (10 ^ 9) l (lit≤ tt) (lit< tt)

pub quotient_decimals : (q : ℤ) → unsigned_abs (q *ℤ pos (10 ^ 9)) % 10 ^ 9 ≡ 0
quotient_decimals q = multiple_product q (pos (10 ^ 9)) refl

-- ---- remainders

pub remainder_none : (a b : Number) → unsigned_abs b.scaled ≡ 0 → Err DivideByZero ≡ remainder_of a b
unfolding remainder_of
remainder_none a b h = rw (divides_not b.scaled h) refl

pub remainder_some : (a b : Number) (q : ℤ) → 0 < unsigned_abs b.scaled → q ≡ floored a.scaled b.scaled → Ok (let n : Number = record { scaled = a.scaled -ℤ (q *ℤ b.scaled); whole = true } in n) ≡ remainder_of a b
unfolding remainder_of
remainder_some a b q some e = rw (divides b.scaled some, e) refl

-- what is left after q times y is a whole number again, and neither passes 128 bits on the way
pub record Leaves (x y q : ℤ) : Type 0 where
  pub product : SFits w128 (q *ℤ y)
  pub rest : SFits w128 (x -ℤ (q *ℤ y))
  pub below : unsigned_abs (x -ℤ (q *ℤ y)) < 10 ^ 24
  pub decimals : unsigned_abs (x -ℤ (q *ℤ y)) % 10 ^ 9 ≡ 0

pub Leaves_floored : (x y q : ℤ) → unsigned_abs x < 10 ^ 24 → unsigned_abs y < 10 ^ 24 → unsigned_abs x % 10 ^ 9 ≡ 0 → unsigned_abs y % 10 ^ 9 ≡ 0 → 0 < unsigned_abs y → q ≡ floored x y → Leaves x y q
Leaves_floored x y q a b v w some e =
    let f : IsFloor x y q = rw e (IsFloor-floored x y some) in
    let near = multiple_near x y q some f in
    let left = left_below x y q some f in
    let l : unsigned_abs (x -ℤ (q *ℤ y)) < 10 ^ 24 = omega arith in
    record {
      product = fits_signed_from_abs w128 (q *ℤ y) (omega arith);
      rest = fits_signed_from_abs w128 (x -ℤ (q *ℤ y)) (omega arith);
      below = l;
      decimals = multiple_difference x (q *ℤ y) v (multiple_product q y w);
    }
