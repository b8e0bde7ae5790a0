-- The greatest common divisor of two periods is a difference of whole multiples of them, either way round.
use Rattle.std.proofs.Common.{◌≡◌, ℕ, zero, suc, ◌+◌, ◌-◌, ◌*◌, ◌/◌, ◌%◌, ◌<◌, ◌≤◌, inl, inr, sym, subst, ap, arith}
use Rattle.std.proofs.Math.Nat.{div-add-mod, eq-or-lt_of_le}
use Rattle.std.proofs.lemmas.Nat.Gcd.{IsGcd-from_zero, IsGcd-from_mod, same_from_IsGcd}
use Rattle.std.specs.Int.{IsGcd}

-- g is so many p above so many q, and so many q above so many p
pub record IsDifference (p q g : ℕ) : Type 0 where
  pub more_p : ℕ
  pub less_q : ℕ
  pub more_q : ℕ
  pub less_p : ℕ
  pub above_q : more_p * p ≡ less_q * q + g
  pub above_p : more_q * q ≡ less_p * p + g

-- from the remainder r to p
forward : (p q k r g u v : ℕ) → q * k + r ≡ p → u * r ≡ v * q + g → u * p ≡ (u * k + v) * q + g
forward p q k r g u v split e = omega (arith, ap (λ n. u * n) split)

backward : (p q k r g x y : ℕ) → q * k + r ≡ p → x * q ≡ y * r + g → (x + y * k) * q ≡ y * p + g
backward p q k r g x y split e = omega (arith, ap (λ n. y * n) split)

step : (p q g : ℕ) → IsDifference q (p % q) g → IsDifference p q g
step p q g d =
    let split = div-add-mod p q in
    record {
      more_p = d.more_q;
      less_q = d.more_q * (p / q) + d.less_p;
      more_q = d.more_p + d.less_q * (p / q);
      less_p = d.less_q;
      above_q = forward p q (p / q) (p % q) g d.more_q d.less_p split d.above_p;
      above_p = backward p q (p / q) (p % q) g d.more_p d.less_q split d.above_q;
    }

-- q fits into its multiple p at least once
once : (p q k : ℕ) → 0 < p → q * k + 0 ≡ p → 1 ≤ k
once p q zero some e = absurd (omega arith)
once p q (suc k) some e = omega arith

above : (p q k : ℕ) → 1 ≤ k → q * k + 0 ≡ p → 1 * p ≡ (k - 1) * q + q
above p q k least split = let same : k - 1 + 1 ≡ k = omega arith in omega (arith, ap (λ n. n * q) same)

-- where nothing is left over, q itself is the divisor
last : (p q : ℕ) → 0 < p → p % q ≡ 0 → IsDifference p q q
last p q some none =
    let split : q * (p / q) + 0 ≡ p = rw none at (div-add-mod p q) in
    let k = p / q in
    let least : 1 ≤ k = once p q k some split in
    record {
      more_p = 1;
      less_q = k - 1;
      more_q = 1;
      less_p = 0;
      above_q = above p q k least split;
      above_p = omega arith;
    }

-- a greatest common divisor that is such a difference, where q is at most n
found : (n p q : ℕ) → 0 < p → 0 < q → q ≤ n → (g : ℕ) × (IsGcd p q g × IsDifference p q g)
found zero p q some_p some_q le = absurd (omega arith)
found (suc n) p q some_p some_q le =
    let below : p % q < q = omega arith in
    elim (eq-or-lt_of_le {n = 0} {m = p % q} (omega arith)) [
      | inl none ↦ (q, (IsGcd-from_mod p q q (IsGcd-from_zero q (p % q) (sym none)), last p q some_p (sym none)))
      | inr some ↦
          let deeper = found n q (p % q) some_q some (omega arith) in
          (deeper.0, (IsGcd-from_mod p q deeper.0 deeper.1.0, step p q deeper.0 deeper.1.1))
    ]

-- so is the greatest common divisor
pub IsDifference-from_IsGcd : (p q g : ℕ) → 0 < p → 0 < q → IsGcd p q g → IsDifference p q g
IsDifference-from_IsGcd p q g some_p some_q h =
    let some = found q p q some_p some_q (omega arith) in
    let same : some.0 ≡ g = same_from_IsGcd p q some.0 g some.1.0 h in
    subst (λ n. IsDifference p q n) same some.1.1
