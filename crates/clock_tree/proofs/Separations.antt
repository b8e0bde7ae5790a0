-- The gaps of two clocks are the numbers that differ from the gap of their first edges by whole multiples of the
-- periods' divisor.
use Rattle.std.proofs.Common.{◌≡◌, ℕ, ◌+◌, ◌*◌, ◌/◌, ◌<◌, ◌≤◌, ℤ, pos, ◌+ℤ◌, ◌-ℤ◌, ◌≤ℤ◌, ◌<ℤ◌, ap, arith}
use Rattle.std.proofs.Math.Nat.{div-mul_cancel, lt_of_not-le, mul-le-mul_right}
use Rattle.std.proofs.lemmas.Int.{ints, by_lt_z}
use Rattle.std.specs.Int.{IsGcd}
use Rattle.timing_model.specs.Relation.{IsSeparation, IsSetup, IsHold, IsRelation}
use Rattle.clock_tree.proofs.Divisor.{IsDifference, IsDifference-from_IsGcd}
use Rattle.timing_types.specs.declared.edge_times.Relation.{Relation}

-- d is b - a, but for whole g
pub record IsShifted (a b g : ℕ) (d : ℤ) : Type 0 where
  pub up : ℕ
  pub down : ℕ
  pub same : d +ℤ pos (a + up * g) ≡ pos (b + down * g)

-- a gap is one
multiples : (a p b q p' q' g i j : ℕ) (d : ℤ) → p' * g ≡ p → q' * g ≡ q → (pos (b + j * q) -ℤ pos (a + i * p) ≡ d) → d +ℤ pos (a + (i * p') * g) ≡ pos (b + (j * q') * g)
multiples a p b q p' q' g i j d ep eq e = omega (arith, ints, ap (λ n. i * n) ep, ap (λ n. j * n) eq)

pub shifted_from_separation : (a p b q g : ℕ) (d : ℤ) → IsGcd p q g → IsSeparation (pos a) (pos p) (pos b) (pos q) d → IsShifted a b g d
shifted_from_separation a p b q g d h separation = record {
  up = separation.0 * (p / g);
  down = separation.1 * (q / g);
  same = multiples a p b q (p / g) (q / g) g separation.0 separation.1 d (div-mul_cancel g h.0) (div-mul_cancel g h.1) separation.2;
}

-- and one is a gap
sums : (a p b q g x y u v m n : ℕ) (d : ℤ) → x * p ≡ y * q + g → u * q ≡ v * p + g → d +ℤ pos (a + m * g) ≡ pos (b + n * g) → pos (b + (n * u + m * y) * q) -ℤ pos (a + (n * v + m * x) * p) ≡ d
sums a p b q g x y u v m n d above_q above_p e = omega (arith, ints, ap (λ k. m * k) above_q, ap (λ k. n * k) above_p)

pub separation_from_shifted : (a p b q g : ℕ) (d : ℤ) → IsDifference p q g → IsShifted a b g d → IsSeparation (pos a) (pos p) (pos b) (pos q) d
separation_from_shifted a p b q g d h s =
    (s.down * h.less_p + s.up * h.more_p, s.down * h.more_q + s.up * h.less_q, sums a p b q g h.more_p h.less_q h.more_q h.less_p s.up s.down d h.above_q h.above_p s.same)

-- two of them are g apart at least
further : (a b g m n m' n' : ℕ) (s d : ℤ) → s +ℤ pos (a + m * g) ≡ pos (b + n * g) → d +ℤ pos (a + m' * g) ≡ pos (b + n' * g) → s <ℤ d → (s +ℤ pos g) ≤ℤ d
further a b g m n m' n' s d e e' below =
    let not_fewer : ¬ (n' + m ≤ n + m') = λ le. let scaled : (n' + m) * g ≤ (n + m') * g = mul-le-mul_right g le in absurd (omega (arith, ints)) in
    let more : n + m' + 1 ≤ n' + m = let h : n + m' < n' + m = lt_of_not-le not_fewer in omega arith in
    let scaled : (n + m' + 1) * g ≤ (n' + m) * g = mul-le-mul_right g more in
    omega (arith, ints)

pub apart : (a b g : ℕ) (s d : ℤ) → IsShifted a b g s → IsShifted a b g d → s <ℤ d → (s +ℤ pos g) ≤ℤ d
apart a b g s d h h' below = further a b g h.up h.down h'.up h'.down s d h.same h'.same below

-- the one of them from 1 to g is the setup relation, and g less is the hold relation
pub setup_from_shifted : (a p b q g : ℕ) (s : ℤ) → IsGcd p q g → IsDifference p q g → IsShifted a b g s → pos 0 <ℤ s → s ≤ℤ pos g → IsSetup (pos a) (pos p) (pos b) (pos q) s
setup_from_shifted a p b q g s common difference h some most = (
  separation_from_shifted a p b q g s difference h,
  some,
  λ d separation positive.
      by_lt_z d s
      (λ below. let near : (d +ℤ pos g) ≤ℤ s = apart a b g d s (shifted_from_separation a p b q g d common separation) h below in absurd (omega (arith, ints)))
      (λ done. done),
)

pub hold_from_shifted : (a p b q g : ℕ) (s : ℤ) → IsGcd p q g → IsDifference p q g → IsShifted a b g s → (s ≤ℤ pos 0) → pos 0 <ℤ (s +ℤ pos g) → IsHold (pos a) (pos p) (pos b) (pos q) s
hold_from_shifted a p b q g s common difference h none next = (
  separation_from_shifted a p b q g s difference h,
  none,
  λ d separation small.
      by_lt_z s d
      (λ below. let near : (s +ℤ pos g) ≤ℤ d = apart a b g s d h (shifted_from_separation a p b q g d common separation) below in absurd (omega (arith, ints)))
      (λ done. done),
)

less : (a b g m n : ℕ) (s h : ℤ) → (h +ℤ pos g) ≡ s → s +ℤ pos (a + m * g) ≡ pos (b + n * g) → h +ℤ pos (a + (m + 1) * g) ≡ pos (b + n * g)
less a b g m n s h below e = omega (arith, ints)

pub IsRelation-from_shifted : (a p b q g : ℕ) (r : Relation) → 0 < p → 0 < q → IsGcd p q g → IsShifted a b g r.setup → pos 0 <ℤ r.setup → r.setup ≤ℤ pos g → (r.hold +ℤ pos g) ≡ r.setup → IsRelation (pos a) (pos p) (pos b) (pos q) r
IsRelation-from_shifted a p b q g r some_p some_q common h some most below =
    let difference = IsDifference-from_IsGcd p q g some_p some_q common in
    let shifted : IsShifted a b g r.hold = record { up = h.up + 1; down = h.down; same = less a b g h.up h.down r.setup r.hold below h.same } in
    record {
      setup = setup_from_shifted a p b q g r.setup common difference h some most;
      hold = hold_from_shifted a p b q g r.hold common difference shifted (omega (arith, ints)) (omega (arith, ints));
    }
