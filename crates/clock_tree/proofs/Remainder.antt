-- From the code's remainder to the relation: one more than the remainder of `b - a - 1` is the number from 1 to g that
-- is `b - a` but for whole g.
use Rattle.std.proofs.Common.{◌≡◌, ℕ, ◌+◌, ◌-◌, ◌*◌, ◌/◌, ◌%◌, ◌^◌, ◌<◌, ◌≤◌, ℤ, pos, negsuc, ◌+ℤ◌, ◌-ℤ◌, ◌≤ℤ◌, ◌<ℤ◌, refl, sym, ◌∙◌, ap, subst, arith, unsigned_abs, to_z, of_z, w64}
use mir.Val.{SFits}
use Rattle.std.proofs.Math.Nat.{div-add-mod, mul-le-mul_left, pos_of_dvd_of_pos}
use Rattle.std.proofs.lemmas.Int.{ints, int_rem_euclid_is, to_z-of_z}
use Rattle.std.proofs.lemmas.Nat.Gcd.{le_of_dvd}
use Rattle.std.specs.Int.{IsGcd, IsNonNegative, int_rem_euclid}
use Rattle.timing_model.specs.Relation.{IsEdgeOf, IsRelation}
use Rattle.timing_types.specs.declared.edge_times.Relation.{Relation}
use Rattle.clock_tree.proofs.Separations.{IsShifted, IsRelation-from_shifted}

-- one more than the remainder, in ℕ: m is `b - a - 1`, with so many g that it is no less than 0
next : (a b g m k t : ℕ) (s : ℤ) → m + a + 1 ≡ b + (a + 1) * g → g * k + t ≡ m → s ≡ pos (t + 1) → s +ℤ pos (a + k * g) ≡ pos (b + (a + 1) * g)
next a b g m k t s start split e = omega (arith, ints)

remainder_shifted : (a b g : ℕ) (s : ℤ) → 0 < g → s ≡ (int_rem_euclid ((pos b -ℤ pos a) -ℤ pos 1) (pos g) +ℤ pos 1) → IsShifted a b g s × (pos 0 <ℤ s) × (s ≤ℤ pos g)
remainder_shifted a b g s some e =
    let m = b + (a + 1) * g - (a + 1) in
    let enough : (a + 1) * 1 ≤ (a + 1) * g = mul-le-mul_left (a + 1) some in
    let start : m + a + 1 ≡ b + (a + 1) * g = omega arith in
    let is : int_rem_euclid ((pos b -ℤ pos a) -ℤ pos 1) (pos g) ≡ pos (m % g) = int_rem_euclid_is ((pos b -ℤ pos a) -ℤ pos 1) (pos g) g (a + 1) m some refl (omega (arith, ints)) in
    let value : s ≡ pos (m % g + 1) = e ∙ ap (λ z. z +ℤ pos 1) is in
    let below : m % g < g = omega arith in
    (record { up = m / g; down = a + 1; same = next a b g m (m / g) (m % g) s start (div-add-mod m g) value }, omega (arith, ints), omega (arith, ints))

-- the divisor of two periods is above 0, and no greater than a period may be
divisor_range : (a p q : ℤ) (g : ℕ) → IsEdgeOf a p → IsGcd (unsigned_abs p) (unsigned_abs q) g → (0 < g) × (g ≤ 10 ^ 12)
divisor_range a (pos p) q g launch common =
    let some : 0 < p = omega (arith, ints) in
    let most : p ≤ 10 ^ 12 = omega (arith, ints) in
    let least : g ≤ p = le_of_dvd some common.0 in
    (pos_of_dvd_of_pos common.0 some, omega arith)
divisor_range a (negsuc p) q g launch common = absurd (omega (arith, ints))

IsRelation-from_remainder : (a p b q : ℤ) (g : ℕ) (r : Relation) → IsEdgeOf a p → IsEdgeOf b q → IsGcd (unsigned_abs p) (unsigned_abs q) g → r.setup ≡ (int_rem_euclid ((b -ℤ a) -ℤ pos 1) (pos g) +ℤ pos 1) → r.hold ≡ (r.setup -ℤ pos g) → IsRelation a p b q r
IsRelation-from_remainder (pos a) (pos p) (pos b) (pos q) g r launch capture common setup hold =
    let some : 0 < g = (divisor_range (pos a) (pos p) (pos q) g launch common).0 in
    let s = remainder_shifted a b g r.setup some setup in
    IsRelation-from_shifted a p b q g r (omega (arith, ints)) (omega (arith, ints)) common s.0 s.1 s.2 (omega (arith, ints))
IsRelation-from_remainder (negsuc a) p b q g r launch capture common setup hold = absurd (omega (arith, ints))
IsRelation-from_remainder a (negsuc p) b q g r launch capture common setup hold = absurd (omega (arith, ints))
IsRelation-from_remainder a p (negsuc b) q g r launch capture common setup hold = absurd (omega (arith, ints))
IsRelation-from_remainder a p b (negsuc q) g r launch capture common setup hold = absurd (omega (arith, ints))

-- ---- the same in the terms that the code leaves, where each number has been through 64 bits

-- g is the greatest common divisor of the periods
pub record IsStep (p q : ℤ) (g : ℕ) : Type 0 where
  pub common : IsGcd (unsigned_abs p) (unsigned_abs q) g
  pub some : 0 < g
  pub most : g ≤ 10 ^ 12

pub IsStep-from_lengths : (a p q : ℤ) (m n g : ℕ) → SFits w64 p → SFits w64 q → IsEdgeOf a p → m ≡ unsigned_abs (to_z w64 (of_z w64 p)) → n ≡ unsigned_abs (to_z w64 (of_z w64 q)) → IsGcd m n g → IsStep p q g
IsStep-from_lengths a p q m n g fits_p fits_q launch first second h =
    let common = subst (λ k. IsGcd k (unsigned_abs q) g) (simp to_z-of_z at first) (subst (λ k. IsGcd m k g) (simp to_z-of_z at second) h) in
    let range = divisor_range a p q g launch common in
    record { common = common; some = range.0; most = range.1 }

pub IsRelation-from_code : (a p b q rest : ℤ) (g : ℕ) → IsEdgeOf a p → IsEdgeOf b q → IsStep p q g → rest ≡ int_rem_euclid (to_z w64 (of_z w64 (to_z w64 (of_z w64 (to_z w64 (of_z w64 b) -ℤ to_z w64 (of_z w64 a))) -ℤ pos 1))) (to_z w64 g) → IsNonNegative rest → unsigned_abs rest < unsigned_abs (to_z w64 g) → IsRelation a p b q (record { setup = to_z w64 (of_z w64 (to_z w64 (of_z w64 rest) +ℤ pos 1)); hold = to_z w64 (of_z w64 (to_z w64 (of_z w64 (to_z w64 (of_z w64 rest) +ℤ pos 1)) -ℤ to_z w64 g)) })
IsRelation-from_code a p b q (pos t) g launch capture step value none below =
    let start : to_z w64 (of_z w64 (to_z w64 (of_z w64 (to_z w64 (of_z w64 b) -ℤ to_z w64 (of_z w64 a))) -ℤ pos 1)) ≡ ((b -ℤ a) -ℤ pos 1) = omega (arith, ints) in
    let divisor : to_z w64 g ≡ pos g = omega (arith, ints) in
    let rest_is : pos t ≡ int_rem_euclid ((b -ℤ a) -ℤ pos 1) (pos g) = rw (← start, ← divisor) value in
    let small : t < g = rw divisor at below in
    let setup_is : to_z w64 (of_z w64 (to_z w64 (of_z w64 (pos t)) +ℤ pos 1)) ≡ (pos t +ℤ pos 1) = omega (arith, ints) in
    let hold_is : to_z w64 (of_z w64 (to_z w64 (of_z w64 (to_z w64 (of_z w64 (pos t)) +ℤ pos 1)) -ℤ to_z w64 g)) ≡ ((pos t +ℤ pos 1) -ℤ pos g) = omega (arith, ints) in
    IsRelation-from_remainder a p b q g _ launch capture step.common (setup_is ∙ ap (λ z. z +ℤ pos 1) rest_is) (hold_is ∙ ap (λ z. z -ℤ pos g) (sym setup_is))
IsRelation-from_code a p b q (negsuc t) g launch capture step value none below = absurd (omega (arith, ints))
