-- Bits of the numbers of completions.
use Rattle.std.proofs.Common.{◌≡◌, ◌+◌, ◌-◌, ◌*◌, ◌/◌, ◌%◌, ◌^◌, ◌<◌, ◌≤◌, ℕ, suc, zero, sym, ◌∙◌, ap, subst, arith, lit≤}
use Rattle.std.proofs.Math.Nat.{pow-le-pow_right, mul-div_cancel}
use Rattle.std.proofs.Math.Pow.{mod-mod-pow}
use Rattle.std.proofs.lemmas.Nat.{mod-pow-add, pow_pos}
use Rattle.std.proofs.lemmas.Nat.Bits.{bit_at-suc, bit_at_lowest}
use Rattle.std.specs.Int.{bit_at}

-- the completions of at most ten inputs
pub few_completions : (n : ℕ) → n ≤ 10 → 2 ^ n ≤ 1024
few_completions n h = pow-le-pow_right {n = 2} (lit≤ tt) {i = n} {j = 10} h

pub doubled : (n : ℕ) → 2 ^ suc n ≡ 2 * 2 ^ n
doubled n = omega arith

-- a completion with a pin at 0 has room for the pin
pub with_pin_within : (pin n c : ℕ) → pin < n → c < 2 ^ n → bit_at c pin ≡ 0 → c + 2 ^ pin < 2 ^ n
with_pin_within pin zero c below within at_zero = absurd (omega arith)
with_pin_within zero (suc n) c below within at_zero = let e : c % 2 ≡ 0 = sym (bit_at_lowest c) ∙ at_zero in let d : 2 ^ suc n ≡ 2 * 2 ^ n = doubled n in let g : c + 1 < 2 ^ suc n = omega arith in g
with_pin_within (suc pin) (suc n) c below within at_zero =
    let e : bit_at (c / 2) pin ≡ 0 = sym (bit_at-suc c pin) ∙ at_zero in
    let d : 2 ^ suc n ≡ 2 * 2 ^ n = doubled n in
    let q : 2 ^ suc pin ≡ 2 * 2 ^ pin = doubled pin in
    let half : c / 2 < 2 ^ n = omega arith in
    let less : pin < n = omega arith in
    let h : c / 2 + 2 ^ pin < 2 ^ n = with_pin_within pin n (c / 2) less half e in
    omega arith

-- the bits up to a place are that bit and those below it
pub parts : (value pin : ℕ) → value % 2 ^ suc pin ≡ bit_at value pin * 2 ^ pin + value % 2 ^ pin
parts value pin = let e : suc pin ≡ 1 + pin = omega arith in
    subst (λ m. value % 2 ^ m ≡ bit_at value pin * 2 ^ pin + value % 2 ^ pin) (sym e) (mod-pow-add value 1 pin)

-- numbers with equal ends and sums have equal bits
pub same_bit : (power a b up up' low low' : ℕ) → 0 < power → up ≡ a * power + low → up' ≡ b * power + low' → up ≡ up' → low ≡ low' → a ≡ b
same_bit power a b up up' low low' positive e e' same below =
    let h : a * power ≡ b * power = omega (arith, e, e', same, below) in
    sym (mul-div_cancel a positive) ∙ (ap (λ x. x / power) h ∙ mul-div_cancel b positive)

-- a number cut to so many bits keeps them
pub bit_of_cut : (n value pin : ℕ) → pin < n → bit_at (value % 2 ^ n) pin ≡ bit_at value pin
bit_of_cut n value pin below =
    let k : n ≡ (n - suc pin) + suc pin = omega arith in
    let whole : value % 2 ^ n % 2 ^ suc pin ≡ value % 2 ^ suc pin =
    subst (λ m. value % 2 ^ m % 2 ^ suc pin ≡ value % 2 ^ suc pin) (sym k) (mod-mod-pow value (n - suc pin) (suc pin)) in
    let j : n ≡ (n - pin) + pin = omega arith in
    let low : value % 2 ^ n % 2 ^ pin ≡ value % 2 ^ pin =
    subst (λ m. value % 2 ^ m % 2 ^ pin ≡ value % 2 ^ pin) (sym j) (mod-mod-pow value (n - pin) pin) in
    same_bit (2 ^ pin) (bit_at (value % 2 ^ n) pin) (bit_at value pin) _ _ _ _ (pow_pos pin)
    (parts (value % 2 ^ n) pin) (parts value pin) whole low
