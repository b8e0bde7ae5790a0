-- The order of pairs as their comparison has it, and as rising lists have it.
use Rattle.std.proofs.Common.{◌≡◌, ◌≢◌, ◌<◌, ◌==◌, ◌||◌, ◌&&◌, ◌⊎◌, ℕ, true, min, max, nat_lt, sym, ◌∙◌, ap, arith}
use Rattle.std.proofs.lemmas.Bool.Decides.{nat_tests}
use Rattle.std.specs.BTreeMap.{is_at}
use Rattle.std.specs.Ordering.{is_eq, nat_cmp, ordering_then}
use Rattle.std.specs.declared.cmp.Ordering.TheVariants.{Less}
use Rattle.timing_types.specs.declared.clocks.Pair.{Pair}
use Rattle.clock_map.proofs.RisingPairs.{Before}
use Rattle.sdc_cli.specs.Exclusive.{pair_cmp, parts}

-- the order of pairs, as `cmp` has it
less_before : (a b c d : ℕ) → ordering_then (nat_cmp a b) (nat_cmp c d) ≡ Less → (a < b) ⊎ ((a ≡ b) × (c < d))
less_before a b c d e = grind (arith, nat_tests)

equal_same : (a b c d : ℕ) → is_eq (ordering_then (nat_cmp a b) (nat_cmp c d)) ≡ (a == b && c == d)
equal_same a b c d = grind (arith, nat_tests)

parted_key : (i j x y : ℕ) → i ≢ j → is_eq (ordering_then (nat_cmp (min i j) x) (nat_cmp (max i j) y)) ≡ (nat_lt x y && ((i == x && j == y) || (j == x && i == y)))
parted_key i j x y ne = grind (arith, nat_tests)

pub pair_is_parted : (i j : ℕ) (p q : Pair) → i ≢ j → p.first ≡ min i j → p.second ≡ max i j → is_at (pair_cmp p) q ≡ parts i j q
pair_is_parted i j p q different first second =
    ap (λ n. is_eq (ordering_then (nat_cmp n q.first) (nat_cmp p.second q.second))) first
    ∙ (ap (λ n. is_eq (ordering_then (nat_cmp (min i j) q.first) (nat_cmp n q.second))) second ∙ parted_key i j q.first q.second different)

pub before_from_less : (p q : Pair) → pair_cmp p q ≡ Less → Before p q
unfolding Before
before_from_less p q less = less_before p.first q.first p.second q.second less

two_true : (a b c d : ℕ) → (a == b && c == d) ≡ true → (a ≡ b) × (c ≡ d)
two_true a b c d e = grind (arith, nat_tests)

true_two : (a b c d : ℕ) → a ≡ b → c ≡ d → (a == b && c == d) ≡ true
true_two a b c d e f = grind (arith, nat_tests)

pub pair_is_same : (p q : Pair) → (is_at (pair_cmp p) q ≡ true → p ≡ q) × (p ≡ q → is_at (pair_cmp p) q ≡ true)
pair_is_same p q = (
  λ e. let same = two_true p.first q.first p.second q.second (sym (equal_same p.first q.first p.second q.second) ∙ e) in
      ap (λ a. record { first = a; second = p.second }) same.0 ∙ ap (λ b. record { first = q.first; second = b }) same.1,
  λ e. equal_same p.first q.first p.second q.second ∙ true_two p.first q.first p.second q.second (ap (λ (r : Pair). r.first) e) (ap (λ (r : Pair). r.second) e),
)
