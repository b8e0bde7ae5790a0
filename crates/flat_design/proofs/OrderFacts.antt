-- An order of modules has each module once, so that it is no longer than the modules are many.
use Rattle.std.proofs.Common.{◌≡◌, ◌+◌, ◌<◌, ◌≤◌, ◌==◌, inl, inr, ℕ, zero, suc, Bool, true, false, List, [], ◌∷◌, ◌++◌, length, take, refl, ◌∙◌, ap, subst, arith}
use Rattle.std.proofs.lemmas.Bool.{cases_eq, eq-eqb, or_right}
use Rattle.text_model.proofs.ListFacts.{element_at}
use Rattle.flat_design.specs.declared.elaborate.walk.Step.{Step}
use Rattle.flat_design.specs.Walk.{AreOrdered, is_in}
use Rattle.flat_design.proofs.PlaceFacts.{take_none, take_one}
use Rattle.flat_design.proofs.WalkSteps.{in_push, in_push_other}

abbrev one_unless : Bool → ℕ
one_unless true = 0
one_unless false = 1

-- how many numbers below one are not among these
abbrev left_out : List ℕ → ℕ → ℕ
left_out xs zero = 0
left_out xs (suc n) = one_unless (is_in xs n) + left_out xs n

-- one more number leaves those below it
kept_below : (xs : List ℕ) (m n : ℕ) → n ≤ m → left_out (xs ++ m ∷ []) n ≡ left_out xs n
kept_below xs m zero low = refl
kept_below xs m (suc n) low =
    let one : one_unless (is_in (xs ++ m ∷ []) n) ≡ one_unless (is_in xs n) = ap one_unless (in_push_other xs m n (λ same. omega (arith, low, same))) in
    let rest = kept_below xs m n (omega (arith, low)) in
    omega (arith, one, rest)

-- and is one fewer above it
one_fewer : (xs : List ℕ) (m n : ℕ) → m < n → is_in xs m ≡ false → left_out (xs ++ m ∷ []) n + 1 ≡ left_out xs n
one_fewer xs m zero low none = absurd (omega (arith, low))
one_fewer xs m (suc n) low none =
    elim (cases_eq m n) [
      | inl same ↦
          let has : is_in (xs ++ m ∷ []) n ≡ true = in_push xs m n ∙ or_right (is_in xs n) (m == n) (eq-eqb m n same) in
          let lacks : is_in xs n ≡ false = subst (λ (k : ℕ). is_in xs k ≡ false) same none in
          let new : one_unless (is_in (xs ++ m ∷ []) n) ≡ 0 = ap one_unless has in
          let old : one_unless (is_in xs n) ≡ 1 = ap one_unless lacks in
          let rest = kept_below xs m n (omega (arith, same)) in
          omega (arith, new, old, rest)
      | inr distinct ↦
          let one : one_unless (is_in (xs ++ m ∷ []) n) ≡ one_unless (is_in xs n) = ap one_unless (in_push_other xs m n distinct) in
          let rest = one_fewer xs m n (omega (arith, low, distinct)) none in
          omega (arith, one, rest)
    ]

none_in : (n : ℕ) → left_out [] n ≡ n
none_in zero = refl
none_in (suc n) = let rest = none_in n in omega (arith, rest)

so_many : (all : List (List Step)) (order : List ℕ) → AreOrdered all order → (k : ℕ) → k ≤ length order → left_out (take k order) (length all) + k ≡ length all
so_many all order ordered zero low =
    let a = ap (λ (xs : List ℕ). left_out xs (length all)) (take_none order) in
    let b = none_in (length all) in
    omega (arith, a, b)
so_many all order ordered (suc k) low =
    let here = element_at order k (omega (arith, low)) in
    let own = ordered k here.0 here.1 in
    let before = so_many all order ordered k (omega (arith, low)) in
    let fewer = one_fewer (take k order) here.0 (length all) own.0 own.1 in
    let same : suc k ≡ k + 1 = omega arith in
    let more = ap (λ (xs : List ℕ). left_out xs (length all)) (ap (λ (n : ℕ). take n order) same ∙ take_one order k here.0 here.1) in
    omega (arith, before, fewer, more)

pub order_few : (all : List (List Step)) (order : List ℕ) → AreOrdered all order → length order ≤ length all
order_few all order ordered = let e = so_many all order ordered (length order) (omega arith) in omega (arith, e)
