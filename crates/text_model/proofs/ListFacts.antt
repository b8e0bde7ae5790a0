-- What stands at places of lists, also of lists that are put together, and tests of all that stands in a list.
use Rattle.std.proofs.Common.{◌≡◌, ◌∙◌, ◌+◌, ◌<◌, ◌⊎◌, ◌++◌, inl, inr, ℕ, zero, suc, Bool, true, List, [], ◌∷◌, length, slice_get, Some, refl, ap, subst, arith}
use Rattle.std.specs.List.{All, Contains, flat_map, list_all}
use Rattle.std.proofs.lemmas.Bool.{and_from, and_parts}
use Rattle.std.proofs.lemmas.Option.{get_or_from_slice_get, none-some, slice_get_within}

-- ---- places

pub element_at : {X : Type 0} (xs : List X) (n : ℕ) → n < length xs → (x : X) × (slice_get xs n ≡ Some x)
element_at [] n within = absurd (omega (arith, within))
element_at (x ∷ xs) zero within = (x, refl)
element_at (x ∷ xs) (suc n) within = element_at xs n (omega (arith, within))

pub contains_at : {X : Type 0} (xs : List X) (n : ℕ) (x : X) → slice_get xs n ≡ Some x → Contains xs x
contains_at xs n x at = (n, slice_get_within xs n x at, get_or_from_slice_get xs n x x at)

pub all_at : {X : Type 0} (P : X → Type 0) (xs : List X) (n : ℕ) (x : X) → All P xs → slice_get xs n ≡ Some x → P x
all_at P xs n x all at = subst P (get_or_from_slice_get xs n x x at) (all n x (slice_get_within xs n x at))

pub get_append : {X : Type 0} (xs ys : List X) (n : ℕ) (x : X) → slice_get (xs ++ ys) n ≡ Some x
    → (slice_get xs n ≡ Some x) ⊎ ((m : ℕ) × (n ≡ length xs + m) × (slice_get ys m ≡ Some x))
get_append [] ys n x at = let e : n ≡ 0 + n = omega arith in inr (n, e, at)
get_append (y ∷ xs) ys zero x at = inl at
get_append (y ∷ xs) ys (suc n) x at =
    elim (get_append xs ys n x at) [ inl front ↦ inl front | inr back ↦ inr (back.0, omega (arith, back.1), back.2) ]

pub front_at : {X : Type 0} (front xs : List X) (n : ℕ) (x : X) → slice_get front n ≡ Some x → slice_get (front ++ xs) n ≡ Some x
front_at [] xs n x at = absurd (none-some x at)
front_at (y ∷ front) xs zero x at = at
front_at (y ∷ front) xs (suc n) x at = front_at front xs n x at

-- ---- what is made of each thing

pub flat_map_same : {A B : Type 0} (f g : A → List B) → ((x : A) → f x ≡ g x) → (xs : List A) → flat_map f xs ≡ flat_map g xs
flat_map_same f g same [] = refl
flat_map_same f g same (x ∷ xs) = ap (λ ys. ys ++ flat_map f xs) (same x) ∙ ap (λ ys. g x ++ ys) (flat_map_same f g same xs)

-- ---- tests

abbrev pub Each : {A : Type 0} → (A → Bool) → List A → Type 0
Each test [] = Unit {0}
Each test (x ∷ xs) = (test x ≡ true) × Each test xs

pub each : {A : Type 0} (test : A → Bool) (xs : List A) → list_all test xs ≡ true → Each test xs
each test [] is = tt
each test (x ∷ xs) is = let both = and_parts (test x) (list_all test xs) is in (both.0, each test xs both.1)

pub all_pass : {A : Type 0} (test : A → Bool) → ((x : A) → test x ≡ true) → (xs : List A) → list_all test xs ≡ true
all_pass test passes [] = refl
all_pass test passes (x ∷ xs) = and_from (test x) (list_all test xs) (passes x) (all_pass test passes xs)
