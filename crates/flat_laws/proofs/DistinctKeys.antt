-- Lists in which each thing has a key of its own.
use Rattle.std.proofs.Common.{◌≡◌, ◌+◌, inl, inr, ℕ, zero, suc, List, [], ◌∷◌, ◌++◌, map, length, take, slice_get, Option, Some, None, refl, sym, ◌∙◌, ap, arith}
use Rattle.std.proofs.lemmas.List.{length-append}
use Rattle.std.specs.List.{cons_option, filter_map, flat_map}
use Rattle.text_model.proofs.ListFacts.{get_append}

-- two places with one key are one
abbrev pub IsKey : {X K : Type 0} → (X → K) → List X → Type 0
IsKey {X} key xs = (i j : ℕ) (x y : X) → slice_get xs i ≡ Some x → slice_get xs j ≡ Some y → key x ≡ key y → i ≡ j

pub key_none : {X K : Type 0} (key : X → K) → IsKey key []
key_none key i j x y at_i at_j same = let bad : None ≡ Some x = at_i in cc

pub key_rest : {X K : Type 0} (key : X → K) (x : X) (xs : List X) → IsKey key (x ∷ xs) → IsKey key xs
key_rest key x xs all i j y z at_i at_j same = let e = all (suc i) (suc j) y z at_i at_j same in omega (arith, e)

-- one more in front
pub key_cons : {X K : Type 0} (key : X → K) (x : X) (xs : List X) → IsKey key xs → ((j : ℕ) (y : X) → slice_get xs j ≡ Some y → key x ≡ key y → ⊥)
    → IsKey key (x ∷ xs)
key_cons key x xs rest new zero zero y z at_i at_j same = refl
key_cons key x xs rest new zero (suc j) y z at_i at_j same =
    let e : Some x ≡ Some y = at_i in
    let one : x ≡ y = cc in
    absurd (new j z at_j (ap key one ∙ same))
key_cons key x xs rest new (suc i) zero y z at_i at_j same =
    let e : Some x ≡ Some z = at_j in
    let one : x ≡ z = cc in
    absurd (new i y at_i (ap key one ∙ sym same))
key_cons key x xs rest new (suc i) (suc j) y z at_i at_j same = let e = rest i j y z at_i at_j same in omega (arith, e)

pub key_append : {X K : Type 0} (key : X → K) (xs ys : List X) → IsKey key xs → IsKey key ys
    → ((i j : ℕ) (x y : X) → slice_get xs i ≡ Some x → slice_get ys j ≡ Some y → key x ≡ key y → ⊥) → IsKey key (xs ++ ys)
key_append key [] ys front back cross = back
key_append key (x ∷ xs) ys front back cross =
    key_cons key x (xs ++ ys) (key_append key xs ys (key_rest key x xs front) back (λ i j y z at_i at_j same. cross (suc i) j y z at_i at_j same))
    (λ j y at same. elim (get_append xs ys j y at) [
      | inl before ↦ let e : 0 ≡ suc j = front 0 (suc j) x y refl before same in absurd (omega (arith, e))
      | inr after ↦ cross 0 after.0 x y refl after.2 same
    ])

-- where a thing of joined parts stands, with how much stands before its part
pub get_flat : {X Y : Type 0} (f : X → List Y) (xs : List X) (n : ℕ) (y : Y) → slice_get (flat_map f xs) n ≡ Some y
    → (k : ℕ) × (x : X) × (m : ℕ) × (slice_get xs k ≡ Some x) × (slice_get (f x) m ≡ Some y) × (n ≡ length (flat_map f (take k xs)) + m)
get_flat f [] n y at = let bad : None ≡ Some y = at in cc
get_flat f (x ∷ xs) n y at =
    elim (get_append (f x) (flat_map f xs) n y at) [
      | inl front ↦ let e : n ≡ 0 + n = omega arith in (0, x, n, refl, front, e)
      | inr back ↦
          let r = get_flat f xs back.0 y back.2 in
          let long = length-append (f x) (flat_map f (take r.0 xs)) in
          (suc r.0, r.1, r.2, r.3, r.4, omega (arith, long, back.1, r.5))
    ]

-- joined parts, in each of which a key is one
pub key_flat : {X Y K L : Type 0} (f : X → List Y) (key : X → K) (own : Y → L) (xs : List X) → IsKey key xs
    → ((k : ℕ) (x : X) → slice_get xs k ≡ Some x → IsKey own (f x))
    → ((k l : ℕ) (x other : X) → slice_get xs k ≡ Some x → slice_get xs l ≡ Some other → (i j : ℕ) (y z : Y)
    → slice_get (f x) i ≡ Some y → slice_get (f other) j ≡ Some z → own y ≡ own z → key x ≡ key other)
    → IsKey own (flat_map f xs)
key_flat f key own [] all parts cross = key_none own
key_flat f key own (x ∷ xs) all parts cross =
    key_append own (f x) (flat_map f xs) (parts 0 x refl)
    (key_flat f key own xs (key_rest key x xs all) (λ k y at. parts (suc k) y at)
    (λ k l w other at_k at_l i j y z at_i at_j same. cross (suc k) (suc l) w other at_k at_l i j y z at_i at_j same))
    (λ i j y z at_i at_j same.
    let r = get_flat f xs j z at_j in
    let e : 0 ≡ suc r.0 = all 0 (suc r.0) x r.1 refl r.3 (cross 0 (suc r.0) x r.1 refl r.3 i r.2 y z at_i r.4 same) in
    absurd (omega (arith, e)))

-- what a list is made into, by what it is made of
pub get_map : {X Y : Type 0} (f : X → Y) (xs : List X) (n : ℕ) (y : Y) → slice_get (map f xs) n ≡ Some y → (x : X) × (slice_get xs n ≡ Some x) × (y ≡ f x)
get_map f [] n y at = let bad : None ≡ Some y = at in cc
get_map f (x ∷ xs) zero y at = let e : Some (f x) ≡ Some y = at in let same : y ≡ f x = cc in (x, refl, same)
get_map f (x ∷ xs) (suc n) y at = get_map f xs n y at

pub key_map : {X Y K : Type 0} (f : X → Y) (key : Y → K) (xs : List X) → IsKey (λ x. key (f x)) xs → IsKey key (map f xs)
key_map f key xs all i j y z at_i at_j same =
    let a = get_map f xs i y at_i in
    let b = get_map f xs j z at_j in
    all i j a.0 b.0 a.1 b.1 (sym (ap key a.2) ∙ (same ∙ ap key b.2))

-- what is kept, by a key of what it is kept of
get_kept_step : {X Y : Type 0} (h : X → Option Y) (x : X) (xs : List X) (n : ℕ) (y : Y) (o : Option Y) → h x ≡ o
    → ((m : ℕ) → slice_get (filter_map h xs) m ≡ Some y → (k : ℕ) × (z : X) × (slice_get xs k ≡ Some z) × (h z ≡ Some y))
    → slice_get (cons_option o (filter_map h xs)) n ≡ Some y → (k : ℕ) × (z : X) × (slice_get (x ∷ xs) k ≡ Some z) × (h z ≡ Some y)
get_kept_step h x xs n y None is rest at = let r = rest n at in (suc r.0, r.1, r.2, r.3)
get_kept_step h x xs zero y (Some w) is rest at = (0, x, refl, is ∙ at)
get_kept_step h x xs (suc n) y (Some w) is rest at = let r = rest n at in (suc r.0, r.1, r.2, r.3)

pub get_kept : {X Y : Type 0} (h : X → Option Y) (xs : List X) (n : ℕ) (y : Y) → slice_get (filter_map h xs) n ≡ Some y
    → (k : ℕ) × (x : X) × (slice_get xs k ≡ Some x) × (h x ≡ Some y)
get_kept h [] n y at = let bad : None ≡ Some y = at in cc
get_kept h (x ∷ xs) n y at = get_kept_step h x xs n y (h x) refl (λ m found. get_kept h xs m y found) at

key_kept_step : {X Y K : Type 0} (h : X → Option Y) (key : X → K) (own : Y → K) (x : X) (xs : List X)
    → ((z : X) (y : Y) → h z ≡ Some y → own y ≡ key z) → IsKey key (x ∷ xs) → IsKey own (filter_map h xs)
    → (o : Option Y) → h x ≡ o → IsKey own (cons_option o (filter_map h xs))
key_kept_step h key own x xs same all rest None is = rest
key_kept_step h key own x xs same all rest (Some w) is =
    key_cons own w (filter_map h xs) rest
    (λ j y at equal.
    let r = get_kept h xs j y at in
    let e : 0 ≡ suc r.0 = all 0 (suc r.0) x r.1 refl r.2 (sym (same x w is) ∙ (equal ∙ same r.1 y r.3)) in
    absurd (omega (arith, e)))

pub key_kept : {X Y K : Type 0} (h : X → Option Y) (key : X → K) (own : Y → K) (xs : List X)
    → ((z : X) (y : Y) → h z ≡ Some y → own y ≡ key z) → IsKey key xs → IsKey own (filter_map h xs)
key_kept h key own [] same all = key_none own
key_kept h key own (x ∷ xs) same all =
    key_kept_step h key own x xs same all (key_kept h key own xs same (key_rest key x xs all)) (h x) refl

-- ---- lists with one end

same_head : (front other s : List ℕ) (i j : ℕ) → length front ≡ length other → front ++ i ∷ s ≡ other ++ j ∷ s → i ≡ j
same_head [] [] s i j same e = let whole : i ∷ s ≡ j ∷ s = e in cc
same_head [] (m ∷ other) s i j same e = absurd (omega (arith, same))
same_head (n ∷ front) [] s i j same e = absurd (omega (arith, same))
same_head (n ∷ front) (m ∷ other) s i j same e =
    let whole : n ∷ (front ++ i ∷ s) ≡ m ∷ (other ++ j ∷ s) = e in
    let rest : front ++ i ∷ s ≡ other ++ j ∷ s = cc in
    same_head front other s i j (omega (arith, same)) rest

-- what stands in front of one end is told by the lists
pub head_of : (front other s : List ℕ) (i j : ℕ) → front ++ i ∷ s ≡ other ++ j ∷ s → i ≡ j
head_of front other s i j e =
    let a = length-append front (i ∷ s) in
    let b = length-append other (j ∷ s) in
    let c = ap length e in
    let more : length (i ∷ s) ≡ length (j ∷ s) = refl in
    same_head front other s i j (omega (arith, a, b, c, more)) e

-- a list is not longer than itself
pub not_longer : (front s : List ℕ) (i : ℕ) → s ≡ front ++ i ∷ s → ⊥
not_longer front s i e =
    let a = length-append front (i ∷ s) in
    let c = ap length e in
    let more : length (i ∷ s) ≡ suc (length s) = refl in
    omega (arith, a, c, more)
