-- What stands at places of lists, also of lists that are put together.
use Rattle.std.proofs.Common.{◌≡◌, ◌+◌, ◌⊎◌, inl, inr, ℕ, zero, suc, List, [], ◌∷◌, ◌++◌, map, length, take, drop, slice_get, Option, Some, None, refl, sym, ◌∙◌, ap, subst, arith}
use Rattle.std.proofs.lemmas.List.{append-nil, length-append, map-append}
use Rattle.std.proofs.lemmas.List.Concat.{flat_map-append}
use Rattle.std.proofs.lemmas.List.Elements.{filter_map-append}
use Rattle.std.proofs.lemmas.Option.{get_or_from_slice_get, slice_get-get_or}
use Rattle.std.specs.List.{All, Contains, cons_option, filter_map, flat_map}
use Rattle.text_model.proofs.ListFacts.{element_at}

-- after others and in front of others
pub get_middle : {X : Type 0} (xs : List X) (y : X) (ys : List X) → slice_get (xs ++ y ∷ ys) (length xs) ≡ Some y
get_middle [] y ys = refl
get_middle (x ∷ xs) y ys = get_middle xs y ys

-- among some and one more
pub get_push : {X : Type 0} (xs : List X) (y : X) (n : ℕ) (x : X) → slice_get (xs ++ y ∷ []) n ≡ Some x → (slice_get xs n ≡ Some x) ⊎ ((n ≡ length xs) × (y ≡ x))
get_push [] y zero x h = let e : Some y ≡ Some x = h in let same : y ≡ x = cc in inr (refl, same)
get_push [] y (suc n) x h = let bad : None ≡ Some x = h in cc
get_push (z ∷ xs) y zero x h = inl h
get_push (z ∷ xs) y (suc n) x h = elim (get_push xs y n x h) [ inl old ↦ inl old | inr new ↦ inr (omega (arith, new.0), new.1) ]

-- what holds at each place holds with one more
pub each_push : {X : Type 0} (P : ℕ → X → Type 0) (xs : List X) (y : X) → ((n : ℕ) (x : X) → slice_get xs n ≡ Some x → P n x) → P (length xs) y
    → (n : ℕ) (x : X) → slice_get (xs ++ y ∷ []) n ≡ Some x → P n x
each_push P xs y old new n x at =
    elim (get_push xs y n x at) [
      | inl before ↦ old n x before
      | inr last ↦ subst (λ (k : ℕ). P k x) (sym last.0) (subst (P (length xs)) last.1 new)
    ]

-- none of a list
pub take_none : {X : Type 0} (xs : List X) → take 0 xs ≡ []
take_none [] = refl
take_none (x ∷ xs) = refl

-- one more of a list
pub take_one : {X : Type 0} (xs : List X) (n : ℕ) (x : X) → slice_get xs n ≡ Some x → take (n + 1) xs ≡ take n xs ++ x ∷ []
take_one [] n x at = let bad : None ≡ Some x = at in cc
take_one (y ∷ ys) zero x at = let e : Some y ≡ Some x = at in let same : y ≡ x = cc in ap (λ z. z ∷ []) same
take_one (y ∷ ys) (suc n) x at =
    let e : suc n + 1 ≡ suc (n + 1) = omega arith in
    ap (λ (k : ℕ). take k (y ∷ ys)) e ∙ ap (λ zs. y ∷ zs) (take_one ys n x at)

-- one more of what a list is made into
pub mapped_more : {X Y : Type 0} (f : X → Y) (xs : List X) (n : ℕ) (x : X) (y : Y) (made : List Y) → slice_get xs n ≡ Some x → y ≡ f x
    → made ≡ map f (take n xs) → made ++ y ∷ [] ≡ map f (take (n + 1) xs)
mapped_more f xs n x y made at is so_far =
    ap (λ ys. ys ++ y ∷ []) so_far
    ∙ (ap (λ z. map f (take n xs) ++ z ∷ []) is
    ∙ (sym (map-append f (take n xs) (x ∷ [])) ∙ ap (map f) (sym (take_one xs n x at))))

-- the rest from a place on
pub drop_one : {X : Type 0} (xs : List X) (n : ℕ) (x : X) → slice_get xs n ≡ Some x → drop n xs ≡ x ∷ drop (n + 1) xs
drop_one [] n x at = let bad : None ≡ Some x = at in cc
drop_one (y ∷ ys) zero x at = let e : Some y ≡ Some x = at in let same : y ≡ x = cc in ap (λ z. z ∷ ys) same
drop_one (y ∷ ys) (suc n) x at =
    let e : suc n + 1 ≡ suc (n + 1) = omega arith in
    drop_one ys n x at ∙ ap (λ (k : ℕ). x ∷ drop k (y ∷ ys)) (sym e)

-- ---- what holds of all

pub all_from : {X : Type 0} (P : X → Type 0) (xs : List X) → ((i : ℕ) (x : X) → slice_get xs i ≡ Some x → P x) → All P xs
all_from P xs each k d within =
    let r = element_at xs k within in
    subst P (sym (get_or_from_slice_get xs k r.0 d r.1)) (each k r.0 r.1)

-- what is contained stands at a place
pub place_in : {X : Type 0} (xs : List X) (x : X) → Contains xs x → (i : ℕ) × (slice_get xs i ≡ Some x)
place_in xs x has = (has.0, slice_get-get_or xs has.0 x has.1 ∙ ap (λ z. Some z) has.2)

-- ---- what is kept

pub filter_split : {X Y : Type 0} (h : X → Option Y) (xs : List X) (x : X) (rest : List X) (y : Y) → h x ≡ Some y
    → filter_map h (xs ++ x ∷ rest) ≡ filter_map h xs ++ y ∷ filter_map h rest
filter_split h xs x rest y is =
    filter_map-append h xs (x ∷ rest) ∙ ap (λ o. filter_map h xs ++ cons_option o (filter_map h rest)) is

pub filter_skip : {X Y : Type 0} (h : X → Option Y) (xs : List X) (x : X) → h x ≡ None → filter_map h (xs ++ x ∷ []) ≡ filter_map h xs
filter_skip h xs x is =
    filter_map-append h xs (x ∷ []) ∙ (ap (λ o. filter_map h xs ++ cons_option o []) is ∙ append-nil (filter_map h xs))

-- what is kept of one stands after what is kept of those before it
pub kept_at : {X Y : Type 0} (h : X → Option Y) (xs : List X) (x : X) (rest all : List X) (y : Y) → xs ++ x ∷ rest ≡ all → h x ≡ Some y
    → slice_get (filter_map h all) (length (filter_map h xs)) ≡ Some y
kept_at h xs x rest all y whole is =
    ap (λ zs. slice_get (filter_map h zs) (length (filter_map h xs))) (sym whole)
    ∙ (ap (λ zs. slice_get zs (length (filter_map h xs))) (filter_split h xs x rest y is) ∙ get_middle (filter_map h xs) y (filter_map h rest))

-- the parts of one more
pub flat_one : {X Y : Type 0} (f : X → List Y) (xs : List X) (n : ℕ) (x : X) → slice_get xs n ≡ Some x
    → flat_map f (take (n + 1) xs) ≡ flat_map f (take n xs) ++ (f x ++ [])
flat_one f xs n x at = ap (flat_map f) (take_one xs n x at) ∙ flat_map-append f (take n xs) (x ∷ [])

-- and counted
pub parts_more : {X Y : Type 0} (f : X → List Y) (xs : List X) (n : ℕ) (x : X) → slice_get xs n ≡ Some x
    → length (flat_map f (take (n + 1) xs)) ≡ length (flat_map f (take n xs)) + length (f x)
parts_more f xs n x at =
    let e = ap length (flat_one f xs n x at) in
    let a = length-append (flat_map f (take n xs)) (f x ++ []) in
    let b = length-append (f x) [] in
    omega (arith, e, a, b)
