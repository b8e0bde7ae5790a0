-- Things that are in a list, and in lists that are made of others.
use Rattle.std.proofs.lemmas.Bool.{or_cases, or_left, or_right}
use Rattle.text_model.proofs.SameTexts.{same_is, text_same}
use Rattle.text_model.proofs.EachItem.{both_nothing}
use Rattle.text_model.specs.Words.{is_among, same_text}
use Rattle.std.proofs.Common.{◌++◌, ◌||◌, ◌∙◌, ◌∷◌, ◌≡◌, [], ap, Bool, false, inl, inr, List, map, refl, Some, subst, sym, true, ℕ}
use Rattle.std.proofs.lemmas.List.Elements.{Contains-append_left, Contains-append_right, Contains-push}
use Rattle.std.specs.List.{Contains, find, flat_map, list_any}
use Rattle.std.specs.Prelude.{◌⊎◌, if◌then◌else◌}

-- a thing is one of a list
abbrev pub In : {A : Type 0} → A → List A → Type 0
In x [] = ⊥
In x (y ∷ ys) = (x ≡ y) ⊎ In x ys

pub in_left : {A : Type 0} (x : A) (xs ys : List A) → In x xs → In x (xs ++ ys)
in_left x [] ys h = absurd h
in_left x (y ∷ xs) ys (inl e) = inl e
in_left x (y ∷ xs) ys (inr h) = inr (in_left x xs ys h)

pub in_right : {A : Type 0} (x : A) (xs ys : List A) → In x ys → In x (xs ++ ys)
in_right x [] ys h = h
in_right x (y ∷ xs) ys h = inr (in_right x xs ys h)

pub in_either : {A : Type 0} (x : A) (xs ys : List A) → In x (xs ++ ys) → In x xs ⊎ In x ys
in_either x [] ys h = inr h
in_either x (y ∷ xs) ys (inl e) = inl (inl e)
in_either x (y ∷ xs) ys (inr h) = elim (in_either x xs ys h) [ inl g ↦ inl (inr g) | inr g ↦ inr g ]

pub in_map : {A B : Type 0} (f : A → B) (x : A) (xs : List A) → In x xs → In (f x) (map f xs)
in_map f x [] h = absurd h
in_map f x (y ∷ xs) (inl e) = inl (ap f e)
in_map f x (y ∷ xs) (inr h) = inr (in_map f x xs h)

pub from_map : {A B : Type 0} (f : A → B) (y : B) (xs : List A) → In y (map f xs) → (x : A) × In x xs × (f x ≡ y)
from_map f y [] h = absurd h
from_map f y (x ∷ xs) (inl e) = (x, inl refl, sym e)
from_map f y (x ∷ xs) (inr h) = let more = from_map f y xs h in (more.0, inr more.1, more.2)

pub contains : {A : Type 0} (x : A) (xs : List A) → In x xs → Contains xs x
contains x [] h = absurd h
contains x (y ∷ xs) (inl e) = rw e (Contains-append_left (y ∷ []) xs y (Contains-push [] y))
contains x (y ∷ xs) (inr h) = Contains-append_right (y ∷ []) xs x (contains x xs h)

pub no_map : {A B : Type 0} (f : A → B) (xs : List A) → map f xs ≡ [] → xs ≡ []
no_map f [] h = refl
no_map f (x ∷ xs) h = cc

pub no_flat : {A B : Type 0} (f : A → List B) (xs : List A) (x : A) → flat_map f xs ≡ [] → In x xs → f x ≡ []
no_flat f [] x h at = absurd at
no_flat f (y ∷ xs) x h (inl e) = ap f e ∙ (both_nothing (f y) (flat_map f xs) h).0
no_flat f (y ∷ xs) x h (inr at) = no_flat f xs x (both_nothing (f y) (flat_map f xs) h).1 at

pub in_flat : {A B : Type 0} (f : A → List B) (xs : List A) (x : A) (y : B) → In x xs → In y (f x) → In y (flat_map f xs)
in_flat f [] x y at h = absurd at
in_flat f (z ∷ xs) x y (inl e) h = in_left y (f z) (flat_map f xs) (subst (λ w. In y (f w)) e h)
in_flat f (z ∷ xs) x y (inr at) h = in_right y (f z) (flat_map f xs) (in_flat f xs x y at h)

pub among_in : (names : List (List ℕ)) (name : List ℕ) → is_among names name ≡ true → In name names
among_in [] name h = cc
among_in (n ∷ names) name h =
    elim (or_cases (same_text n name) (is_among names name) h) [
      | inl same ↦ inl (sym (same_is n name same))
      | inr among ↦ inr (among_in names name among)
    ]

pub in_among : (names : List (List ℕ)) (name : List ℕ) → In name names → is_among names name ≡ true
in_among [] name h = absurd h
in_among (n ∷ names) name (inl e) = or_left (same_text n name) (is_among names name) (subst (λ (m : List ℕ). same_text m name ≡ true) e (text_same name))
in_among (n ∷ names) name (inr at) = or_right (same_text n name) (is_among names name) (in_among names name at)

pub any_in : {A : Type 0} (test : A → Bool) (xs : List A) (x : A) → In x xs → test x ≡ true → list_any test xs ≡ true
any_in test [] x h passes = absurd h
any_in test (y ∷ xs) x (inl e) passes = or_left (test y) (list_any test xs) (subst (λ z. test z ≡ true) e passes)
any_in test (y ∷ xs) x (inr at) passes = or_right (test y) (list_any test xs) (any_in test xs x at passes)

pub find_in : {A : Type 0} (test : A → Bool) (xs : List A) (x : A) → find test xs ≡ Some x → In x xs × (test x ≡ true)
find_in test [] x h = cc
find_in {A = A} test (y ∷ xs) x h = here (test y) refl (find_in test xs x) h where
  here : (b : Bool) → test y ≡ b → (find test xs ≡ Some x → In x xs × (test x ≡ true)) → (if b then Some y else find test xs) ≡ Some x → In x (y ∷ xs) × (test x ≡ true)
  here true e rest h = let same : y ≡ x = cc in (inl (sym same), subst (λ (z : A). test z ≡ true) same e)
  here false e rest h = let more = rest h in (inr more.0, more.1)

pub find_some : {A : Type 0} (test : A → Bool) (xs : List A) → list_any test xs ≡ true → (x : A) × (find test xs ≡ Some x)
find_some test [] h = cc
find_some {A = A} test (y ∷ xs) h = here (test y) (find_some test xs) h where
  here : (b : Bool) → (list_any test xs ≡ true → (x : A) × (find test xs ≡ Some x)) → (b || list_any test xs) ≡ true → (x : A) × ((if b then Some y else find test xs) ≡ Some x)
  here true rest h = (y, refl)
  here false rest h = rest h
