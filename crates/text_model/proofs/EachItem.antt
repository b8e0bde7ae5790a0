-- What holds of each item of lists that are made of others.
use Rattle.std.proofs.Common.{◌≡◌, Bool, true, false, List, [], ◌∷◌, ◌++◌, Option, Some, None, refl}
use Rattle.std.specs.Prelude.{if◌then◌else◌}
use Rattle.std.specs.List.{All, cons_option, filter, filter_map, flat_map, fold}
use Rattle.std.proofs.lemmas.List.Elements.{All-append, All-cons, All-head, All-nil, All-tail}
use Rattle.sdc_base.proofs.CaseFacts.{by_bool}

pub each_joined : {A B : Type 0} (P : B → Type 0) (f : A → List B) (xs : List A) → All (λ x. All P (f x)) xs → All P (flat_map f xs)
each_joined P f [] h = All-nil P
each_joined P f (x ∷ xs) h =
    All-append P (f x) (flat_map f xs) (All-head (λ y. All P (f y)) x xs h) (each_joined P f xs (All-tail (λ y. All P (f y)) x xs h))

pub each_kept : {A : Type 0} (P : A → Type 0) (test : A → Bool) (xs : List A) → All (λ x. test x ≡ true → P x) xs → All P (filter test xs)
each_kept P test [] h = All-nil P
each_kept P test (x ∷ xs) h =
    let rest = each_kept P test xs (All-tail (λ y. test y ≡ true → P y) x xs h) in
    by_bool (λ b. All P (if b then x ∷ filter test xs else filter test xs)) (test x)
    (λ is. All-cons P x (filter test xs) (All-head (λ y. test y ≡ true → P y) x xs h is) rest)
    (λ is. rest)

given : {B : Type 0} (Q : B → Type 0) (o : Option B) (ys : List B) → ((y : B) → o ≡ Some y → Q y) → All Q ys → All Q (cons_option o ys)
given Q None ys h rest = rest
given Q (Some y) ys h rest = All-cons Q y ys (h y refl) rest

pub each_given : {A B : Type 0} (P : A → Type 0) (Q : B → Type 0) (f : A → Option B) → ((x : A) (y : B) → P x → f x ≡ Some y → Q y) → (xs : List A) → All P xs → All Q (filter_map f xs)
each_given P Q f gives [] h = All-nil Q
each_given P Q f gives (x ∷ xs) h =
    given Q (f x) (filter_map f xs) (λ y is. gives x y (All-head P x xs h) is) (each_given P Q f gives xs (All-tail P x xs h))

pub each_folded : {A : Type 0} (P : A → Type 0) (step : List A → A → List A) → ((xs : List A) (x : A) → All P xs → P x → All P (step xs x)) → (xs ys : List A) → All P xs → All P ys → All P (fold step xs ys)
each_folded P step keeps xs [] h k = h
each_folded P step keeps xs (y ∷ ys) h k =
    each_folded P step keeps (step xs y) ys (keeps xs y h (All-head P y ys k)) (All-tail P y ys k)

-- ---- lists that are nothing

pub both_nothing : {A : Type 0} (xs ys : List A) → xs ++ ys ≡ [] → (xs ≡ []) × (ys ≡ [])
both_nothing [] ys is = (refl, is)
both_nothing (x ∷ xs) ys is = absurd cc

pub each_nothing : {A B : Type 0} (f : A → List B) (xs : List A) → flat_map f xs ≡ [] → All (λ x. f x ≡ []) xs
each_nothing f [] is = All-nil (λ x. f x ≡ [])
each_nothing f (x ∷ xs) is =
    let both = both_nothing (f x) (flat_map f xs) is in All-cons (λ y. f y ≡ []) x xs both.0 (each_nothing f xs both.1)

pub unless : {A : Type 0} (b : Bool) (x : A) → (if b then x ∷ [] else []) ≡ [] → b ≡ false
unless true x is = absurd cc
unless false x is = refl
