-- Numbers that are found by names: of places of names the least one is the first.
use Rattle.std.proofs.Common.{◌≡◌, ◌∙◌, ◌+◌, ◌<◌, ℕ, Bool, true, false, cond, List, [], ◌∷◌, length, min, Option, Some, None, refl, sym, ap, arith, nat_lt, not, subst, Vec}
use Rattle.std.proofs.lemmas.Bool.Decides.{nat_tests}
use Rattle.std.proofs.lemmas.Slice.Eq.{bytes_eq-Decides}
use Rattle.std.specs.Cmp.Lexicographic.{nat_list_eq_equiv}
use Rattle.std.specs.Map.{KeepsOthers, lookup}
use Rattle.indexmap.specs.IndexMap.{Updates}
use Rattle.function_model.specs.FunctionText.{place_in}
use Rattle.text_model.specs.Words.{same_text}
use Rattle.bool_lanes.specs.NamedNumbers.{HasPlaces, is_name, is_same_key, least, number_at, number_if, place_from, place_if}
use Rattle.bool_lanes.specs.declared.numbers.Numbers.{Numbers}

-- ---- the first place

-- so many places further on
abbrev pub further : ℕ → Option ℕ → Option ℕ
further n None = None
further n (Some place) = Some (n + place)

further_least : (n : ℕ) (a b : Option ℕ) → further n (least a b) ≡ least (further n a) (further n b)
further_least n None b = refl
further_least n (Some x) None = refl
further_least n (Some x) (Some y) = ap Some (omega arith)

further_if : (n place other : ℕ) → other ≡ n + place → (t : Bool) → further n (cond t (Some place) None) ≡ cond t (Some other) None
further_if n place other e true = ap Some (sym e)
further_if n place other e false = refl

place_from-further : (n place from : ℕ) (names : List (List ℕ)) (name : List ℕ) → from ≡ n + place
    → place_from from names name ≡ further n (place_from place names name)
place_from-further n place from [] name e = refl
place_from-further n place from (own ∷ names) name e =
    ap (least (number_if own from name)) (place_from-further n (place + 1) (from + 1) names name (omega arith))
    ∙ (ap (λ o. least o (further n (place_from (place + 1) names name))) (sym (further_if n place from e (same_text own name)))
    ∙ sym (further_least n (number_if own place name) (place_from (place + 1) names name)))

zero_case : (o : Option ℕ) (n : ℕ) → 0 < n → least (Some 0) (further 1 o) ≡ cond (nat_lt 0 n) (Some 0) None
zero_case None n h =
    let e : nat_lt 0 n ≡ true = grind (arith, nat_tests) in
    rw e refl
zero_case (Some place) n h =
    let e : nat_lt 0 n ≡ true = grind (arith, nat_tests) in
    let m : min 0 (1 + place) ≡ 0 = omega arith in
    rw e (ap Some m)

pub after_case : (place n m : ℕ) → m ≡ 1 + n → further 1 (cond (nat_lt place n) (Some place) None) ≡ cond (nat_lt (1 + place) m) (Some (1 + place)) None
after_case place n m h =
    let e : nat_lt (1 + place) m ≡ nat_lt place n = grind (arith, nat_tests) in
    rw e (further_if 1 place (1 + place) refl (nat_lt place n))

first_step : (t : Bool) (o : Option ℕ) (place n m : ℕ) → m ≡ 1 + n → o ≡ cond (nat_lt place n) (Some place) None
    → least (cond t (Some 0) None) (further 1 o) ≡ cond (nat_lt (cond (not t) (1 + place) 0) m) (Some (cond (not t) (1 + place) 0)) None
first_step true o place n m e h = zero_case o m (omega arith)
first_step false o place n m e h = ap (further 1) h ∙ after_case place n m e

pub place_from-place_if : (names : List (List ℕ)) (name : List ℕ) → place_from 0 names name ≡ place_if names name
place_from-place_if [] name = refl
place_from-place_if (own ∷ names) name =
    ap (least (number_if own 0 name)) (place_from-further 1 0 1 names name refl)
    ∙ first_step (same_text own name) (place_from 0 names name) (place_in names name) (length names) (length (own ∷ names)) (omega arith) (place_from-place_if names name)

-- ---- a name more

-- what is found of other names stays
others : {A X : Type 0} (old new : List (Vec ℕ A × X)) (own name : List ℕ) → KeepsOthers is_same_key (is_name own) old new → same_text own name ≡ false
    → lookup (is_name name) new ≡ lookup (is_name name) old
unfolding KeepsOthers
others old new own name keeps apart =
    keeps (is_name name) (λ x y. nat_list_eq_equiv.congr name x.items y.items)
    (λ key same. nat_list_eq_equiv.symm name key.items ∙ (sym (nat_list_eq_equiv.congr own key.items name same) ∙ apart))

-- what is found of names once one has a number
found : {A X : Type 0} (old new : List (Vec ℕ A × X)) (own : List ℕ) (kept : Option X) → lookup (is_name own) new ≡ kept
    → KeepsOthers is_same_key (is_name own) old new → (name : List ℕ) (t : Bool) → same_text own name ≡ t
    → lookup (is_name name) new ≡ cond t kept (lookup (is_name name) old)
found old new own kept there keeps name true same = subst (λ n. lookup (is_name n) new ≡ kept) ((bytes_eq-Decides own name).0 same) there
found old new own kept there keeps name false apart = others old new own name keeps apart

added_step : (key other : List ℕ) (number kept : ℕ) (old : List ℕ → Option ℕ) → Some kept ≡ least (Some number) (old key)
    → (t : Bool) → same_text key other ≡ t → cond t (Some kept) (old other) ≡ least (cond t (Some number) None) (old other)
added_step key other number kept old is true same = is ∙ ap (λ k. least (Some number) (old k)) ((bytes_eq-Decides key other).0 same)
added_step key other number kept old is false same = refl

-- one more thing of a name, its least number known
pub added : (old new : Numbers) (key : Vec ℕ _) (own : List ℕ) (number kept : ℕ) → key.items ≡ own
    → Updates is_same_key old.least new.least key (Some kept) → Some kept ≡ least (Some number) (number_at old own)
    → (other : List ℕ) → number_at new other ≡ least (number_if own number other) (number_at old other)
added old new key own number kept named updates is other =
    found old.least.entries new.least.entries own (Some kept) (subst (λ n. lookup (is_name n) new.least.entries ≡ Some kept) named updates.1)
    (subst (λ n. KeepsOthers is_same_key (is_name n) old.least.entries new.least.entries) named updates.3) other (same_text own other) refl
    ∙ added_step own other number kept (number_at old) is (same_text own other) refl

-- ---- things one after the other

pub least_swap : (a b c : Option ℕ) → least (least a b) c ≡ least b (least a c)
least_swap None b c = refl
least_swap (Some x) None None = refl
least_swap (Some x) None (Some z) = refl
least_swap (Some x) (Some y) None = ap Some (omega arith)
least_swap (Some x) (Some y) (Some z) = ap Some (omega arith)

pub least_none : (o : Option ℕ) → least o None ≡ o
least_none None = refl
least_none (Some x) = refl

-- what is known of the names so far, with what the others give, is what all give
abbrev pub PlacesSoFar : Numbers → ℕ → List (List ℕ) → List (List ℕ) → Type 0
PlacesSoFar numbers place rest names = (name : List ℕ) → least (number_at numbers name) (place_from place rest name) ≡ place_from 0 names name

abbrev pub Adds : Numbers → Numbers → List ℕ → ℕ → Type 0
Adds old new key number = (other : List ℕ) → number_at new other ≡ least (number_if key number other) (number_at old other)

abbrev pub IsEmpty : Numbers → Type 0
IsEmpty numbers = (name : List ℕ) → number_at numbers name ≡ None

pub places_none : (numbers : Numbers) (names : List (List ℕ)) → IsEmpty numbers → PlacesSoFar numbers 0 names names
places_none numbers names empty name = ap (λ o. least o (place_from 0 names name)) (empty name)

pub place_more : (old new : Numbers) (place : ℕ) (own : List ℕ) (rest names : List (List ℕ)) → PlacesSoFar old place (own ∷ rest) names
    → Adds old new own place → PlacesSoFar new (place + 1) rest names
place_more old new place own rest names so_far adds name =
    ap (λ o. least o (place_from (place + 1) rest name)) (adds name)
    ∙ (least_swap (number_if own place name) (number_at old name) (place_from (place + 1) rest name)
    ∙ so_far name)

pub places_all : (numbers : Numbers) (place : ℕ) (names : List (List ℕ)) → PlacesSoFar numbers place [] names → HasPlaces numbers names
places_all numbers place names so_far name = sym (least_none (number_at numbers name)) ∙ so_far name
