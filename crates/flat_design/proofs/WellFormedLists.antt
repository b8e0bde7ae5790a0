-- What holds at each place of a list, and names of which none stands twice.
use Rattle.std.proofs.Common.{◌≡◌, ◌+◌, ◌<◌, inl, inr, ℕ, zero, suc, Bool, true, false, cond, List, [], ◌∷◌, ◌++◌, map, take, slice_get, Option, Some, None, refl, sym, ◌∙◌, ap, subst, arith}
use Rattle.std.proofs.lemmas.Bool.{cases_lt, or_left, or_right, true_from_ne_false}
use Rattle.std.proofs.lemmas.List.{take-map}
use Rattle.std.proofs.lemmas.Slice.Eq.{bytes_eq-Decides}
use Rattle.std.specs.List.{AllZip, enumerate_from, filter, filter_map, flat_map, zip}
use Rattle.flat_model.specs.FlatFaults.{is_among}
use Rattle.text_model.specs.Names.{AreDistinct, AreGoodNames, is_good_name}
use Rattle.text_model.specs.Words.{same_text}
use Rattle.text_model.proofs.ListFacts.{get_append}
use Rattle.flat_design.proofs.DistinctFacts.{get_flat, get_kept, get_map}
use Rattle.flat_design.proofs.PlaceFacts.{all_from}

-- ---- places

-- what stands at one place of both, from the second
pub zip_back : {A B : Type 0} (R : A → B → Type 0) (xs : List A) (ys : List B) → AllZip R xs ys → (i : ℕ) (y : B) → slice_get ys i ≡ Some y
    → (x : A) × (slice_get xs i ≡ Some x) × R x y
zip_back R [] [] all i y at = let bad : None ≡ Some y = at in cc
zip_back R [] (z ∷ ys) all i y at = absurd all
zip_back R (w ∷ xs) [] all i y at = absurd all
zip_back R (w ∷ xs) (z ∷ ys) all zero y at =
    let e : Some z ≡ Some y = at in
    let one : z ≡ y = cc in
    (w, refl, subst (λ v. R w v) one all.0)
zip_back R (w ∷ xs) (z ∷ ys) all (suc i) y at = zip_back R xs ys all.1 i y at

-- images that are the same place by place
pub zip_map : {A B C : Type 0} (R : A → B → Type 0) (f : A → C) (g : B → C) → ((a : A) (b : B) → R a b → g b ≡ f a)
    → (xs : List A) (ys : List B) → AllZip R xs ys → map g ys ≡ map f xs
zip_map R f g same [] [] all = refl
zip_map R f g same [] (y ∷ ys) all = absurd all
zip_map R f g same (x ∷ xs) [] all = absurd all
zip_map R f g same (x ∷ xs) (y ∷ ys) all =
    ap (λ c. c ∷ map g ys) (same x y all.0) ∙ ap (λ cs. f x ∷ cs) (zip_map R f g same xs ys all.1)

-- the number of a numbered thing is its place
pub numbered_back : {X : Type 0} (m : ℕ) (xs : List X) (n : ℕ) (z : ℕ × X) → slice_get (enumerate_from m xs) n ≡ Some z
    → (z.0 ≡ m + n) × (slice_get xs n ≡ Some z.1)
numbered_back m [] n z at = let bad : None ≡ Some z = at in cc
numbered_back m (x ∷ xs) zero z at =
    let e : Some (m, x) ≡ Some z = at in
    let same : (m, x) ≡ z = cc in
    let plus : m ≡ m + 0 = omega arith in
    (sym (ap (λ (w : ℕ × _). w.0) same) ∙ plus, ap (λ (w : ℕ × _). Some w.1) same)
numbered_back m (x ∷ xs) (suc n) z at =
    let r = numbered_back (m + 1) xs n z at in
    (omega (arith, r.0), r.1)

pub zip_first : {A B : Type 0} (xs : List A) (ys : List B) (n : ℕ) (z : A × B) → slice_get (zip xs ys) n ≡ Some z → slice_get xs n ≡ Some z.0
zip_first [] ys n z at = let bad : None ≡ Some z = at in cc
zip_first (x ∷ xs) [] n z at = let bad : None ≡ Some z = at in cc
zip_first (x ∷ xs) (y ∷ ys) zero z at =
    let e : Some (x, y) ≡ Some z = at in
    let same : (x, y) ≡ z = cc in
    ap (λ (w : _ × _). Some w.0) same
zip_first (x ∷ xs) (y ∷ ys) (suc n) z at = zip_first xs ys n z at

filter_step : {X : Type 0} (test : X → Bool) (x : X) (xs : List X) (n : ℕ) (y : X) (b : Bool)
    → ((m : ℕ) → slice_get (filter test xs) m ≡ Some y → (k : ℕ) × (slice_get xs k ≡ Some y))
    → slice_get (cond b (x ∷ filter test xs) (filter test xs)) n ≡ Some y → (k : ℕ) × (slice_get (x ∷ xs) k ≡ Some y)
filter_step test x xs n y false rest at = let r = rest n at in (suc r.0, r.1)
filter_step test x xs zero y true rest at = (0, at)
filter_step test x xs (suc n) y true rest at = let r = rest n at in (suc r.0, r.1)

-- what passes a test is one of the list
pub filter_back : {X : Type 0} (test : X → Bool) (xs : List X) (n : ℕ) (y : X) → slice_get (filter test xs) n ≡ Some y → (k : ℕ) × (slice_get xs k ≡ Some y)
filter_back test [] n y at = let bad : None ≡ Some y = at in cc
filter_back test (x ∷ xs) n y at = filter_step test x xs n y (test x) (λ m found. filter_back test xs m y found) at

-- ---- what holds at each place

abbrev pub Every : {X : Type 0} → (X → Type 0) → List X → Type 0
Every {X} P xs = (i : ℕ) (x : X) → slice_get xs i ≡ Some x → P x

pub every_append : {X : Type 0} (P : X → Type 0) (xs ys : List X) → Every P xs → Every P ys → Every P (xs ++ ys)
every_append P xs ys front back i x at =
    elim (get_append xs ys i x at) [ inl before ↦ front i x before | inr after ↦ back after.0 x after.2 ]

pub every_flat : {X Y : Type 0} (P : Y → Type 0) (f : X → List Y) (xs : List X) → ((i : ℕ) (x : X) → slice_get xs i ≡ Some x → Every P (f x)) → Every P (flat_map f xs)
every_flat P f xs each i y at = let r = get_flat f xs i y at in each r.0 r.1 r.3 r.2 y r.4

pub every_map : {X Y : Type 0} (P : Y → Type 0) (f : X → Y) (xs : List X) → ((i : ℕ) (x : X) → slice_get xs i ≡ Some x → P (f x)) → Every P (map f xs)
every_map P f xs each i y at = let r = get_map f xs i y at in subst P (sym r.2) (each i r.0 r.1)

pub every_kept : {X Y : Type 0} (P : Y → Type 0) (h : X → Option Y) (xs : List X) → ((x : X) (y : Y) → h x ≡ Some y → P y) → Every P (filter_map h xs)
every_kept P h xs each i y at = let r = get_kept h xs i y at in each r.1 y r.3

pub every_none : {X : Type 0} (P : X → Type 0) → Every P []
every_none P i x at = let bad : None ≡ Some x = at in cc

-- ---- names

-- an earlier name is among those before
pub among_before : (names : List (List ℕ)) (n i : ℕ) (name : List ℕ) → i < n → slice_get names i ≡ Some name → is_among (take n names) name ≡ true
among_before [] n i name low at = let bad : None ≡ Some name = at in cc
among_before (first ∷ names) zero i name low at = absurd (omega (arith, low))
among_before (first ∷ names) (suc n) zero name low at =
    let e : Some first ≡ Some name = at in
    let same : name ≡ first = cc in
    or_left (same_text name first) (is_among (take n names) name) ((bytes_eq-Decides name first).1 same)
among_before (first ∷ names) (suc n) (suc i) name low at =
    or_right (same_text name first) (is_among (take n names) name) (among_before names n i name (omega (arith, low)) at)

pub distinct_from : (names : List (List ℕ)) → ((j : ℕ) (name : List ℕ) → slice_get names j ≡ Some name → is_among (take j names) name ≡ true → ⊥) → AreDistinct names
distinct_from names never i j name at_i at_j =
    elim (cases_lt i j) [
      | inl earlier ↦ absurd (never j name at_j (among_before names j i name earlier at_i))
      | inr other ↦ elim (cases_lt j i) [
        | inl later ↦ absurd (never i name at_i (among_before names i j name later at_j))
        | inr same ↦ omega (arith, other, same)
      ]
    ]

-- things of which none has a bad name or that of an earlier one
pub good_names : {X : Type 0} (name : X → List ℕ) (xs : List X)
    → ((i : ℕ) (x : X) → slice_get xs i ≡ Some x → is_good_name (name x) ≡ false → ⊥)
    → ((i : ℕ) (x : X) → slice_get xs i ≡ Some x → is_among (map name (take i xs)) (name x) ≡ true → ⊥) → AreGoodNames (map name xs)
good_names name xs never_bad never_twice = (
  all_from (λ (n : List ℕ). is_good_name n ≡ true) (map name xs) (λ i n at.
      let r = get_map name xs i n at in
      subst (λ (m : List ℕ). is_good_name m ≡ true) (sym r.2)
      (true_from_ne_false (is_good_name (name r.0)) (λ bad. never_bad i r.0 r.1 bad))),
  distinct_from (map name xs) (λ j n at again.
      let r = get_map name xs j n at in
      never_twice j r.0 r.1
      (ap (λ (ns : List (List ℕ)). is_among ns (name r.0)) (sym (take-map name j xs))
      ∙ (ap (λ (m : List ℕ). is_among (take j (map name xs)) m) (sym r.2) ∙ again))),
)
