-- Names that are taken one by one out of a list, each put beside what stands at its place.
use Rattle.std.proofs.Common.{◌≡◌, ◌≤◌, ℕ, List, [], ◌∷◌, ◌++◌, length, map, slice_get, Some, None, sym, ◌∙◌, ap, arith}
use Rattle.std.proofs.IntoIterSteps.{All-taken}
use Rattle.std.proofs.lemmas.List.{length-map, map-append}
use Rattle.std.proofs.lemmas.Slice.Zip.{length-zip}
use Rattle.std.specs.Iterator.{Yields}
use Rattle.std.specs.List.{zip}
use Rattle.std.specs.Vec.Iter.{into_iter_items, into_iter_steps}
use Rattle.std.specs.declared.vec.IntoIter.{IntoIter}
use Rattle.flat_design.proofs.PlaceFacts.{get_middle}

-- what was taken is a front of all
taken_front : {X A : Type 0} (s : IntoIter X A) (xs : List X) (t : IntoIter X A) → Yields into_iter_steps s xs t → into_iter_items s ≡ xs ++ into_iter_items t
taken_front s [] t y = ap into_iter_items y
taken_front s (x ∷ xs) t y = y.1.0 ∙ ap (λ ys. x ∷ ys) (taken_front y.0 xs t y.2)

-- what is taken next stands after what was taken
pub taken_at : {X A : Type 0} (s t u : IntoIter X A) (xs all : List X) (x : X) → into_iter_items s ≡ all → Yields into_iter_steps s xs t → into_iter_steps t (Some x) u
    → slice_get all (length xs) ≡ Some x
taken_at s t u xs all x same taken step =
    ap (λ ys. slice_get ys (length xs)) (sym same ∙ (taken_front s xs t taken ∙ ap (λ ys. xs ++ ys) step.0)) ∙ get_middle xs x (into_iter_items u)

-- one more of two lists side by side
zip_one : {A B : Type 0} (xs : List A) (ys : List B) (x : A) (y : B) → slice_get ys (length xs) ≡ Some y → zip (xs ++ x ∷ []) ys ≡ zip xs ys ++ (x, y) ∷ []
zip_one [] [] x y at = let bad : None ≡ Some y = at in cc
zip_one [] (b ∷ ys) x y at =
    let e : Some b ≡ Some y = at in
    let same : b ≡ y = cc in
    ap (λ z. (x, z) ∷ []) same
zip_one (a ∷ xs) [] x y at = let bad : None ≡ Some y = at in cc
zip_one (a ∷ xs) (b ∷ ys) x y at = ap (λ zs. (a, b) ∷ zs) (zip_one xs ys x y at)

-- one more name with what is beside it
pub beside_more : {B C : Type 0} (f : List ℕ × B → C) (names : List (List ℕ)) (ys : List B) (name : List ℕ) (y : B) (old new : List C)
    → slice_get ys (length names) ≡ Some y → new ≡ old ++ f (name, y) ∷ [] → old ≡ map f (zip names ys) → new ≡ map f (zip (names ++ name ∷ []) ys)
beside_more f names ys name y old new at same so_far =
    same ∙ (ap (λ zs. zs ++ f (name, y) ∷ []) so_far
    ∙ sym (ap (map f) (zip_one names ys name y at) ∙ map-append f (zip names ys) ((name, y) ∷ [])))

pub beside_length : {B C : Type 0} (f : List ℕ × B → C) (names : List (List ℕ)) (ys : List B) (made : List C) → length names ≤ length ys → made ≡ map f (zip names ys)
    → length made ≡ length names
beside_length {B} f names ys made low same =
    let a : length made ≡ length (map f (zip names ys)) = ap length same in
    let b = length-map (zip names ys) f in
    let c = length-zip names ys in
    omega (arith, low, a, b, c)

-- where nothing is left, all was taken
pub taken_all : {X A : Type 0} (s t u : IntoIter X A) (xs all : List X) → into_iter_items s ≡ all → Yields into_iter_steps s xs t → into_iter_steps t None u → all ≡ xs
taken_all s t u xs all same taken step = sym (All-taken s xs (u, (t, taken, step)) ∙ same)
