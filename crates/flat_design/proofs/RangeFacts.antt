-- The bits of a range by their places.
use Rattle.std.proofs.Common.{◌≡◌, ◌+◌, ◌-◌, ◌<◌, ◌≤◌, ℕ, zero, suc, List, [], ◌∷◌, map, slice_get, Some, None, ◌∙◌, ap, subst, arith}
use Rattle.std.proofs.lemmas.Bool.{cond-false, cond-true, le-leb, lt-leb}
use Rattle.netlist_model.specs.Ranges.{falling, from_to, rising, span}

rising_at : (n count place : ℕ) → place < count → slice_get (rising n count) place ≡ Some (n + place)
rising_at n zero place h = absurd (omega arith)
rising_at n (suc count) zero h = let e : n ≡ n + 0 = omega arith in ap (λ (k : ℕ). Some k) e
rising_at n (suc count) (suc place) h =
    let e : n + 1 + place ≡ n + suc place = omega arith in
    rising_at (n + 1) count place (omega arith) ∙ ap (λ (k : ℕ). Some k) e

falling_at : (n count place : ℕ) → place < count → slice_get (falling n count) place ≡ Some (n - place)
falling_at n zero place h = absurd (omega arith)
falling_at n (suc count) zero h = let e : n ≡ n - 0 = omega arith in ap (λ (k : ℕ). Some k) e
falling_at n (suc count) (suc place) h =
    let e : n - 1 - place ≡ n - suc place = omega arith in
    falling_at (n - 1) count place (omega arith) ∙ ap (λ (k : ℕ). Some k) e

-- where the range rises, or falls
pub up_within : (left right place : ℕ) → left ≤ right → place < span left right → place < (right - left) + 1
up_within left right place h within = subst (λ (n : ℕ). place < n) (cond-true _ _ _ (le-leb left right h)) within

pub down_within : (left right place : ℕ) → right < left → place < span left right → place < (left - right) + 1
down_within left right place h within = subst (λ (n : ℕ). place < n) (cond-false _ _ _ (lt-leb left right h)) within

pub up_at : (left right place : ℕ) → left ≤ right → place < span left right → slice_get (from_to left right) place ≡ Some (left + place)
up_at left right place h within =
    ap (λ (xs : List ℕ). slice_get xs place) (cond-true _ _ _ (le-leb left right h))
    ∙ rising_at left ((right - left) + 1) place (up_within left right place h within)

pub down_at : (left right place : ℕ) → right < left → place < span left right → slice_get (from_to left right) place ≡ Some (left - place)
down_at left right place h within =
    ap (λ (xs : List ℕ). slice_get xs place) (cond-false _ _ _ (lt-leb left right h))
    ∙ falling_at left ((left - right) + 1) place (down_within left right place h within)

pub map_at : {A B : Type 0} (f : A → B) (xs : List A) (place : ℕ) (x : A) → slice_get xs place ≡ Some x → slice_get (map f xs) place ≡ Some (f x)
map_at f [] place x h = let e : None ≡ Some x = h in cc
map_at f (y ∷ ys) zero x h = let e : Some y ≡ Some x = h in let s : y ≡ x = cc in ap (λ z. Some (f z)) s
map_at f (y ∷ ys) (suc place) x h = map_at f ys place x h
