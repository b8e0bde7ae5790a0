-- Things in a row: what stands at a place is one thing or what stops the row there, and a row is one where each is.
use Rattle.std.proofs.Common.{◌≡◌, List, [], ◌∷◌, refl, sym, ap, subst, ◌∙◌}
use Rattle.text_model.specs.Row.{Front, HasOne, Row, found, stops}

pub same_end : {T P E : Type 0} → (e f : E) → ◌≡◌ {A = Front T P E} (stops e) (stops f) → e ≡ f
same_end e f h = cc

pub same_thing : {T P E : Type 0} → (x y : T) (p q : P) → ◌≡◌ {A = Front T P E} (found x p) (found y q) → x ≡ y
same_thing x y p q h = cc

pub same_place : {T P E : Type 0} → (x y : T) (p q : P) → ◌≡◌ {A = Front T P E} (found x p) (found y q) → p ≡ q
same_place x y p q h = cc

pub not_both : {T P E : Type 0} → (x : T) (p : P) (e : E) → ◌≡◌ {A = Front T P E} (found x p) (stops e) → ⊥
not_both x p e h = cc

-- where what stands at each place is one, a row is one, and what stops it
pub row_once : {T P E : Type 0} → (Stands : P → Front T P E → Type 0) → ((p : P) → HasOne Stands p) → (xs ys : List T) (p : P) (e f : E) → Row Stands xs p e → Row Stands ys p f → (xs ≡ ys) × (e ≡ f)
row_once Stands one [] [] p e f r s = (refl, same_end e f (one p (stops e) (stops f) r s))
row_once Stands one [] (y ∷ ys) p e f r s = absurd (not_both y s.0 e (sym (one p (stops e) (found y s.0) r s.1)))
row_once Stands one (x ∷ xs) [] p e f r s = absurd (not_both x r.0 f (one p (found x r.0) (stops f) r.1 s))
row_once {P = P} Stands one (x ∷ xs) (y ∷ ys) p e f r s =
    let same = one p (found x r.0) (found y s.0) r.1 s.1 in
    let rest = row_once Stands one xs ys s.0 e f (subst (λ (q : P). Row Stands xs q e) (same_place x y r.0 s.0 same) r.2) s.2 in
    let first : x ≡ y = same_thing x y r.0 s.0 same in
    (ap (λ z. z ∷ xs) first ∙ ap (λ zs. y ∷ zs) rest.0, rest.1)
