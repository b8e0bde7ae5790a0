-- Lists of marks, whatever a mark is.
use Rattle.std.proofs.Common.{◌≡◌, ◌<◌, ◌==◌, inl, inr, ℕ, zero, suc, Bool, true, List, ◌∷◌, get_or, length, replicate, set, refl, sym, ◌∙◌, subst}
use Rattle.std.proofs.lemmas.Bool.{cases_eq, eq-eqb, ne_eqb, or_left}
use Rattle.std.proofs.lemmas.List.{get_or-set_same, get_or-set_other}
use Rattle.flat_design.specs.Walk.{is_in}

-- another number in front
pub in_other : (x y : ℕ) (xs : List ℕ) → (x ≡ y → ⊥) → is_in (x ∷ xs) y ≡ is_in xs y
in_other x y xs ne = rw (ne_eqb x y ne) refl

-- ---- marks

pub all_new : {M : Type 0} (n i : ℕ) (new : M) → get_or (replicate n new) i new ≡ new
all_new zero i new = refl
all_new (suc n) zero new = refl
all_new (suc n) (suc i) new = all_new n i new

-- a property of marks goes over to those with a new one at a place
pub marks_as : {M : Type 0} (marks : List M) (i : ℕ) (mark new : M) → i < length marks → (P : ℕ → M → Type 0) → P i mark
    → (j : ℕ) → ((i ≡ j → ⊥) → P j (get_or marks j new)) → P j (get_or (set marks i mark) j new)
marks_as marks i mark new inside P own j before =
    elim (cases_eq i j) [
      | inl same ↦
          subst (λ (n : ℕ). P n (get_or (set marks i mark) n new)) same (subst (P i) (sym (get_or-set_same marks i mark new inside)) own)
      | inr distinct ↦ subst (P j) (sym (get_or-set_other marks i j mark new (λ e. distinct (sym e)))) (before distinct)
    ]

-- one thing more is marked as others are
pub marked_more : {M : Type 0} (is_marked : M → Bool) (mark new : M) → is_marked mark ≡ true → (marks : List M) (others : List ℕ) (i : ℕ) → i < length marks
    → ((j : ℕ) → is_marked (get_or marks j new) ≡ is_in others j) → (j : ℕ) → is_marked (get_or (set marks i mark) j new) ≡ is_in (i ∷ others) j
marked_more is_marked mark new is marks others i inside known j =
    marks_as marks i mark new inside (λ n one. is_marked one ≡ is_in (i ∷ others) n)
    (is ∙ sym (or_left (i == i) (is_in others i) (eq-eqb i i refl))) j (λ distinct. known j ∙ sym (in_other i j others distinct))
