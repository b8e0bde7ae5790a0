-- Checks by what tells them apart: each stands once.
use Rattle.std.proofs.Common.{◌≡◌, ◌∙◌, ◌||◌, ◌&&◌, ◌==◌, ℕ, Bool, true, false, cond, List, [], ◌∷◌, ◌++◌, refl, sym, ap}
use Rattle.std.proofs.Math.Bool.{or-false, or_assoc}
use Rattle.std.proofs.lemmas.Map.Text.{is_eq-slice_cmp}
use Rattle.std.specs.BTreeSet.{BTreeSet, Updates, contains}
use Rattle.std.specs.Cmp.Lexicographic.{slice_cmp}
use Rattle.std.specs.List.{list_any}
use Rattle.std.specs.Ordering.{nat_cmp}
use Rattle.sdc_base.proofs.CaseFacts.{cond_or}
use Rattle.pin_types.specs.declared.library_cells.LibCheck.{LibCheck}
use Rattle.pin_types.specs.Nodes.{side_number}
use Rattle.library_model.specs.LibertyArcs.{is_same_check, with_check}
use Rattle.pin_types.specs.Nodes.{edge_number}
use Rattle.text_model.specs.Words.{same_text}
use Rattle.lib_cells.specs.CheckKeys.{HasKeys, check_key, has_key}

-- ---- the same check

and_four : (x y z w : Bool) → (x && (y && (z && (w && true)))) ≡ (x && y && z && w)
and_four true true true true = refl
and_four true true true false = refl
and_four true true false w = refl
and_four true false z w = refl
and_four false y z w = refl

key_same : (check other : LibCheck) → same_text (check_key check) (check_key other) ≡ is_same_check check other
key_same check other =
    and_four (check.pin == other.pin) (check.clock == other.clock)
    (edge_number check.clock_edge == edge_number other.clock_edge) (side_number check.side == side_number other.side)

has_key-same : (checks : List LibCheck) (check : LibCheck)
    → has_key checks (check_key check) ≡ list_any (λ (other : LibCheck). is_same_check other check) checks
has_key-same [] check = refl
has_key-same (other ∷ checks) check =
    ap (λ t. t || has_key checks (check_key check)) (key_same other check)
    ∙ ap (λ t. is_same_check other check || t) (has_key-same checks check)

-- ---- a check more

known_same : (known : BTreeSet (List ℕ)) (checks : List LibCheck) (check : LibCheck) (t : Bool) → HasKeys known checks
    → contains (slice_cmp nat_cmp) known (check_key check) ≡ t → list_any (λ (other : LibCheck). is_same_check other check) checks ≡ t
known_same known checks check t has e = sym (has_key-same checks check) ∙ (sym (has (check_key check)) ∙ e)

pub stays : (known : BTreeSet (List ℕ)) (checks : List LibCheck) (check : LibCheck) → HasKeys known checks
    → contains (slice_cmp nat_cmp) known (check_key check) ≡ true → checks ≡ with_check checks check
stays known checks check has e = sym (ap (λ t. cond t checks (checks ++ check ∷ [])) (known_same known checks check true has e))

pub pushes : (known : BTreeSet (List ℕ)) (checks : List LibCheck) (check : LibCheck) → HasKeys known checks
    → contains (slice_cmp nat_cmp) known (check_key check) ≡ false → checks ++ check ∷ [] ≡ with_check checks check
pushes known checks check has e = sym (ap (λ t. cond t checks (checks ++ check ∷ [])) (known_same known checks check false has e))

has_key-push : (checks : List LibCheck) (check : LibCheck) (key : List ℕ)
    → has_key (checks ++ check ∷ []) key ≡ (has_key checks key || same_text (check_key check) key)
has_key-push [] check key = or-false (same_text (check_key check) key)
has_key-push (other ∷ checks) check key =
    ap (λ t. same_text (check_key other) key || t) (has_key-push checks check key)
    ∙ sym (or_assoc (same_text (check_key other) key) (has_key checks key) (same_text (check_key check) key))

pub pushes_keys : (old new : BTreeSet (List ℕ)) (checks : List LibCheck) (check : LibCheck) → HasKeys old checks
    → Updates (slice_cmp nat_cmp) old new (check_key check) true → HasKeys new (checks ++ check ∷ [])
pushes_keys old new checks check has updates key =
    updates.0 key
    ∙ (ap (λ t. cond t true (contains (slice_cmp nat_cmp) old key)) (is_eq-slice_cmp (check_key check) key)
    ∙ (cond_or (same_text (check_key check) key) (contains (slice_cmp nat_cmp) old key)
    ∙ (ap (λ t. t || same_text (check_key check) key) (has key)
    ∙ sym (has_key-push checks check key))))
