-- Names with `_k`: no two of them are the same, so that some are free.
use Rattle.std.proofs.Common.{◌≡◌, ℕ, zero, suc, ◌+◌, ◌<◌, ◌≤◌, ◌^◌, Bool, true, false, List, [], ◌∷◌, ◌++◌, length, refl, sym, ap, ◌∙◌, subst, inl, inr, arith}
use Rattle.std.specs.Prelude.{◌⊎◌, ◌||◌, codes, IsTrue}
use Rattle.std.specs.BTreeSet.{BTreeSet, contains}
use Rattle.std.specs.Fmt.{decimal}
use Rattle.std.specs.Ordering.{nat_cmp, eq_by_cmp}
use Rattle.std.specs.Cmp.{IsEquivalence}
use Rattle.std.specs.Cmp.Lexicographic.{slice_cmp}
use Rattle.std.specs.List.{Contains, IsDistinct, AllByRecursion, list_any}
use Rattle.std.specs.Set.{is_member}
use Rattle.std.proofs.lemmas.Bool.{false≢true, cases_lt}
use Rattle.std.proofs.lemmas.Cmp.{nat_list_cmp_total, eq_by_cmp_equiv}
use Rattle.std.proofs.lemmas.Fmt.{decimal_injective}
use Rattle.std.proofs.lemmas.List.{append_cancel_left, length-append}
use Rattle.std.proofs.lemmas.List.Elements.{Contains-append_left, Contains-append_right}
use Rattle.std.proofs.lemmas.Map.Lookups.{exact_bytes}
use Rattle.std.proofs.lemmas.Map.Made.{length-le_from_is_member}
use Rattle.std.proofs.lemmas.Map.Views.{tells_apart, list_any-from_Contains, btree_set_contains_iff}
use Rattle.clock_map.specs.MergedClocks.{IsTaken}
use Rattle.merge_model.specs.ClockIdentity.{numbered_name, IsFreeName}

-- two texts are the same
abbrev same : List ℕ → List ℕ → Bool
same = eq_by_cmp (slice_cmp nat_cmp)

same_laws : IsEquivalence same
same_laws = eq_by_cmp_equiv nat_list_cmp_total

numbers_differ : (name : List ℕ) (j k : ℕ) → j < 2 ^ 64 → k < 2 ^ 64 → numbered_name name j ≡ numbered_name name k → j ≡ k
numbers_differ name j k small small' e =
    decimal_injective j k small small'
    (append_cancel_left (codes "_") (decimal j) (decimal k) (append_cancel_left name (codes "_" ++ decimal j) (codes "_" ++ decimal k) e))

-- the names with `_k` down to `_1`
names_to : List ℕ → ℕ → List (List ℕ)
names_to name zero = []
names_to name (suc k) = numbered_name name (suc k) ∷ names_to name k

length-names_to : (name : List ℕ) (k : ℕ) → length (names_to name k) ≡ k
unfolding names_to
length-names_to name zero = refl
length-names_to name (suc k) = let h = length-names_to name k in ap suc h

none_same : (name : List ℕ) (k j : ℕ) → k < 2 ^ 64 → j < k → AllByRecursion (λ y. same (numbered_name name k) y ≡ false) (names_to name j)
unfolding names_to
none_same name k zero small below = tt
none_same name k (suc j) small below =
    (differs (same (numbered_name name k) (numbered_name name (suc j))) refl, none_same name k j small (omega arith)) where
      differs : (b : Bool) → same (numbered_name name k) (numbered_name name (suc j)) ≡ b → b ≡ false
      differs false e = refl
      differs true e =
          let equal = numbers_differ name k (suc j) small (omega arith) (tells_apart exact_bytes _ _ e) in absurd (omega arith)

distinct : (name : List ℕ) (k : ℕ) → k < 2 ^ 64 → IsDistinct same (names_to name k)
unfolding names_to IsDistinct
distinct name zero small = tt
distinct name (suc k) small = (none_same name (suc k) k small (omega arith), distinct name k (omega arith))

-- the names with `_k` below a number are taken
abbrev pub TakenBelow : List (List ℕ) → List (List ℕ) → List ℕ → ℕ → Type 0
TakenBelow own earlier name k = (j : ℕ) → 1 ≤ j → j < k → IsTaken own earlier (numbered_name name j)

among : (own earlier : List (List ℕ)) (name : List ℕ) → IsTaken own earlier name → Contains (own ++ earlier) name
among own earlier name taken =
    elim taken [ inl h ↦ Contains-append_left own earlier name h | inr h ↦ Contains-append_right own earlier name h ]

one_member : (own earlier : List (List ℕ)) (q name : List ℕ) (b rest : Bool) → IsTaken own earlier name → same q name ≡ b
    → (rest ≡ true → is_member same (own ++ earlier) q ≡ true) → b || rest ≡ true → is_member same (own ++ earlier) q ≡ true
one_member own earlier q name false rest taken e others h = others h
one_member own earlier q name true rest taken e others h =
    let equal : q ≡ name = tells_apart exact_bytes q name e in
    ap (λ t. list_any (same t) (own ++ earlier)) equal
    ∙ list_any-from_Contains same_laws name (own ++ earlier) (among own earlier name taken)

members : (own earlier : List (List ℕ)) (name : List ℕ) (k : ℕ) → TakenBelow own earlier name (suc k)
    → (q : List ℕ) → is_member same (names_to name k) q ≡ true → is_member same (own ++ earlier) q ≡ true
unfolding names_to
members own earlier name zero taken q e = absurd (false≢true e)
members own earlier name (suc k) taken q e =
    one_member own earlier q (numbered_name name (suc k)) (same q (numbered_name name (suc k))) (is_member same (names_to name k) q)
    (taken (suc k) (omega arith) (omega arith)) refl
    (members own earlier name k (λ j low high. taken j low (omega arith)) q) e

-- no more names are taken than there are
pub few_taken : (own earlier : List (List ℕ)) (name : List ℕ) (k : ℕ) → k < 2 ^ 64 → TakenBelow own earlier name (suc k) → k ≤ length own + length earlier
few_taken own earlier name k small taken =
    let h = length-le_from_is_member same_laws (names_to name k) (own ++ earlier) (distinct name k small) (members own earlier name k taken) in
    let long = length-names_to name k in
    let both = length-append own earlier in
    omega arith

-- one name more is taken
pub taken_more : (own earlier : List (List ℕ)) (name : List ℕ) (k : ℕ) → TakenBelow own earlier name k → IsTaken own earlier (numbered_name name k)
    → TakenBelow own earlier name (k + 1)
taken_more own earlier name k below here j low high = by_place (cases_lt j k) where
  by_place : (j < k) ⊎ (k ≤ j) → IsTaken own earlier (numbered_name name j)
  by_place (inl less) = below j low less
  by_place (inr more) = let is : k ≡ j = omega arith in subst (λ (n : ℕ). IsTaken own earlier (numbered_name name n)) is here

-- the least number of a name that is not taken is the free name's
pub is_free : (own earlier : List (List ℕ)) (first name : List ℕ) (k : ℕ) → 1 ≤ k → name ≡ numbered_name first k
    → TakenBelow own earlier first k → (IsTaken own earlier name → ⊥) → IsFreeName own earlier first name
is_free own earlier first name k positive is below free = record {
  k = k;
  positive = positive;
  is = is;
  not_own = λ h. free (inl h);
  not_earlier = λ h. free (inr h);
  least = below;
}

-- ---- names in a set

-- what a set answers says whether its keys have the name
pub held : (names : BTreeSet (List ℕ)) (name : List ℕ) (b : Bool) → b ≡ contains (slice_cmp nat_cmp) names name → (IsTrue b → Contains names.keys name) × (Contains names.keys name → IsTrue b)
held names name b e =
    let iff = btree_set_contains_iff nat_list_cmp_total exact_bytes names name in
    (λ h. iff.0 (sym e ∙ h), λ h. e ∙ iff.1 h)

pub held_first : (own earlier : BTreeSet (List ℕ)) (name : List ℕ) (b : Bool) → b ≡ contains (slice_cmp nat_cmp) own name → b ≡ true
    → (IsTrue b → IsTaken own.keys earlier.keys name) × (IsTaken own.keys earlier.keys name → IsTrue b)
held_first own earlier name b e t = (λ h. inl ((held own name b e).0 h), λ _. t)

pub held_second : (own earlier : BTreeSet (List ℕ)) (name : List ℕ) (a b : Bool) → a ≡ contains (slice_cmp nat_cmp) own name → a ≡ false
    → b ≡ contains (slice_cmp nat_cmp) earlier name
    → (IsTrue b → IsTaken own.keys earlier.keys name) × (IsTaken own.keys earlier.keys name → IsTrue b)
held_second own earlier name a b e f g = (
  λ h. inr ((held earlier name b g).0 h),
  λ taken. elim taken [
    | inl h ↦ absurd (false≢true (sym f ∙ (held own name a e).1 h))
    | inr h ↦ (held earlier name b g).1 h
  ],
)
