-- Names in a set and names in a list.
use Rattle.std.proofs.Common.{◌≡◌, ℕ, ◌+◌, ◌<◌, Bool, true, false, cond, List, [], ◌∷◌, ◌++◌, length, take, get_or, Ordering, refl, sym, ap, ◌∙◌, subst, inl, inr}
use Rattle.std.specs.Prelude.{◌⊎◌, ◌↔◌}
use Rattle.std.specs.Ordering.{is_eq, nat_cmp}
use Rattle.std.specs.declared.cmp.Ordering.TheVariants.{Less, Equal, Greater}
use Rattle.std.specs.Cmp.Lexicographic.{slice_cmp}
use Rattle.std.specs.List.{Contains}
use Rattle.std.specs.BTreeSet.{BTreeSet, contains, Updates}
use Rattle.std.proofs.lemmas.Cmp.{nat_list_cmp_total, tied_itself}
use Rattle.std.proofs.lemmas.List.{map_more}
use Rattle.std.proofs.lemmas.List.Elements.{Contains-append_left, Contains-push, Contains-push_cases}
use Rattle.std.proofs.lemmas.Map.Lookups.{exact_bytes}
use Rattle.std.proofs.lemmas.Map.Views.{btree_set_contains_iff}
use Rattle.timing_types.specs.declared.identities.Standing.{Standing}
use Rattle.merge_model.specs.ClockIdentity.{names_of, numbered_name, IsMergedName}
use Rattle.clock_map.specs.MergedClocks.{HaveSameNames, HasOneMore}

abbrev text_cmp : List ℕ → List ℕ → Ordering
text_cmp = slice_cmp nat_cmp

has : (names : BTreeSet (List ℕ)) (name : List ℕ) → (contains text_cmp names name ≡ true) ↔ Contains names.keys name
has names name = btree_set_contains_iff nat_list_cmp_total exact_bytes names name

-- a set into which a name went
pub one_more : (before after : BTreeSet (List ℕ)) (added : List ℕ) → Updates text_cmp before after added true → HasOneMore before.keys added after.keys
one_more before after added updates name = (by_order (text_cmp added name) refl, both) where
  at : contains text_cmp after name ≡ cond (is_eq (text_cmp added name)) true (contains text_cmp before name)
  at = updates.0 name

  other : is_eq (text_cmp added name) ≡ false → Contains after.keys name → Contains before.keys name
  other e h = (has before name).0 (sym (at ∙ ap (λ b. cond b true (contains text_cmp before name)) e) ∙ (has after name).1 h)

  by_order : (o : Ordering) → text_cmp added name ≡ o → Contains after.keys name → Contains before.keys name ⊎ (added ≡ name)
  by_order Less e h = inl (other (ap is_eq e) h)
  by_order Equal e h = inr (exact_bytes added name e)
  by_order Greater e h = inl (other (ap is_eq e) h)

  kept : (b c : Bool) → c ≡ true → cond b true c ≡ true
  kept true c e = refl
  kept false c e = e

  both : Contains before.keys name ⊎ (added ≡ name) → Contains after.keys name
  both (inl h) = (has after name).0 (at ∙ kept (is_eq (text_cmp added name)) (contains text_cmp before name) ((has before name).1 h))
  both (inr e) = (has after name).0 (at ∙ ap (λ o. cond (is_eq o) true (contains text_cmp before name)) (ap (λ n. text_cmp added n) (sym e) ∙ tied_itself nat_list_cmp_total added))

-- one name more in both
pub same_more : (set set' list : List (List ℕ)) (added : List ℕ) → HasOneMore set added set' → HaveSameNames set list → HaveSameNames set' (list ++ added ∷ [])
same_more set set' list added more same name = (from_set, from_list) where
  from_set : Contains set' name → Contains (list ++ added ∷ []) name
  from_set h = elim ((more name).0 h) [
    | inl old ↦ Contains-append_left list (added ∷ []) name ((same name).0 old)
    | inr new ↦ subst (λ (n : List ℕ). Contains (list ++ added ∷ []) n) new (Contains-push list added)
  ]

  from_list : Contains (list ++ added ∷ []) name → Contains set' name
  from_list h = elim (Contains-push_cases list added name h) [
    | inl old ↦ (more name).1 (inl ((same name).1 old))
    | inr new ↦ (more name).1 (inr new)
  ]

-- the name of a merged clock is the same in the words of lists that have the same names
pub name_transfers : (own own' earlier earlier' : List (List ℕ)) (first name : List ℕ) → HaveSameNames own own' → HaveSameNames earlier earlier'
    → IsMergedName own earlier first name → IsMergedName own' earlier' first name
name_transfers own own' earlier earlier' first name same same' is =
    elim is [
      | inl first_is ↦ inl (λ h. first_is.0 ((same' first).1 h), first_is.1)
      | inr free ↦ inr (
        (same' first).0 free.0,
        record {
          k = free.1.k;
          positive = free.1.positive;
          is = free.1.is;
          not_own = λ h. free.1.not_own ((same name).1 h);
          not_earlier = λ h. free.1.not_earlier ((same' name).1 h);
          least = λ j low high. elim (free.1.least j low high) [
            | inl h ↦ inl ((same (numbered_name first j)).0 h)
            | inr h ↦ inr ((same' (numbered_name first j)).0 h)
          ];
        },
      )
    ]

pub names_step : (standings : List Standing) (i : ℕ) (standing : Standing) (set set' : List (List ℕ)) → i < length standings → standing ≡ get_or standings i standing
    → HasOneMore set standing.name set' → HaveSameNames set (names_of (take i standings)) → HaveSameNames set' (names_of (take (i + 1) standings))
names_step standings i standing set set' within is more same =
    let grown : names_of (take (i + 1) standings) ≡ names_of (take i standings) ++ standing.name ∷ [] =
    map_more (λ clock. clock.name) standings i standing within ∙ ap (λ s. names_of (take i standings) ++ s.name ∷ []) (sym is) in
    subst (λ (ns : List (List ℕ)). HaveSameNames set' ns) (sym grown) (same_more set set' (names_of (take i standings)) standing.name more same)
