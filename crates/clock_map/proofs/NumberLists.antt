-- Numbering identities one by one, with a map of what is known.
use Rattle.std.proofs.Common.{◌≡◌, ℕ, zero, suc, ◌+◌, ◌<◌, ◌≤◌, false, cond, List, [], ◌∷◌, ◌++◌, length, take, get_or, Some, None, refl, sym, ap, ◌∙◌, subst, inl, inr, arith, add-one}
use Rattle.std.specs.Prelude.{◌⊎◌, slice_get}
use Rattle.std.specs.Ordering.{is_eq}
use Rattle.std.specs.declared.cmp.Ordering.{Ordering}
use Rattle.std.specs.declared.cmp.Ordering.TheVariants.{Less, Equal, Greater}
use Rattle.std.specs.Cmp.{IsTotalOrder}
use Rattle.std.specs.BTreeMap.{BTreeMap, get, Updates, IsUnchanged, btree_map_len}
use Rattle.std.specs.BTreeMap.{is_at}
use Rattle.std.specs.Map.{lookup}
use Rattle.std.proofs.lemmas.Cmp.{tied_itself}
use Rattle.std.proofs.lemmas.Option.{same_Some}
use Rattle.std.proofs.lemmas.List.{length_push, take_more, take_all, length-take-le}
use Rattle.timing_types.specs.declared.identities.Identity.{Identity}
use Rattle.timing_types.specs.contracts.identities.IdentityOrd.TheImpl.Laws as identity_laws
use Rattle.text_model.proofs.ListFacts.{element_at}
use Rattle.clock_map.specs.Numbering.{RisesTo, AreNumbers, Numbers, identity_cmp}
use Rattle.clock_map.proofs.Exact.{identity_exact}

identity_total : IsTotalOrder identity_cmp
identity_total = identity_laws.total-law

-- ---- two lists that grew together

-- the elements at a place are two old ones, or the two new ones at the end
pub pair_cases : {X Y : Type 0} (xs : List X) (ys : List Y) (a : X) (b : Y) (p : ℕ) (x : X) (y : Y) → length ys ≡ length xs
    → slice_get (xs ++ a ∷ []) p ≡ Some x → slice_get (ys ++ b ∷ []) p ≡ Some y
    → ((slice_get xs p ≡ Some x) × (slice_get ys p ≡ Some y)) ⊎ ((p ≡ length xs) × (a ≡ x) × (b ≡ y))
pair_cases [] [] a b zero x y same e f = inr (refl, cc, cc)
pair_cases [] [] a b (suc p) x y same e f = cc
pair_cases [] (y' ∷ ys) a b p x y same e f = cc
pair_cases (x' ∷ xs) [] a b p x y same e f = cc
pair_cases (x' ∷ xs) (y' ∷ ys) a b zero x y same e f = inl (e, f)
pair_cases (x' ∷ xs) (y' ∷ ys) a b (suc p) x y same e f =
    elim (pair_cases xs ys a b p x y (omega (arith, same)) e f) [ inl old ↦ inl old | inr new ↦ inr (ap suc new.0, new.1, new.2) ]

-- ---- rising numbers

pub rises_known : (next : ℕ) (numbers : List ℕ) (last number : ℕ) → RisesTo next numbers last → number < last → RisesTo next (numbers ++ number ∷ []) last
rises_known next [] last number rises below = inl (subst (λ (n : ℕ). number < n) (sym rises) below, rises)
rises_known next (first ∷ numbers) last number rises below =
    elim rises [
      | inl old ↦ inl (old.0, rises_known next numbers last number old.1 below)
      | inr new ↦ inr (new.0, rises_known (suc next) numbers last number new.1 below)
    ]

pub rises_new : (next : ℕ) (numbers : List ℕ) (last number : ℕ) → RisesTo next numbers last → number ≡ last → RisesTo next (numbers ++ number ∷ []) (last + 1)
rises_new next [] last number rises is = inr (is ∙ sym rises, ap suc rises ∙ sym (add-one last))
rises_new next (first ∷ numbers) last number rises is =
    elim rises [
      | inl old ↦ inl (old.0, rises_new next numbers last number old.1 is)
      | inr new ↦ inr (new.0, rises_new (suc next) numbers last number new.1 is)
    ]

pub rises_at_most : (next : ℕ) (numbers : List ℕ) (last : ℕ) → RisesTo next numbers last → last ≤ next + length numbers
rises_at_most next [] last rises = omega arith
rises_at_most next (first ∷ numbers) last rises =
    elim rises [
      | inl old ↦ let h = rises_at_most next numbers last old.1 in omega arith
      | inr new ↦ let h = rises_at_most (suc next) numbers last new.1 in omega arith
    ]

-- ---- a map of what is known

pub record Knows (known : BTreeMap Identity ℕ) (identities : List Identity) (numbers : List ℕ) : Type 0 where
  pub length_is : length numbers ≡ length identities
  pub has : (p : ℕ) (x : Identity) (n : ℕ) → slice_get identities p ≡ Some x → slice_get numbers p ≡ Some n → get identity_cmp known x ≡ Some n
  pub apart : (x y : Identity) (n : ℕ) → get identity_cmp known x ≡ Some n → get identity_cmp known y ≡ Some n → x ≡ y
  pub below : (x : Identity) (n : ℕ) → get identity_cmp known x ≡ Some n → n < btree_map_len known
  pub rises : RisesTo 0 numbers (btree_map_len known)

-- the new key, or another one
key_cases : (x y : Identity) (P : Type 0) → (identity_cmp x y ≡ Equal → x ≡ y → P) → (is_eq (identity_cmp x y) ≡ false → P) → P
key_cases x y P same other = by_order (identity_cmp x y) refl where
  by_order : (o : Ordering) → identity_cmp x y ≡ o → P
  by_order Less e = other (ap is_eq e)
  by_order Equal e = same e (identity_exact x y e)
  by_order Greater e = other (ap is_eq e)

known_again : (known known' : BTreeMap Identity ℕ) (identities : List Identity) (numbers : List ℕ) (identity : Identity) (number : ℕ)
    → get identity_cmp known identity ≡ Some number → IsUnchanged known known'
    → Knows known identities numbers → Knows known' (identities ++ identity ∷ []) (numbers ++ number ∷ [])
known_again known known' identities numbers identity number found unchanged knows =
    let same : (q : Identity) → get identity_cmp known' q ≡ get identity_cmp known q =
    λ q. ap (λ es. lookup (is_at (identity_cmp q)) es) unchanged in
    let as_long : btree_map_len known' ≡ btree_map_len known = ap length unchanged in
    record {
      length_is = length_push numbers number ∙ ap (λ n. n + 1) knows.length_is ∙ sym (length_push identities identity);
      has = λ p x n e f. elim (pair_cases identities numbers identity number p x n knows.length_is e f) [
        | inl old ↦ same x ∙ knows.has p x n old.0 old.1
        | inr new ↦ ap (get identity_cmp known') (sym new.1) ∙ same identity ∙ found ∙ ap Some new.2
      ];
      apart = λ x y n e f. knows.apart x y n (sym (same x) ∙ e) (sym (same y) ∙ f);
      below = λ x n e. rw as_long (knows.below x n (sym (same x) ∙ e));
      rises = rw as_long (rises_known 0 numbers (btree_map_len known) number knows.rises (knows.below identity number found));
    }

known_new : (known known' : BTreeMap Identity ℕ) (identities : List Identity) (numbers : List ℕ) (identity : Identity) (number : ℕ)
    → get identity_cmp known identity ≡ None → number ≡ btree_map_len known
    → Updates identity_cmp known known' identity (Some number) → btree_map_len known' ≡ btree_map_len known + 1
    → Knows known identities numbers → Knows known' (identities ++ identity ∷ []) (numbers ++ number ∷ [])
known_new known known' identities numbers identity number absent number_is updates longer knows =
    let at : (q : Identity) → get identity_cmp known' q ≡ cond (is_eq (identity_cmp identity q)) (Some number) (get identity_cmp known q) = updates.0 in
    let here : get identity_cmp known' identity ≡ Some number = at identity ∙ ap (λ o. cond (is_eq o) (Some number) (get identity_cmp known identity)) (tied_itself identity_total identity) in
    let other : (q : Identity) → is_eq (identity_cmp identity q) ≡ false → get identity_cmp known' q ≡ get identity_cmp known q =
    λ q e. at q ∙ ap (λ b. cond b (Some number) (get identity_cmp known q)) e in
    record {
      length_is = length_push numbers number ∙ ap (λ n. n + 1) knows.length_is ∙ sym (length_push identities identity);
      has = λ p x n e f. elim (pair_cases identities numbers identity number p x n knows.length_is e f) [
        | inl old ↦ let known_x = knows.has p x n old.0 old.1 in
            key_cases identity x (get identity_cmp known' x ≡ Some n)
            (λ o same. let clash : get identity_cmp known identity ≡ Some n = ap (get identity_cmp known) same ∙ known_x in cc)
            (λ apart. other x apart ∙ known_x)
        | inr new ↦ ap (get identity_cmp known') (sym new.1) ∙ here ∙ ap Some new.2
      ];
      apart = λ x y n e f.
          key_cases identity x (x ≡ y)
          (λ o same. key_cases identity y (x ≡ y)
          (λ o' same'. sym same ∙ same')
          (λ apart'. let old = knows.below y n (sym (other y apart') ∙ f) in
          let is : Some number ≡ Some n = sym here ∙ ap (get identity_cmp known') same ∙ e in
          let is' = same_Some number n is in absurd (omega arith)))
          (λ apart. key_cases identity y (x ≡ y)
          (λ o' same'. let old = knows.below x n (sym (other x apart) ∙ e) in
          let is : Some number ≡ Some n = sym here ∙ ap (get identity_cmp known') same' ∙ f in
          let is' = same_Some number n is in absurd (omega arith))
          (λ apart'. knows.apart x y n (sym (other x apart) ∙ e) (sym (other y apart') ∙ f)));
      below = λ x n e.
          key_cases identity x (n < btree_map_len known')
          (λ o same. let is = same_Some number n (sym here ∙ ap (get identity_cmp known') same ∙ e) in omega arith)
          (λ apart. let old = knows.below x n (sym (other x apart) ∙ e) in omega arith);
      rises = rw longer (rises_new 0 numbers (btree_map_len known) number knows.rises number_is);
    }

pub knows_all : (known : BTreeMap Identity ℕ) (identities : List Identity) (numbers : List ℕ)
    → Knows known identities numbers → AreNumbers identities numbers
knows_all known identities numbers knows = record {
  length_is = knows.length_is;
  one = λ p q within within'.
      let long = knows.length_is in
      let n = element_at numbers p within in
      let m = element_at numbers q within' in
      let x = element_at identities p (omega arith) in
      let y = element_at identities q (omega arith) in
      let known_x : get identity_cmp known x.0 ≡ Some n.0 = knows.has p x.0 n.0 x.1 n.1 in
      let known_y : get identity_cmp known y.0 ≡ Some m.0 = knows.has q y.0 m.0 y.1 m.1 in (
        λ e. let same : n.0 ≡ m.0 = same_Some n.0 m.0 (sym n.1 ∙ e ∙ m.1) in
            x.1 ∙ ap Some (knows.apart x.0 y.0 m.0 (known_x ∙ ap Some same) known_y) ∙ sym y.1,
        λ e. let same : x.0 ≡ y.0 = same_Some x.0 y.0 (sym x.1 ∙ e ∙ y.1) in
            n.1 ∙ sym known_x ∙ ap (get identity_cmp known) same ∙ known_y ∙ sym m.1,
      );
  last = btree_map_len known;
  rises = knows.rises;
}

pub knows_step : (known known' : BTreeMap Identity ℕ) (all : List Identity) (i : ℕ) (numbers numbers' : List ℕ) (identity : Identity) (number : ℕ)
    → i < length all → identity ≡ get_or all i identity
    → numbers' ≡ numbers ++ number ∷ [] → Numbers known identity number known'
    → Knows known (take i all) numbers → Knows known' (take (i + 1) all) numbers'
knows_step known known' all i numbers numbers' identity number within is numbers_is numbered knows =
    let grown : take (i + 1) all ≡ take i all ++ identity ∷ [] = take_more all i identity within ∙ ap (λ last. take i all ++ last ∷ []) (sym is) in
    rw (numbers_is, grown)
    (elim numbered [
      | inl old ↦ known_again known known' (take i all) numbers identity number old.0 old.1 knows
      | inr new ↦ known_new known known' (take i all) numbers identity number new.0 new.1 new.2 new.3 knows
    ])

pub knows_few : (known : BTreeMap Identity ℕ) (all : List Identity) (i : ℕ) (numbers : List ℕ) → i ≤ length all → Knows known (take i all) numbers → btree_map_len known ≤ i
knows_few known all i numbers within knows =
    let most = rises_at_most 0 numbers (btree_map_len known) knows.rises in
    let long = knows.length_is in
    let taken = length-take-le i all within in
    omega arith

pub knows_done : (known : BTreeMap Identity ℕ) (all : List Identity) (i : ℕ) (numbers : List ℕ) → length all ≤ i → Knows known (take i all) numbers → AreNumbers all numbers
knows_done known all i numbers done knows =
    subst (λ (xs : List Identity). AreNumbers xs numbers) (take_all i all done) (knows_all known (take i all) numbers knows)
