-- Counting in a sorted list: what stands ahead of a clock, and what of it has the clock's definition.
use Rattle.std.proofs.Common.{◌≡◌, ℕ, zero, suc, ◌+◌, ◌<◌, ◌≤◌, Bool, true, false, cond, ◌&&◌, List, [], ◌∷◌, ◌++◌, length, get_or, take, map, Ordering, refl, sym, ap, ◌∙◌, arith}
use Rattle.std.specs.Ordering.{is_eq, is_lt, nat_cmp, ordering_then, ordering_index}
use Rattle.std.specs.declared.cmp.Ordering.TheVariants.{Less, Equal, Greater}
use Rattle.std.specs.Cmp.{IsTotalOrder}
use Rattle.std.specs.Cmp.Lexicographic.{slice_cmp}
use Rattle.std.specs.List.{count_by}
use Rattle.std.specs.List.Sorted.{IsSortedBy, IsSorted, IsPartitionedBy, IsPermutation}
use Rattle.std.proofs.lemmas.List.Sorted.{searchable_from_sorted, sum_by-IsPermutation}
use Rattle.std.proofs.lemmas.List.Sums.{sum_by-cons}
use Rattle.std.proofs.lemmas.List.{map_more}
use Rattle.timing_types.specs.declared.identities.Definition.{Definition}
use Rattle.timing_types.specs.declared.identities.Standing.{Standing}
use Rattle.timing_types.specs.declared.identities.Identity.{Identity}
use Rattle.merge_model.specs.ClockIdentity.{rank_among, same_definition, is_ahead, identity_among}
use Rattle.timing_types.specs.contracts.identities.DefinitionOrd.TheImpl as definition_order
use Rattle.timing_types.specs.contracts.identities.DefinitionOrd.TheImpl.Laws as definition_laws
use Rattle.timing_types.specs.contracts.identities.StandingOrd.TheImpl as standing_order
use Rattle.timing_types.specs.contracts.identities.StandingOrd.TheImpl.Laws as standing_laws

abbrev pub definition_cmp : Definition → Definition → Ordering
definition_cmp = (definition_order.ghosts).cmp

abbrev pub standing_cmp : Standing → Standing → Ordering
standing_cmp = (standing_order.ghosts).cmp

pub definition_total : IsTotalOrder definition_cmp
definition_total = definition_laws.total-law

pub standing_total : IsTotalOrder standing_cmp
standing_total = standing_laws.total-law

-- ---- a partition point is a count

-- a count, one element further
pub count_more : {X : Type 0} (p : X → Bool) (x : X) (xs : List X) → count_by p (x ∷ xs) ≡ cond (p x) 1 0 + count_by p xs
count_more p x xs = sum_by-cons (λ y. cond (p y) 1 0) x xs

count_none : {X : Type 0} (p : X → Bool) (xs : List X) → ((k : ℕ) (d : X) → k < length xs → p (get_or xs k d) ≡ false) → count_by p xs ≡ 0
count_none p [] none = refl
count_none p (x ∷ xs) none =
    let here : p x ≡ false = none 0 x (omega arith) in
    let rest = count_none p xs (λ k d within. none (suc k) d (omega arith)) in
    count_more p x xs ∙ rw (here, rest) refl

pub point_counts : {X : Type 0} (p : X → Bool) (xs : List X) (i : ℕ) → i ≤ length xs
    → ((k : ℕ) (d : X) → k < i → p (get_or xs k d) ≡ true)
    → ((k : ℕ) (d : X) → i ≤ k → k < length xs → p (get_or xs k d) ≡ false)
    → i ≡ count_by p xs
point_counts p [] i short before after = omega arith
point_counts p (x ∷ xs) zero short before after =
    sym (count_none p (x ∷ xs) (λ k d within. after k d (omega arith) within))
point_counts p (x ∷ xs) (suc i) short before after =
    let here : p x ≡ true = before 0 x (omega arith) in
    let rest : i ≡ count_by p xs = point_counts p xs i (omega arith)
    (λ k d within. before (suc k) d (omega arith)) (λ k d from within. after (suc k) d (omega arith) (omega arith)) in
    let step : count_by p (x ∷ xs) ≡ 1 + count_by p xs = count_more p x xs ∙ ap (λ b. cond b 1 0 + count_by p xs) here in
    omega arith

-- ---- a sorted list is parted by what is less

lt_below : (o p : Ordering) → ordering_index o ≤ ordering_index p → is_lt p ≡ true → is_lt o ≡ true
lt_below Less p le less = refl
lt_below Equal Less le less = absurd (omega arith)
lt_below Equal Equal le less = less
lt_below Equal Greater le less = less
lt_below Greater Less le less = absurd (omega arith)
lt_below Greater Equal le less = less
lt_below Greater Greater le less = less

pub parted : {K : Type 0} {R : K → K → Ordering} (o : IsTotalOrder R) {X : Type 0} (key : X → K) (xs : List X) (x : K)
    → IsSortedBy (λ a b. is_lt (R (key a) (key b))) xs → IsPartitionedBy (λ y. is_lt (R (key y) x)) xs
parted {K} {R} o key xs x sorted i j d le within less =
    lt_below (R (key (get_or xs i d)) x) (R (key (get_or xs j d)) x) (searchable_from_sorted o key xs x sorted i j d le within) less

first_decides : (o p : Ordering) → is_lt (ordering_then o p) ≡ false → is_lt o ≡ false
first_decides Less p e = e
first_decides Equal p e = refl
first_decides Greater p e = refl

pub sorted_by_definition : (xs : List Standing) → IsSorted standing_cmp xs
    → IsSortedBy (λ a b. is_lt (definition_cmp a.definition b.definition)) xs
sorted_by_definition xs sorted k d low high =
    let a = get_or xs (k + 1) d in
    let b = get_or xs k d in
    first_decides (definition_cmp a.definition b.definition)
    (ordering_then (slice_cmp nat_cmp a.name b.name) (nat_cmp a.place b.place)) (sorted k d low high)

-- ---- ranks

one_of : (o p : Ordering) → cond (is_lt (ordering_then o p)) 1 0 ≡ cond (is_lt o) 1 0 + cond (is_eq o && is_lt p) 1 0
one_of Less p = refl
one_of Equal p = sym (omega arith)
one_of Greater p = refl

sums : (a b c d e f m n : ℕ) → m ≡ a + c → n ≡ b + d → e ≡ a + b → f ≡ c + d → e + f ≡ m + n
sums a b c d e f m n p q r s = omega arith

-- what is less than a clock is of a lesser definition, or has its definition and stands ahead of it
pub rank_splits : (xs : List Standing) (x : Standing)
    → count_by (λ y. is_lt (standing_cmp y x)) xs
    ≡ count_by (λ y. is_lt (definition_cmp y.definition x.definition)) xs + rank_among xs x
rank_splits [] x = refl
rank_splits (y ∷ xs) x =
    let here = one_of (definition_cmp y.definition x.definition) (ordering_then (slice_cmp nat_cmp y.name x.name) (nat_cmp y.place x.place)) in
    let rest = rank_splits xs x in
    let less = count_more (λ z. is_lt (standing_cmp z x)) y xs in
    let lesser = count_more (λ z. is_lt (definition_cmp z.definition x.definition)) y xs in
    let ahead = count_more (λ z. same_definition z.definition x.definition && is_ahead z x) y xs in
    less ∙ sums _ _ _ _ _ _ _ _ lesser ahead here rest

pub rank_stays : (xs ys : List Standing) (x : Standing) → IsPermutation xs ys → rank_among ys x ≡ rank_among xs x
rank_stays xs ys x moved =
    sum_by-IsPermutation (λ other. cond (same_definition other.definition x.definition && is_ahead other x) 1 0) xs ys moved

pub identities_step : (all sorted : List Standing) (i : ℕ) (clock : Standing) (rank : ℕ) (definition : Definition) (before later : List Identity)
    → i < length all → clock ≡ get_or all i clock → IsPermutation all sorted
    → definition ≡ clock.definition → rank ≡ rank_among sorted clock
    → later ≡ before ++ record { definition = definition; rank = rank } ∷ []
    → before ≡ map (identity_among all) (take i all) → later ≡ map (identity_among all) (take (i + 1) all)
identities_step all sorted i clock rank definition before later within is moved definition_is rank_is after_is known =
    let same : rank ≡ rank_among all clock = rank_is ∙ rank_stays all sorted clock moved in
    let identity : record { definition = definition; rank = rank } ≡ identity_among all clock =
    λ j. record { definition = definition_is j; rank = same j } in
    after_is
    ∙ ap (λ last. before ++ last ∷ []) identity
    ∙ ap (λ front. front ++ identity_among all clock ∷ []) known
    ∙ ap (λ last. map (identity_among all) (take i all) ++ identity_among all last ∷ []) is
    ∙ sym (map_more (identity_among all) all i clock within)
