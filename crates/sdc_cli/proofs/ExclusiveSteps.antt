-- The set of exclusive pairs as it grows, and the list of its pairs.
use Rattle.std.proofs.Common.{◌≡◌, ◌≢◌, ◌<◌, ◌||◌, ◌&&◌, ◌==◌, inl, inr, ℕ, Bool, true, false, cond, min, max, List, [], ◌∷◌, Result, Ok, Err, nat_lt, sym, ◌∙◌, ap, arith}
use Rattle.std.proofs.Math.Bool.{and-false}
use Rattle.std.proofs.lemmas.Bool.{and_from, and_parts, lt-ltb, ltb-true, or_cases, or_left, or_right}
use Rattle.std.specs.BTreeMap.{is_at}
use Rattle.std.specs.BTreeSet.{BTreeSet, contains}
use Rattle.std.specs.List.{list_any, AllByRecursion}
use Rattle.std.specs.List.Sorted.{IsStrictlySortedBy}
use Rattle.std.specs.Result.{IfOk}
use Rattle.std.specs.declared.cmp.Ordering.TheVariants.{Less}
use Rattle.sdc_base.proofs.CaseFacts.{cond_or}
use Rattle.timing_types.specs.declared.clocks.Pair.{Pair}
use Rattle.mode_model.specs.ClockFile.{pairs_apart}
use Rattle.mode_model.specs.ClockGroups.{Groups, all_set_apart, is_parted, pairs_from, exclusive_pairs}
use Rattle.constraint_model.specs.ListOrder.{is_among}
use Rattle.sdc_cli.specs.Exclusive.{CommandsBelow, GroupsBelow, HasMore, HasSame, has_pair, pair_cmp, parts, parts_some, parts_any, parts_in}
use Rattle.clock_map.proofs.RisingPairs.{AllAfter, Rising, Among, same_lists}
use Rattle.sdc_cli.proofs.GroupSteps.{all_below}
use Rattle.sdc_cli.proofs.RisingPairs.{pair_is_parted, pair_is_same, before_from_less}
use Rattle.sdc_cli.proofs.PairLists.{from_sound, from_complete, rising_from}

-- one more pair, that of two different clocks
pub HasMore-insert : (old new : BTreeSet Pair) (i j : ℕ) (pair : Pair) → i ≢ j → pair.first ≡ min i j → pair.second ≡ max i j
    → ((q : Pair) → contains pair_cmp new q ≡ cond (is_at (pair_cmp pair) q) true (contains pair_cmp old q)) → HasMore old new (parts i j)
HasMore-insert old new i j pair different first second added q =
    added q ∙ (ap (λ t. cond t true (contains pair_cmp old q)) (pair_is_parted i j pair q different first second) ∙ cond_or (parts i j q) (contains pair_cmp old q))

-- the pairs of a set, as those of its list
rising_after : (p : Pair) (qs : List Pair) → AllByRecursion (λ q. pair_cmp p q ≡ Less) qs → AllAfter p qs
rising_after p [] less = tt
rising_after p (q ∷ qs) less = (before_from_less p q less.0, rising_after p qs less.1)

rising_from_sorted : (ps : List Pair) → IsStrictlySortedBy pair_cmp ps → Rising ps
unfolding IsStrictlySortedBy
rising_from_sorted [] sorted = tt
rising_from_sorted (p ∷ ps) sorted = (rising_after p ps sorted.0, rising_from_sorted ps sorted.1)

among_from_has : (p : Pair) (qs : List Pair) → list_any (is_at (pair_cmp p)) qs ≡ true → Among p qs
among_from_has p [] has = cc
among_from_has p (q ∷ qs) has =
    elim (or_cases (is_at (pair_cmp p) q) (list_any (is_at (pair_cmp p)) qs) has)
    [ inl here ↦ inl ((pair_is_same p q).0 here) | inr there ↦ inr (among_from_has p qs there) ]

has_from_among : (p : Pair) (qs : List Pair) → Among p qs → list_any (is_at (pair_cmp p)) qs ≡ true
has_from_among p [] among = absurd among
has_from_among p (q ∷ qs) (inl same) = or_left (is_at (pair_cmp p) q) (list_any (is_at (pair_cmp p)) qs) ((pair_is_same p q).1 same)
has_from_among p (q ∷ qs) (inr there) = or_right (is_at (pair_cmp p) q) (list_any (is_at (pair_cmp p)) qs) (has_from_among p qs there)

-- the pairs of commands, as those of clocks that some command parts
none_of : (t a b : Bool) → false ≡ (t && ((a && false) || (false && b)))
none_of t a b = grind arith

some_of : (t a b p q r s : Bool) → ((t && ((a && p) || (q && b))) || (t && ((a && r) || (s && b)))) ≡ (t && ((a && (p || r)) || ((q || s) && b)))
some_of t a b p q r s = grind arith

parts_some-is : (i : ℕ) (js : List ℕ) (p : Pair)
    → parts_some i js p ≡ (nat_lt p.first p.second && ((i == p.first && is_among p.second js) || (is_among p.first js && i == p.second)))
parts_some-is i [] p = none_of (nat_lt p.first p.second) (i == p.first) (i == p.second)
parts_some-is i (j ∷ js) p =
    ap (λ t. parts i j p || t) (parts_some-is i js p)
    ∙ some_of (nat_lt p.first p.second) (i == p.first) (i == p.second) (j == p.second) (j == p.first) (is_among p.second js) (is_among p.first js)

nothing_of : (t a b : Bool) → false ≡ (t && ((false && a) || (false && b)))
nothing_of t a b = grind arith

any_of : (t a b p q r s : Bool) → ((t && ((p && a) || (b && q))) || (t && ((r && a) || (s && b)))) ≡ (t && (((p || r) && a) || ((q || s) && b)))
any_of t a b p q r s = grind arith

parts_any-is : (is js : List ℕ) (p : Pair)
    → parts_any is js p ≡ (nat_lt p.first p.second && ((is_among p.first is && is_among p.second js) || (is_among p.second is && is_among p.first js)))
parts_any-is [] js p = nothing_of (nat_lt p.first p.second) (is_among p.second js) (is_among p.first js)
parts_any-is (i ∷ is) js p =
    ap (λ t. t || parts_any is js p) (parts_some-is i js p)
    ∙ (ap (λ t. (nat_lt p.first p.second && ((i == p.first && is_among p.second js) || (is_among p.first js && i == p.second))) || t) (parts_any-is is js p)
    ∙ any_of (nat_lt p.first p.second) (is_among p.second js) (is_among p.first js) (i == p.first) (i == p.second) (is_among p.first is) (is_among p.second is))

both_of : (t a b r : Bool) → ((t && (a || b)) || (t && r)) ≡ (t && ((a || b) || r))
both_of t a b r = grind arith

parts_in-is : (groups : List Groups) (p : Pair) → parts_in groups p ≡ (nat_lt p.first p.second && is_parted groups p.first p.second)
parts_in-is [] p = sym (and-false (nat_lt p.first p.second))
parts_in-is (g ∷ groups) p =
    ap (λ t. t || parts_in groups p) (parts_any-is g.first g.second p)
    ∙ (ap (λ t. (nat_lt p.first p.second && ((is_among p.first g.first && is_among p.second g.second) || (is_among p.second g.first && is_among p.first g.second))) || t) (parts_in-is groups p)
    ∙ both_of (nat_lt p.first p.second) (is_among p.first g.first && is_among p.second g.second) (is_among p.second g.first && is_among p.first g.second) (is_parted groups p.first p.second))

-- parted clocks are clocks
parted_below : (count i j : ℕ) (groups : List Groups) → GroupsBelow count groups → is_parted groups i j ≡ true → j < count
parted_below count i j [] below parted = cc
parted_below count i j (g ∷ groups) below parted =
    elim (or_cases ((is_among i g.first && is_among j g.second) || (is_among j g.first && is_among i g.second)) (is_parted groups i j) parted) [
      | inl here ↦
          elim (or_cases (is_among i g.first && is_among j g.second) (is_among j g.first && is_among i g.second) here) [
            | inl one ↦ below.1 j (and_parts (is_among i g.first) (is_among j g.second) one).1
            | inr other ↦ below.0 j (and_parts (is_among j g.first) (is_among i g.second) other).0
          ]
      | inr there ↦ parted_below count i j groups below.2 there
    ]

-- the list of a set that has the pairs of all groups
exclusive_is : (pairs : List Pair) (groups : List Groups) (count : ℕ) → IsStrictlySortedBy pair_cmp pairs
    → ((pair : Pair) → list_any (is_at (pair_cmp pair)) pairs ≡ parts_in groups pair) → GroupsBelow count groups → pairs ≡ exclusive_pairs groups count
exclusive_is pairs groups count sorted has below =
    same_lists pairs (pairs_from groups 0 count) (rising_from_sorted pairs sorted) (rising_from groups 0 count)
    (λ p here.
    let parts : (nat_lt p.first p.second && is_parted groups p.first p.second) ≡ true = sym (parts_in-is groups p) ∙ (sym (has p) ∙ has_from_among p pairs here) in
    let ordered = and_parts (nat_lt p.first p.second) (is_parted groups p.first p.second) parts in
    let small : p.second < count = parted_below count p.first p.second groups below ordered.1 in
    from_complete groups 0 count p (record { low = omega arith; ordered = ltb-true p.first p.second ordered.0; high = omega arith; parted = ordered.1 }))
    (λ p here.
    let is = from_sound groups 0 count p here in
    let parts : (nat_lt p.first p.second && is_parted groups p.first p.second) ≡ true = and_from (nat_lt p.first p.second) (is_parted groups p.first p.second) (lt-ltb p.first p.second is.ordered) is.parted in
    among_from_has p pairs (has p ∙ (parts_in-is groups p ∙ parts)))

-- the answer of the reader, where it is one
pub exclusive_answer : {E : Type 0} (answer : Result (List Pair) E) (keys : List Pair) (count : ℕ) (commands : List (List (List ℕ))) → IfOk answer (λ list. list ≡ keys) → IfOk answer (IsStrictlySortedBy pair_cmp)
    → ((pair : Pair) → list_any (is_at (pair_cmp pair)) keys ≡ parts_in (all_set_apart count commands) pair)
    → IfOk answer (λ pairs. CommandsBelow count commands → pairs ≡ pairs_apart count commands)
exclusive_answer (Ok list) keys count commands same sorted has =
    λ below. exclusive_is list (all_set_apart count commands) count sorted (λ pair. ap (list_any (is_at (pair_cmp pair))) same ∙ has pair) (all_below count commands below)
exclusive_answer (Err e) keys count commands same sorted has = tt

-- the pairs of groups are those of the same groups with each place once
pub HasMore-distinct : (old new : BTreeSet Pair) (is js is_once js_once : List ℕ) → HasSame is is_once → HasSame js js_once → HasMore old new (parts_any is_once js_once) → HasMore old new (parts_any is js)
HasMore-distinct old new is js is_once js_once same_is same_js more p =
    let once = parts_any-is is_once js_once p in
    let all = parts_any-is is js p in
    let firsts = ap (λ s. nat_lt p.first p.second && ((s && is_among p.second js_once) || (is_among p.second is_once && is_among p.first js_once))) (same_is p.first) in
    let seconds = ap (λ s. nat_lt p.first p.second && ((is_among p.first is && s) || (is_among p.second is_once && is_among p.first js_once))) (same_js p.second) in
    let thirds = ap (λ s. nat_lt p.first p.second && ((is_among p.first is && is_among p.second js) || (s && is_among p.first js_once))) (same_is p.second) in
    let fourths = ap (λ s. nat_lt p.first p.second && ((is_among p.first is && is_among p.second js) || (is_among p.second is && s))) (same_js p.first) in
    more p ∙ ap (λ t. has_pair old p || t) (once ∙ (firsts ∙ (seconds ∙ (thirds ∙ (fourths ∙ sym all)))))
