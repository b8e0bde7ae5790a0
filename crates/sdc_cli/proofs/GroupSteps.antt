-- The groups of commands as groups that stand against each other, one command and one group at a time.
use Rattle.std.proofs.Common.{◌≡◌, ◌<◌, ◌≤◌, ◌||◌, ◌+◌, ◌∙◌, ℕ, zero, suc, Bool, true, false, cond, List, [], ◌∷◌, ◌++◌, get_or, length, refl, sym, ap, subst, arith, inl, inr, append_assoc}
use Rattle.std.specs.Prelude.{◌==◌}
use Rattle.std.proofs.Math.Bool.{or-false, or_assoc}
use Rattle.std.proofs.lemmas.Bool.{eqb-true, or_cases}
use Rattle.std.proofs.lemmas.List.Folds.{list_any-append}
use Rattle.std.specs.BTreeSet.{BTreeSet}
use Rattle.timing_types.specs.declared.clocks.Pair.{Pair}
use Rattle.mode_model.specs.ClockGroups.{Groups, against, all_set_apart, every_two, others_from, set_apart}
use Rattle.constraint_model.specs.ListOrder.{is_among}
use Rattle.sdc_cli.specs.Exclusive.{AllBelow, AreBelow, CommandsBelow, GroupsBelow, HasMore, has_pair, parts_any, parts_each, parts_in}

-- ---- pairs so far, and those of what is left

-- the pairs so far and those of these are the pairs before and those of all
abbrev pub Leads : BTreeSet Pair → List Groups → BTreeSet Pair → List Groups → Type 0
Leads now left before all = (pair : Pair) → (has_pair now pair || parts_in left pair) ≡ (has_pair before pair || parts_in all pair)

parts_append : (groups others : List Groups) (pair : Pair) → parts_in (groups ++ others) pair ≡ (parts_in groups pair || parts_in others pair)
parts_append groups others pair = list_any-append (λ (g : Groups). parts_any g.first g.second pair) groups others

leads_on : (now next before : BTreeSet Pair) (groups left all : List Groups) → HasMore now next (parts_in groups) → Leads now (groups ++ left) before all → Leads next left before all
leads_on now next before groups left all more leads pair =
    ap (λ t. t || parts_in left pair) (more pair) ∙ or_assoc (has_pair now pair) (parts_in groups pair) (parts_in left pair)
    ∙ ap (λ t. has_pair now pair || t) (sym (parts_append groups left pair)) ∙ leads pair

leads_all : (now before : BTreeSet Pair) (all : List Groups) → Leads now [] before all → HasMore before now (parts_in all)
leads_all now before all leads pair = sym (or-false (has_pair now pair)) ∙ leads pair

-- the same of all commands, where nothing was there before
abbrev pub LeadsCommands : BTreeSet Pair → ℕ → List (List (List ℕ)) → List (List (List ℕ)) → Type 0
LeadsCommands now count left all =
    (pair : Pair) → (has_pair now pair || parts_in (all_set_apart count left) pair) ≡ parts_in (all_set_apart count all) pair

pub leads_step : (now next : BTreeSet Pair) (count : ℕ) (groups : List (List ℕ)) (here left all : List (List (List ℕ))) → here ≡ groups ∷ left
    → HasMore now next (parts_in (set_apart count groups)) → LeadsCommands now count here all → LeadsCommands next count left all
leads_step now next count groups here left all e more leads pair =
    ap (λ t. t || parts_in (all_set_apart count left) pair) (more pair)
    ∙ or_assoc (has_pair now pair) (parts_in (set_apart count groups) pair) (parts_in (all_set_apart count left) pair)
    ∙ ap (λ t. has_pair now pair || t) (sym (parts_append (set_apart count groups) (all_set_apart count left) pair))
    ∙ ap (λ (cs : List (List (List ℕ))). has_pair now pair || parts_in (all_set_apart count cs) pair) (sym e) ∙ leads pair

pub leads_end : (now : BTreeSet Pair) (count : ℕ) (all left : List (List (List ℕ))) → left ≡ [] → LeadsCommands now count left all
    → (pair : Pair) → has_pair now pair ≡ parts_in (all_set_apart count all) pair
leads_end now count all left e leads pair =
    sym (or-false (has_pair now pair)) ∙ ap (λ (cs : List (List (List ℕ))). has_pair now pair || parts_in (all_set_apart count cs) pair) (sym e) ∙ leads pair

-- ---- groups of a command

each_is : (group : List ℕ) (others : List (List ℕ)) (pair : Pair) → parts_each group others pair ≡ parts_in (against group others) pair
each_is group [] pair = refl
each_is group (other ∷ others) pair = ap (λ t. parts_any group other pair || t) (each_is group others pair)

-- one group and those after it
pub leads_group : (now next before : BTreeSet Pair) (here others : List (List ℕ)) (group : List ℕ) (all : List Groups) → here ≡ group ∷ others
    → HasMore now next (parts_each group others) → Leads now (every_two here) before all → Leads next (every_two others) before all
leads_group now next before here others group all e more leads =
    leads_on now next before (against group others) (every_two others) all (λ pair. more pair ∙ ap (λ t. has_pair now pair || t) (each_is group others pair))
    (subst (λ (gs : List (List ℕ)). Leads now (every_two gs) before all) e leads)

pub leads_through : (now before : BTreeSet Pair) (left : List (List ℕ)) (all : List Groups) → left ≡ [] → Leads now (every_two left) before all → HasMore before now (parts_in all)
leads_through now before left all e leads = leads_all now before all (subst (λ (gs : List (List ℕ)). Leads now (every_two gs) before all) e leads)

-- a group alone
pub one_item : {A : Type 0} (xs : List A) (x : A) → 1 ≤ length xs → length xs < 2 → x ≡ get_or xs 0 x → xs ≡ x ∷ []
one_item [] x least below is = absurd (omega (arith, least))
one_item (y ∷ []) x least below is = ap (λ z. z ∷ []) (sym is)
one_item (y ∷ z ∷ xs) x least below is = absurd (omega (arith, below))

pub alone_parts : (old new : BTreeSet Pair) (count : ℕ) (groups : List (List ℕ)) (alone : List ℕ) → groups ≡ alone ∷ []
    → HasMore old new (parts_any alone (others_from alone 0 count)) → HasMore old new (parts_in (set_apart count groups))
alone_parts old new count groups alone e more =
    subst (λ (gs : List (List ℕ)). HasMore old new (parts_in (set_apart count gs))) (sym e)
    (λ pair. more pair ∙ ap (λ t. has_pair old pair || t) (sym (or-false (parts_any alone (others_from alone 0 count) pair))))

-- more groups
several : (count : ℕ) (groups : List (List ℕ)) → 2 ≤ length groups → set_apart count groups ≡ every_two groups
several count [] least = absurd (omega (arith, least))
several count (alone ∷ []) least = absurd (omega (arith, least))
several count (first ∷ second ∷ others) least = refl

pub several_part : (old new : BTreeSet Pair) (count : ℕ) (groups : List (List ℕ)) → 2 ≤ length groups
    → HasMore old new (parts_in (every_two groups)) → HasMore old new (parts_in (set_apart count groups))
several_part old new count groups least more =
    subst (λ (gs : List Groups). HasMore old new (parts_in gs)) (sym (several count groups least)) more

-- ---- the clocks that are not in a group

cons_append : (test : Bool) (place : ℕ) (others : List ℕ) → cond test [] (place ∷ []) ++ others ≡ cond test others (place ∷ others)
cons_append true place others = refl
cons_append false place others = refl

pub others_more : (before group : List ℕ) (place more : ℕ) → (before ++ others_from group place 1) ++ others_from group (place + 1) more ≡ before ++ others_from group place (suc more)
others_more before group place more =
    append_assoc before (others_from group place 1) (others_from group (place + 1) more)
    ∙ ap (λ (rest : List ℕ). before ++ rest) (cons_append (is_among place group) place (others_from group (place + 1) more))

-- ---- places that are below the number of the clocks

pub below_cons : (n place : ℕ) (others : List ℕ) → place < n → AreBelow n others → AreBelow n (place ∷ others)
below_cons n place others here below p among =
    elim (or_cases (place == p) (is_among p others) among)
    [ inl same ↦ let e : place ≡ p = eqb-true place p same in omega arith | inr there ↦ below p there ]

below_step : (n place : ℕ) (test : Bool) (others : List ℕ) → place < n → AreBelow n others → AreBelow n (cond test others (place ∷ others))
below_step n place true others here below = below
below_step n place false others here below = below_cons n place others here below

others_below : (n : ℕ) (group : List ℕ) (place more : ℕ) → n ≡ place + more → AreBelow n (others_from group place more)
others_below n group place zero e = λ p among. cc
others_below n group place (suc more) e =
    below_step n place (is_among place group) (others_from group (place + 1) more) (omega (arith, e)) (others_below n group (place + 1) more (omega (arith, e)))

append_below : (n : ℕ) (groups others : List Groups) → GroupsBelow n groups → GroupsBelow n others → GroupsBelow n (groups ++ others)
append_below n [] others below more = more
append_below n (g ∷ groups) others below more = (below.0, below.1, append_below n groups others below.2 more)

against_below : (n : ℕ) (group : List ℕ) (others : List (List ℕ)) → AreBelow n group → AllBelow n others → GroupsBelow n (against group others)
against_below n group [] here below = tt
against_below n group (other ∷ others) here below = (here, below.0, against_below n group others here below.1)

every_two_below : (n : ℕ) (groups : List (List ℕ)) → AllBelow n groups → GroupsBelow n (every_two groups)
every_two_below n [] below = tt
every_two_below n (group ∷ others) below =
    append_below n (against group others) (every_two others) (against_below n group others below.0 below.1) (every_two_below n others below.1)

set_apart_below : (n : ℕ) (groups : List (List ℕ)) → AllBelow n groups → GroupsBelow n (set_apart n groups)
set_apart_below n [] below = tt
set_apart_below n (alone ∷ []) below = (below.0, others_below n alone 0 n (omega arith), tt)
set_apart_below n (first ∷ second ∷ others) below = every_two_below n (first ∷ second ∷ others) below

pub all_below : (n : ℕ) (commands : List (List (List ℕ))) → CommandsBelow n commands → GroupsBelow n (all_set_apart n commands)
all_below n [] below = tt
all_below n (groups ∷ commands) below =
    append_below n (set_apart n groups) (all_set_apart n commands) (set_apart_below n groups below.0) (all_below n commands below.1)
