-- Groups of clocks by their places, and the pairs of different clocks in two groups. This project's own words.
-- A place is below the number of the clocks, and a pair has the lesser place first.
use Rattle.std.specs.Prelude.{◌≡◌, ◌<◌, ◌==◌, ◌&&◌, ◌||◌, ℕ, Bool, true, List, [], ◌∷◌, nat_lt}
use Rattle.std.specs.BTreeSet.{BTreeSet, contains}
use Rattle.std.specs.List.{list_any}
use Rattle.std.specs.Ordering.{nat_cmp, ordering_then}
use Rattle.std.specs.declared.cmp.Ordering.{Ordering}
use Rattle.timing_types.specs.declared.clocks.Pair.{Pair}
use Rattle.mode_model.specs.ClockGroups.{Groups}
use Rattle.constraint_model.specs.ListOrder.{is_among}

-- each of these places is below a number
abbrev pub AreBelow : ℕ → List ℕ → Type 0
AreBelow count places = (place : ℕ) → is_among place places ≡ true → place < count

-- the places of all groups of a command are
abbrev pub AllBelow : ℕ → List (List ℕ) → Type 0
AllBelow count [] = Unit {0}
AllBelow count (group ∷ groups) = AreBelow count group × AllBelow count groups

-- the places of the groups of all commands are
abbrev pub CommandsBelow : ℕ → List (List (List ℕ)) → Type 0
CommandsBelow count [] = Unit {0}
CommandsBelow count (groups ∷ commands) = AllBelow count groups × CommandsBelow count commands

-- the places of groups that stand against each other are
abbrev pub GroupsBelow : ℕ → List Groups → Type 0
GroupsBelow count [] = Unit {0}
GroupsBelow count (groups ∷ others) = AreBelow count groups.first × AreBelow count groups.second × GroupsBelow count others

-- two lists have the same places
abbrev pub HasSame : List ℕ → List ℕ → Type 0
HasSame places others = (place : ℕ) → is_among place others ≡ is_among place places

-- pairs in order: by their first places, and then by their second ones
abbrev pub pair_cmp : Pair → Pair → Ordering
pair_cmp p q = ordering_then (nat_cmp p.first q.first) (nat_cmp p.second q.second)

-- a set has a pair
abbrev pub has_pair : BTreeSet Pair → Pair → Bool
has_pair pairs pair = contains pair_cmp pairs pair

-- a pair is that of two different clocks, the lesser one first
abbrev pub parts : ℕ → ℕ → Pair → Bool
parts i j pair = nat_lt pair.first pair.second && ((i == pair.first && j == pair.second) || (j == pair.first && i == pair.second))

-- a pair is one of a clock and one of these clocks
abbrev pub parts_some : ℕ → List ℕ → Pair → Bool
parts_some i js pair = list_any (λ j. parts i j pair) js

-- a pair is one of a clock of the first and a clock of the second group
abbrev pub parts_any : List ℕ → List ℕ → Pair → Bool
parts_any is js pair = list_any (λ i. parts_some i js pair) is

-- a pair is one of a group and one of others
abbrev pub parts_each : List ℕ → List (List ℕ) → Pair → Bool
parts_each group others pair = list_any (λ other. parts_any group other pair) others

-- a pair is one of two groups that stand against each other
abbrev pub parts_in : List Groups → Pair → Bool
parts_in groups pair = list_any (λ g. parts_any g.first g.second pair) groups

-- a set has the pairs that it had, and these more
abbrev pub HasMore : BTreeSet Pair → BTreeSet Pair → (Pair → Bool) → Type 0
HasMore before now more = (pair : Pair) → has_pair now pair ≡ (has_pair before pair || more pair)
