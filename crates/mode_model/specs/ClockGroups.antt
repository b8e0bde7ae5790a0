-- Groups of clocks, and the pairs of clocks that they make exclusive (SDC 2.1, set_clock_groups).
-- Clocks are known by their places. All pairs of different clocks in different groups of a command are exclusive, and
-- one group alone stands against all other clocks of the mode.
use Rattle.std.specs.Prelude.{◌&&◌, ◌||◌, ◌+◌, ◌++◌, ℕ, zero, suc, Bool, false, List, [], ◌∷◌, length, map, Option, Some, None, nat_lt, if◌then◌else◌}
use Rattle.std.specs.Option.{option_and_then}
use Rattle.timing_types.specs.declared.clocks.Clock.{Clock}
use Rattle.timing_types.specs.declared.clocks.Pair.{Pair}
use Rattle.timing_types.specs.declared.objects.Object.{Object}
use Rattle.timing_types.specs.declared.objects.Value.{Value}
use Rattle.tcl_model.specs.ListReading.{items_of}
use Rattle.text_model.specs.Words.{same_text}
use Rattle.constraint_model.specs.ListOrder.{is_among}
use Rattle.timing_types.specs.declared.objects.Object.TheVariants as object
use Rattle.timing_types.specs.declared.objects.Value.TheVariants as value

-- two groups that stand against each other
pub record Groups : Type 0 where
  pub first : List ℕ
  pub second : List ℕ

-- the place of the clock of a name among clocks of which the first has a place
abbrev pub place_from : ℕ → List Clock → List ℕ → Option ℕ
place_from place [] name = None
place_from place (clock ∷ clocks) name = if same_text clock.name name then Some place else place_from (place + 1) clocks name

-- the places of the clocks of these names, where each is a clock
abbrev pub places_of : List Clock → List (List ℕ) → Option (List ℕ)
places_of clocks [] = Some []
places_of clocks (name ∷ names) =
    option_and_then (λ place. option_and_then (λ places. Some (place ∷ places)) (places_of clocks names)) (place_from 0 clocks name)

-- the places of the clocks of a list of names (Tcl)
abbrev pub places_in : List Clock → List ℕ → Option (List ℕ)
places_in clocks text = option_and_then (places_of clocks) (items_of text)

-- the place of an object that is a clock, of so many
abbrev pub clock_place : ℕ → Object → Option ℕ
clock_place count (object.Clock place) = if nat_lt place count then Some place else None
clock_place count _ = None

-- the places of objects, where each is a clock
abbrev pub clock_places : ℕ → List Object → Option (List ℕ)
clock_places count [] = Some []
clock_places count (first ∷ objects) =
    option_and_then (λ place. option_and_then (λ places. Some (place ∷ places)) (clock_places count objects)) (clock_place count first)

-- the places of the clocks of a group: a list of names, or clocks
abbrev pub group_of : List Clock → Value → Option (List ℕ)
group_of clocks (value.Text text) = places_in clocks text
group_of clocks (value.Objects objects) = clock_places (length clocks) objects

-- of so many places from one on, those that are not in a group
abbrev pub others_from : List ℕ → ℕ → ℕ → List ℕ
others_from group place zero = []
others_from group place (suc more) =
    if is_among place group then others_from group (place + 1) more else place ∷ others_from group (place + 1) more

-- a group against each of these
abbrev pub against : List ℕ → List (List ℕ) → List Groups
against group others = map (λ other. record { first = group; second = other }) others

-- every two of some groups
abbrev pub every_two : List (List ℕ) → List Groups
every_two [] = []
every_two (group ∷ others) = against group others ++ every_two others

-- which groups the groups of a command set against each other, of so many clocks
abbrev pub set_apart : ℕ → List (List ℕ) → List Groups
set_apart count (alone ∷ []) = record { first = alone; second = others_from alone 0 count } ∷ []
set_apart count groups = every_two groups

-- the same of several commands
abbrev pub all_set_apart : ℕ → List (List (List ℕ)) → List Groups
all_set_apart count [] = []
all_set_apart count (groups ∷ commands) = set_apart count groups ++ all_set_apart count commands

-- one clock is in one of two groups that stand against each other, and the other clock in the other
abbrev pub is_parted : List Groups → ℕ → ℕ → Bool
is_parted [] i j = false
is_parted (groups ∷ others) i j =
    (is_among i groups.first && is_among j groups.second) || (is_among j groups.first && is_among i groups.second)
    || is_parted others i j

-- the pairs of a clock with the next so many clocks that it is parted from
abbrev pub pairs_with : List Groups → ℕ → ℕ → ℕ → List Pair
pairs_with groups i j zero = []
pairs_with groups i j (suc more) =
    if is_parted groups i j then record { first = i; second = j } ∷ pairs_with groups i (j + 1) more
    else pairs_with groups i (j + 1) more

-- the exclusive pairs among so many clocks, from a place on: the lesser first, in order, each once
abbrev pub pairs_from : List Groups → ℕ → ℕ → List Pair
pairs_from groups i zero = []
pairs_from groups i (suc more) = pairs_with groups i (i + 1) more ++ pairs_from groups (i + 1) more

abbrev pub exclusive_pairs : List Groups → ℕ → List Pair
exclusive_pairs groups count = pairs_from groups 0 count
