-- Places of clocks in groups are below the number of the clocks.
use Rattle.std.proofs.Common.{◌≡◌, ◌<◌, ◌≤◌, ◌==◌, ◌+◌, ℕ, suc, Bool, true, false, cond, List, [], ◌∷◌, ◌++◌, length, Option, Some, None, refl, sym, subst, arith}
use Rattle.std.proofs.lemmas.Bool.Decides.{nat_tests}
use Rattle.std.specs.List.{list_any}
use Rattle.std.specs.Option.{option_and_then, option_map}
use Rattle.std.specs.Prelude.{nat_lt}
use Rattle.timing_types.specs.declared.clocks.Clock.{Clock}
use Rattle.timing_types.specs.declared.objects.Object.{Object}
use Rattle.timing_types.specs.declared.objects.Object.TheVariants as object
use Rattle.timing_types.specs.declared.objects.Value.{Value}
use Rattle.timing_types.specs.declared.objects.Value.TheVariants as value
use Rattle.mode_model.specs.ClockCommands.{GroupOptions, group_options, groups_given, groups_of, groups_placed, no_groups, with_effect}
use Rattle.mode_model.specs.ClockGroups.{clock_place, clock_places, group_of, place_from, places_of}
use Rattle.tcl_model.specs.ListReading.{items_of}
use Rattle.text_model.specs.Words.{same_text}
use Rattle.sdc_cli.specs.Exclusive.{AllBelow, AreBelow, CommandsBelow}
use Rattle.sdc_cli.proofs.GroupSteps.{below_cons}

place_step : (t : Bool) (place p n : ℕ) (others : Option ℕ) → (others ≡ Some p → p < (place + 1) + n) → cond t (Some place) others ≡ Some p → p < place + suc n
place_step true place p n others below e = let same : place ≡ p = cc in omega arith
place_step false place p n others below e = let small : p < (place + 1) + n = below e in omega arith

place_from-below : (place p : ℕ) (clocks : List Clock) (name : List ℕ) → place_from place clocks name ≡ Some p → p < place + length clocks
place_from-below place p [] name e = cc
place_from-below place p (clock ∷ clocks) name e =
    place_step (same_text clock.name name) place p (length clocks) (place_from (place + 1) clocks name) (place_from-below (place + 1) p clocks name) e

places_step : (n : ℕ) (found : Option ℕ) (others : Option (List ℕ)) (ps : List ℕ) → ((p : ℕ) → found ≡ Some p → p < n)
    → ((qs : List ℕ) → others ≡ Some qs → AreBelow n qs) → option_and_then (λ place. option_and_then (λ places. Some (place ∷ places)) others) found ≡ Some ps → AreBelow n ps
places_step n None others ps here below e = cc
places_step n (Some p) None ps here below e = cc
places_step n (Some p) (Some qs) ps here below e =
    let same : p ∷ qs ≡ ps = cc in
    subst (AreBelow n) same (below_cons n p qs (here p refl) (below qs refl))

places_of-below : (clocks : List Clock) (names : List (List ℕ)) (ps : List ℕ) → places_of clocks names ≡ Some ps → AreBelow (length clocks) ps
places_of-below clocks [] ps e = let same : [] ≡ ps = cc in subst (AreBelow (length clocks)) same (λ place among. cc)
places_of-below clocks (name ∷ names) ps e =
    places_step (length clocks) (place_from 0 clocks name) (places_of clocks names) ps
    (λ p found. let below : p < 0 + length clocks = place_from-below 0 p clocks name found in omega arith) (places_of-below clocks names) e

-- the places of a list of names, and of a group
list_step : (clocks : List Clock) (names : Option (List (List ℕ))) (ps : List ℕ) → option_and_then (places_of clocks) names ≡ Some ps → AreBelow (length clocks) ps
list_step clocks None ps e = cc
list_step clocks (Some names) ps e = places_of-below clocks names ps e

place_within : (count place p : ℕ) (t : Bool) → nat_lt place count ≡ t → cond t (Some place) None ≡ Some p → p < count
place_within count place p true here e = let same : place ≡ p = cc in let less : place < count = grind (arith, nat_tests) in omega arith
place_within count place p false here e = cc

clock_place-below : (count : ℕ) (object : Object) (p : ℕ) → clock_place count object ≡ Some p → p < count
clock_place-below count (object.Clock place) p e = place_within count place p (nat_lt place count) refl e
clock_place-below count _ p e = cc

clock_places-below : (count : ℕ) (objects : List Object) (ps : List ℕ) → clock_places count objects ≡ Some ps → AreBelow count ps
clock_places-below count [] ps e = let same : [] ≡ ps = cc in subst (AreBelow count) same (λ place among. cc)
clock_places-below count (first ∷ objects) ps e =
    places_step count (clock_place count first) (clock_places count objects) ps (clock_place-below count first) (clock_places-below count objects) e

-- the places of a group, and of all groups of a command
group_of-below : (clocks : List Clock) (group : Value) (ps : List ℕ) → group_of clocks group ≡ Some ps → AreBelow (length clocks) ps
group_of-below clocks (value.Text text) ps e = list_step clocks (items_of text) ps e
group_of-below clocks (value.Objects objects) ps e = clock_places-below (length clocks) objects ps e

groups_step : (n : ℕ) (found : Option (List ℕ)) (others : Option (List (List ℕ))) (gs : List (List ℕ)) → ((p : List ℕ) → found ≡ Some p → AreBelow n p)
    → ((qs : List (List ℕ)) → others ≡ Some qs → AllBelow n qs) → option_and_then (λ places. option_and_then (λ more. Some (places ∷ more)) others) found ≡ Some gs → AllBelow n gs
groups_step n None others gs here below e = cc
groups_step n (Some p) None gs here below e = cc
groups_step n (Some p) (Some qs) gs here below e =
    let same : p ∷ qs ≡ gs = cc in
    subst (AllBelow n) same (here p refl, below qs refl)

groups_placed-below : (clocks : List Clock) (groups : List Value) (gs : List (List ℕ)) → groups_placed clocks groups ≡ Some gs → AllBelow (length clocks) gs
groups_placed-below clocks [] gs e = let same : [] ≡ gs = cc in subst (AllBelow (length clocks)) same tt
groups_placed-below clocks (group ∷ groups) gs e =
    groups_step (length clocks) (group_of clocks group) (groups_placed clocks groups) gs (group_of-below clocks group) (groups_placed-below clocks groups) e

effect_step : (n : ℕ) (test : Bool) (groups : List (List ℕ)) → AllBelow n groups → AllBelow n (cond test [] groups)
effect_step n true groups below = tt
effect_step n false groups below = below

given_step : (n : ℕ) (placed : Option (List (List ℕ))) (gs : List (List ℕ)) → ((ps : List (List ℕ)) → placed ≡ Some ps → AllBelow n ps)
    → option_map with_effect placed ≡ Some gs → AllBelow n gs
given_step n None gs below e = cc
given_step n (Some ps) gs below e =
    let same : with_effect ps ≡ gs = cc in
    subst (AllBelow n) same (effect_step n (list_any (λ (group : List ℕ). length group == 0) ps) ps (below ps refl))

groups_given-below : (clocks : List Clock) (asynchronous : Bool) (groups : List Value) (gs : List (List ℕ)) → groups_given clocks asynchronous groups ≡ Some gs → AllBelow (length clocks) gs
groups_given-below clocks true (group ∷ groups) gs e =
    given_step (length clocks) (groups_placed clocks (group ∷ groups)) gs (groups_placed-below clocks (group ∷ groups)) e
groups_given-below clocks _ _ gs e = cc

options_step : (clocks : List Clock) (given : Option GroupOptions) (gs : List (List ℕ))
    → option_and_then (λ (options : GroupOptions). groups_given clocks options.asynchronous options.groups) given ≡ Some gs → AllBelow (length clocks) gs
options_step clocks None gs e = cc
options_step clocks (Some given) gs e = groups_given-below clocks given.asynchronous given.groups gs e

pub groups_of-below : (clocks : List Clock) (words : List Value) (gs : List (List ℕ)) → Some gs ≡ groups_of clocks words → AllBelow (length clocks) gs
groups_of-below clocks words gs e = options_step clocks (group_options clocks no_groups words) gs (sym e)

-- they stay so as clocks are added
all_grow : (n m : ℕ) (groups : List (List ℕ)) → n ≤ m → AllBelow n groups → AllBelow m groups
all_grow n m [] more below = tt
all_grow n m (group ∷ groups) more below = (
  λ place among. let small : place < n = below.0 place among in omega arith,
  all_grow n m groups more below.1,
)

pub CommandsBelow-grow : (n m : ℕ) (commands : List (List (List ℕ))) → n ≤ m → CommandsBelow n commands → CommandsBelow m commands
CommandsBelow-grow n m [] more below = tt
CommandsBelow-grow n m (groups ∷ commands) more below = (all_grow n m groups more below.0, CommandsBelow-grow n m commands more below.1)

-- and as commands are
pub CommandsBelow-push : (n : ℕ) (commands : List (List (List ℕ))) (groups : List (List ℕ)) → CommandsBelow n commands → AllBelow n groups → CommandsBelow n (commands ++ groups ∷ [])
CommandsBelow-push n [] groups below here = (here, tt)
CommandsBelow-push n (first ∷ commands) groups below here = (below.0, CommandsBelow-push n commands groups below.1 here)
