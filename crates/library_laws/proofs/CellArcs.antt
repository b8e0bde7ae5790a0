-- The arcs and checks of a library cell are between its own pins.
use Rattle.std.proofs.Common.{◌≡◌, ◌+◌, ◌<◌, ◌≤◌, ℕ, Bool, true, false, List, [], ◌∷◌, ◌++◌, Option, Some, None, length, map, ap, subst, arith, slice_index_or}
use Rattle.std.specs.Prelude.{◌&&◌, codes, nat_lt, if◌then◌else◌}
use Rattle.std.specs.List.{All, filter_map, flat_map, list_any}
use Rattle.std.proofs.lemmas.Bool.{ltb-true}
use Rattle.std.proofs.lemmas.List.{length-map}
use Rattle.std.proofs.lemmas.List.Elements.{All-append, All-cons, All-head, All-map, All-nil, All-push, All-tail, All-weaker}
use Rattle.std.proofs.lemmas.Option.{none-some, same_Some}
use Rattle.sdc_base.proofs.CaseFacts.{by_bool}
use Rattle.pin_types.specs.declared.library_cells.LibArc.{LibArc}
use Rattle.pin_types.specs.declared.library_cells.LibCheck.{LibCheck}
use Rattle.pin_types.specs.declared.pins.Edge.TheVariants.{Rise, Fall}
use Rattle.function_model.specs.FunctionText.{place_in}
use Rattle.library_model.specs.LibertyArcs.{Related, arc_if, arcs_of, both, check_if, checks_of, direction_at, has_arcs, is_same_check, is_same_pair, places_of, related_from, related_in, related_pin, related_pins, with_arc, with_check, words_if}
use Rattle.library_model.specs.LibertyCells.{NamedPin, pin_names, pins}
use Rattle.library_model.specs.LibertyStatements.{Member, groups, last_value, members}
use Rattle.library_model.specs.LibertyTiming.{Timing, arc_of, cell_arc, check, check_of, launch, passed_over}
use Rattle.text_model.proofs.EachItem.{each_folded, each_given, each_joined}

-- ---- related pins

-- both pins are among so many
abbrev AreWithin : ℕ → Related → Type 0
AreWithin count related = (related.from < count) × (related.to < count)

places_within : (names words : List (List ℕ)) → All (λ place. place < length names) (places_of names words)
places_within names [] = All-nil (λ place. place < length names)
places_within names (word ∷ words) =
    let rest = places_within names words in
    by_bool (λ b. All (λ place. place < length names) (if b then place_in names word ∷ places_of names words else places_of names words)) (nat_lt (place_in names word) (length names))
    (λ is. All-cons (λ place. place < length names) (place_in names word) (places_of names words) (ltb-true (place_in names word) (length names) is) rest)
    (λ is. rest)

words_within : (names : List (List ℕ)) (to : ℕ) (said : List Member) (words : List (List ℕ)) → to < length names → All (AreWithin (length names)) (map (related_pin said to) (places_of names words))
words_within names to said words below =
    All-map (AreWithin (length names)) (related_pin said to) (places_of names words)
    (All-weaker (λ place. place < length names) (λ place. AreWithin (length names) (related_pin said to place)) (λ place within. (within, below)) (places_of names words) (places_within names words))

related_within : (names : List (List ℕ)) (place : ℕ) (ps : List NamedPin) → place + length ps ≤ length names → All (AreWithin (length names)) (related_from names place ps)
related_within names place [] below = All-nil (AreWithin (length names))
related_within names place (pin ∷ ps) below =
    let timings = groups (codes "timing") (members 3 pin.group.inside) in
    All-append (AreWithin (length names)) (flat_map (related_in names place) timings) (related_from names (place + 1) ps)
    (each_joined (AreWithin (length names)) (related_in names place) timings
    (λ k d within. words_within names place (members 4 (slice_index_or timings k d).inside) (words_if (last_value (codes "related_pin") (members 4 (slice_index_or timings k d).inside))) (omega (arith, below))))
    (related_within names (place + 1) ps (omega (arith, below)))

all_within : (cell : Member) → All (AreWithin (length (pins cell))) (related_pins cell)
all_within cell =
    let same : length (pin_names cell) ≡ length (pins cell) = length-map (pins cell) (λ (pin : NamedPin). pin.name) in
    subst (λ count. All (AreWithin count) (related_pins cell)) same (related_within (pin_names cell) 0 (pins cell) (omega (arith, same)))

-- ---- arcs

abbrev pub ArcWithin : ℕ → LibArc → Type 0
ArcWithin count arc = (arc.from < count) × (arc.to < count)

arc_places : (from to : ℕ) (timing : Timing) (sense : Option (List ℕ)) (arc : LibArc) → arc_of from to timing sense ≡ Some arc → (from ≡ arc.from) × (to ≡ arc.to)
arc_places from to (cell_arc rise fall) sense arc is = let same = same_Some _ arc is in (ap (λ (a : LibArc). a.from) same, ap (λ (a : LibArc). a.to) same)
arc_places from to (launch Rise) sense arc is = let same = same_Some _ arc is in (ap (λ (a : LibArc). a.from) same, ap (λ (a : LibArc). a.to) same)
arc_places from to (launch Fall) sense arc is = let same = same_Some _ arc is in (ap (λ (a : LibArc). a.from) same, ap (λ (a : LibArc). a.to) same)
arc_places from to (check side edge) sense arc is = absurd (none-some arc is)
arc_places from to passed_over sense arc is = absurd (none-some arc is)

if_some : {A : Type 0} (b : Bool) (o : Option A) (x : A) → (if b then o else None) ≡ Some x → o ≡ Some x
if_some true o x is = is
if_some false o x is = absurd (none-some x is)

arc_within : (count : ℕ) (ps : List NamedPin) (related : Related) (arc : LibArc) → AreWithin count related → arc_if ps related ≡ Some arc → ArcWithin count arc
arc_within count ps related arc within is =
    let same = arc_places related.from related.to related.timing related.sense arc
    (if_some (has_arcs (direction_at ps related.from) && has_arcs (direction_at ps related.to)) (arc_of related.from related.to related.timing related.sense) arc is) in
    (subst (λ n. n < count) same.0 within.0, subst (λ n. n < count) same.1 within.1)

united_within : (count : ℕ) (arcs : List LibArc) (arc : LibArc) → All (ArcWithin count) arcs → ArcWithin count arc → All (ArcWithin count) (with_arc arcs arc)
united_within count [] arc all within = All-cons (ArcWithin count) arc [] within all
united_within count (other ∷ arcs) arc all within =
    let head = All-head (ArcWithin count) other arcs all in
    let tail = All-tail (ArcWithin count) other arcs all in
    by_bool (λ b. All (ArcWithin count) (if b then both other arc ∷ arcs else other ∷ with_arc arcs arc)) (is_same_pair other arc)
    (λ is. All-cons (ArcWithin count) (both other arc) arcs head tail)
    (λ is. All-cons (ArcWithin count) other (with_arc arcs arc) head (united_within count arcs arc tail within))

pub arcs_within : (cell : Member) → All (ArcWithin (length (pins cell))) (arcs_of cell)
arcs_within cell =
    let count = length (pins cell) in
    each_folded (ArcWithin count) with_arc (united_within count) [] (filter_map (arc_if (pins cell)) (related_pins cell)) (All-nil (ArcWithin count))
    (each_given (AreWithin count) (ArcWithin count) (arc_if (pins cell)) (arc_within count (pins cell)) (related_pins cell) (all_within cell))

-- ---- checks

abbrev pub CheckWithin : ℕ → LibCheck → Type 0
CheckWithin count c = (c.pin < count) × (c.clock < count)

check_places : (from to : ℕ) (timing : Timing) (is : LibCheck) → check_of from to timing ≡ Some is → (to ≡ is.pin) × (from ≡ is.clock)
check_places from to (cell_arc rise fall) c is = absurd (none-some c is)
check_places from to (launch edge) c is = absurd (none-some c is)
check_places from to (check side edge) c is = let same = same_Some _ c is in (ap (λ (a : LibCheck). a.pin) same, ap (λ (a : LibCheck). a.clock) same)
check_places from to passed_over c is = absurd (none-some c is)

check_within : (count : ℕ) (related : Related) (c : LibCheck) → AreWithin count related → check_if related ≡ Some c → CheckWithin count c
check_within count related c within is =
    let same = check_places related.from related.to related.timing c is in
    (subst (λ n. n < count) same.0 within.1, subst (λ n. n < count) same.1 within.0)

once_within : (count : ℕ) (checks : List LibCheck) (c : LibCheck) → All (CheckWithin count) checks → CheckWithin count c → All (CheckWithin count) (with_check checks c)
once_within count checks c all within =
    by_bool (λ b. All (CheckWithin count) (if b then checks else checks ++ c ∷ [])) (list_any (λ (other : LibCheck). is_same_check other c) checks)
    (λ is. all)
    (λ is. All-push (CheckWithin count) checks c all within)

pub checks_within : (cell : Member) → All (CheckWithin (length (pins cell))) (checks_of cell)
checks_within cell =
    let count = length (pins cell) in
    each_folded (CheckWithin count) with_check (once_within count) [] (filter_map check_if (related_pins cell)) (All-nil (CheckWithin count))
    (each_given (AreWithin count) (CheckWithin count) check_if (check_within count) (related_pins cell) (all_within cell))
