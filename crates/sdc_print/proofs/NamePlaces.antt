-- The places of the clocks of printed names: each name is found at its clock, and places in order stay as they are.
use Rattle.std.proofs.Common.{◌≡◌, ◌<◌, ◌≤◌, ◌+◌, ℕ, zero, suc, true, false, cond, List, [], ◌∷◌, ◌++◌, length, length-append, map, nat_lt, Ordering, Greater, Option, Some, refl, sym, ◌∙◌, ap, subst, arith, append_assoc, append-nil, slice_get}
use Rattle.std.proofs.lemmas.Bool.{or_parts}
use Rattle.std.proofs.lemmas.Bool.Decides.{nat_tests}
use Rattle.std.proofs.lemmas.Slice.Eq.{bytes_eq-Decides}
use Rattle.std.specs.BTreeSet.{insert_key}
use Rattle.std.specs.Cmp.{nat_cmp_is}
use Rattle.std.specs.Ordering.{match_ordering, nat_cmp}
use Rattle.timing_types.specs.declared.clocks.Clock.{Clock}
use Rattle.timing_types.specs.declared.objects.Object.{Object}
use Rattle.timing_types.specs.declared.objects.Object.TheVariants as object
use Rattle.mode_model.specs.ClockCommands.{in_order, put_in_order}
use Rattle.mode_model.specs.ClockFile.{is_taken}
use Rattle.mode_model.specs.ClockGroups.{clock_places, place_from, places_of}
use Rattle.constraint_model.specs.ModeLines.{without_line}
use Rattle.mode_model.specs.PrintedFile.{ArePrintableClocks, name_of, names_at}
use Rattle.text_model.specs.Words.{same_text}
use Rattle.sdc_print.proofs.FileText.{AreItems, IsItem}
use Rattle.sdc_print.proofs.GroupPairs.{AreWithin, Rises}
use Rattle.sdc_print.proofs.PrintedFacts.{name_item}

-- ---- names of clocks

found_first : (k : ℕ) (before after : List Clock) (clock : Clock) → is_taken clock.name before ≡ false → place_from k (before ++ clock ∷ after) clock.name ≡ Some (k + length before)
found_first k [] after clock h =
    let e : k ≡ k + 0 = omega arith in
    rw ((bytes_eq-Decides clock.name clock.name).1 refl) (ap Some e)
found_first k (first ∷ before) after clock h =
    let parts = or_parts (same_text first.name clock.name) (is_taken clock.name before) h in
    let e : k + 1 + length before ≡ k + suc (length before) = omega arith in
    rw parts.0 (found_first (k + 1) before after clock parts.1 ∙ ap Some e)

-- what is known of the name of the clock at a place
pub record NameAt (all : List Clock) (place : ℕ) (name : List ℕ) : Type 0 where
  pub item : IsItem name
  pub found : place_from 0 all name ≡ Some place
  pub within : place < length all

pub name_here : (all before clocks : List Clock) (clock : Clock) (place : ℕ) → ArePrintableClocks before (clock ∷ clocks) → all ≡ before ++ clock ∷ clocks → place ≡ length before → NameAt all place clock.name
name_here all before clocks clock place a e l =
    let here : place_from 0 (before ++ clock ∷ clocks) clock.name ≡ Some place = found_first 0 before clocks clock a.1 ∙ ap Some (omega arith) in
    let below : place < length (before ++ clock ∷ clocks) = omega (arith, length-append before (clock ∷ clocks)) in
    subst (λ (cs : List Clock). NameAt cs place clock.name) (sym e) (record { item = name_item clock.name a.0.3; found = here; within = below })

name_at_from : (clocks before : List Clock) (place at : ℕ) → ArePrintableClocks before clocks → at < length clocks → place ≡ length before + at → NameAt (before ++ clocks) place (name_of (slice_get clocks at))
name_at_from [] before place at a h e = absurd (omega arith)
name_at_from (clock ∷ clocks) before place zero a h e = name_here (before ++ clock ∷ clocks) before clocks clock place a refl (omega arith)
name_at_from (clock ∷ clocks) before place (suc at) a h e =
    let more : place ≡ length (before ++ clock ∷ []) + at = omega (arith, e, length-append before (clock ∷ [])) in
    subst (λ (cs : List Clock). NameAt cs place (name_of (slice_get clocks at))) (append_assoc before (clock ∷ []) clocks)
    (name_at_from clocks (before ++ clock ∷ []) place at a.2 (omega arith) more)

name_at : (all : List Clock) (place : ℕ) → ArePrintableClocks [] all → place < length all → NameAt all place (name_of (slice_get all place))
name_at all place a h = name_at_from all [] place place a h (omega arith)

-- the clocks at places, as objects
abbrev pub objects_at : List ℕ → List Object
objects_at places = map object.Clock places

-- and of those of some places
pub record NamesAt (all : List Clock) (places : List ℕ) (names : List (List ℕ)) : Type 0 where
  pub texts : AreItems names
  pub found : places_of all names ≡ Some places
  pub within : clock_places (length all) (objects_at places) ≡ Some places

pub one_more_name : (all : List Clock) (place : ℕ) (places : List ℕ) (name : List ℕ) (names : List (List ℕ)) → NameAt all place name → NamesAt all places names → NamesAt all (place ∷ places) (name ∷ names)
one_more_name all place places name names first others =
    let below : nat_lt place (length all) ≡ true = let h = first.within in grind (arith, nat_tests) in
    record { texts = (first.item, others.texts); found = rw (first.found, others.found) refl; within = rw (below, others.within) refl }

pub no_names : (all : List Clock) → NamesAt all [] []
no_names all = record { texts = tt; found = refl; within = refl }

pub names_are_at : (all : List Clock) (low : ℕ) (places : List ℕ) → ArePrintableClocks [] all → AreWithin low (length all) places → NamesAt all places (names_at all places)
names_are_at all low [] a w = no_names all
names_are_at all low (place ∷ places) a w =
    one_more_name all place places (name_of (slice_get all place)) (names_at all places) (name_at all place a w.1) (names_are_at all low places a w.2)

-- places do not hang on the lines of clocks
place_without_lines : (k : ℕ) (clocks : List Clock) (name : List ℕ) → place_from k (map without_line clocks) name ≡ place_from k clocks name
place_without_lines k [] name = refl
place_without_lines k (clock ∷ clocks) name = ap (λ (o : Option ℕ). cond (same_text clock.name name) (Some k) o) (place_without_lines (k + 1) clocks name)

places_without_lines : (clocks : List Clock) (names : List (List ℕ)) → places_of (map without_line clocks) names ≡ places_of clocks names
places_without_lines clocks [] = refl
places_without_lines clocks (name ∷ names) = rw (place_without_lines 0 clocks name, places_without_lines clocks names) refl

pub places_same : (first second : List Clock) (names : List (List ℕ)) → map without_line first ≡ map without_line second → places_of first names ≡ places_of second names
places_same first second names e = sym (places_without_lines first names) ∙ (ap (λ (cs : List Clock). places_of cs names) e ∙ places_without_lines second names)

-- ---- places in order

abbrev AreBelow : ℕ → List ℕ → Type 0
AreBelow place [] = Unit {0}
AreBelow place (first ∷ places) = (first < place) × AreBelow place places

goes_last : (done : List ℕ) (place : ℕ) → AreBelow place done → insert_key nat_cmp done place ≡ done ++ place ∷ []
goes_last [] place b = refl
goes_last (first ∷ done) place b =
    let above : Greater ≡ nat_cmp place first = nat_cmp_is place first Greater b.0 in
    ap (λ (o : Ordering). match_ordering o (place ∷ first ∷ done) (first ∷ done) (first ∷ insert_key nat_cmp done place)) (sym above)
    ∙ ap (λ (ps : List ℕ). first ∷ ps) (goes_last done place b.1)

more_below : (done : List ℕ) (low place : ℕ) → low ≤ place → AreBelow low done → AreBelow (suc place) (done ++ place ∷ [])
more_below [] low place h b = (omega arith, tt)
more_below (first ∷ done) low place h b = (omega (arith, h, b.0), more_below done low place h b.1)

raised : (done : List ℕ) (low place : ℕ) → low ≤ place → AreBelow low done → AreBelow place done
raised [] low place h b = tt
raised (first ∷ done) low place h b = (omega (arith, h, b.0), raised done low place h b.1)

put_after : (done places : List ℕ) (low end : ℕ) → AreBelow low done → Rises low end places → put_in_order done places ≡ done ++ places
put_after done [] low end b r = sym (append-nil done)
put_after done (place ∷ places) low end b r =
    ap (λ (ps : List ℕ). put_in_order ps places) (goes_last done place (raised done low place r.0 b))
    ∙ (put_after (done ++ place ∷ []) places (suc place) end (more_below done low place r.0 b) r.2 ∙ append_assoc done (place ∷ []) places)

-- places that rise are in order
pub rising_in_order : (low end : ℕ) (places : List ℕ) → Rises low end places → in_order places ≡ places
rising_in_order low end places r = put_after [] places low end tt r
