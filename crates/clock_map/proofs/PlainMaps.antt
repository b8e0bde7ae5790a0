-- The parts of a clock map put together, for modes without generated clocks.
use Rattle.std.proofs.Common.{◌≡◌, ℕ, zero, suc, ◌-◌, ◌<◌, ◌≤◌, List, [], ◌∷◌, ◌++◌, length, Some, None, refl, sym, ap, ◌∙◌, subst, inl, inr, arith}
use Rattle.std.specs.Prelude.{slice_get}
use Rattle.std.specs.Option.{option_and_then}
use Rattle.std.specs.List.{AllZip, concat}
use Rattle.std.proofs.lemmas.Bool.{cases_lt}
use Rattle.std.proofs.lemmas.List.{length-append, length-map}
use Rattle.std.proofs.lemmas.Option.{slice_get_within}
use Rattle.timing_types.specs.declared.clocks.Clock.{Clock}
use Rattle.timing_types.specs.declared.clocks.Wave.{Wave}
use Rattle.timing_types.specs.declared.clocks.Form.{Form}
use Rattle.timing_types.specs.declared.clocks.Form.TheVariants.{Primary, Generated}
use Rattle.timing_types.specs.declared.views.Arrivals.{Arrivals}
use Rattle.timing_types.specs.declared.views.View.{View}
use Rattle.timing_types.specs.declared.views.ClockMap.{ClockMap}
use Rattle.timing_types.specs.declared.identities.Standing.{Standing}
use Rattle.timing_types.specs.declared.identities.Identity.{Identity}
use Rattle.merge_model.specs.ClockIdentity.{merged_form, definition_of, standings_from, mode_standings, identities_among, identity_among, standings_of, identities_of, master_of, HasDepthAt, IsFirstAt, IsClockMap}
use Rattle.merge_model.specs.PlainViews.{IsPrimary, ArePrimary, ModesArePrimary, HaveWaves, clock_count}
use Rattle.clock_map.specs.Numbering.{RisesTo, AreNumbers}
use Rattle.clock_map.specs.MergedClocks.{AreMerged}
use Rattle.clock_map.proofs.StandingLists.{form_stays}

-- ---- primary clocks are the same under every map

pub from_plain : (numbers : List ℕ) (arrivals : Arrivals) (place : ℕ) (clocks : List Clock) (waves : List Wave) → ArePrimary clocks
    → standings_from numbers arrivals place clocks waves ≡ standings_from [] arrivals place clocks waves
from_plain numbers arrivals place [] waves primary = refl
from_plain numbers arrivals place (clock ∷ clocks) [] primary = refl
from_plain numbers arrivals place (clock ∷ clocks) (wave ∷ waves) primary =
    let form : merged_form numbers arrivals place clock.form ≡ merged_form [] arrivals place clock.form =
    form_stays numbers arrivals place clock.form primary.0 ∙ sym (form_stays [] arrivals place clock.form primary.0) in
    let rest = from_plain numbers arrivals (suc place) clocks waves primary.1 in
    λ i. record { definition = definition_of (form i) clock wave; name = clock.name; place = place } ∷ rest i

pub standings_plain : (views : List View) (maps : List (List ℕ)) → ModesArePrimary views → standings_of views maps ≡ standings_of views []
standings_plain [] maps primary = refl
standings_plain (view ∷ views) [] primary = refl
standings_plain (view ∷ views) (numbers ∷ maps) primary =
    let here = from_plain numbers view.arrivals 0 view.mode.clocks view.waves primary.0 in
    let rest = standings_plain views maps primary.1 in
    λ i. here i ++ rest i

pub identities_plain : (views : List View) (maps : List (List ℕ)) → ModesArePrimary views → identities_of views maps ≡ identities_of views []
identities_plain [] maps primary = refl
identities_plain (view ∷ views) [] primary = refl
identities_plain (view ∷ views) (numbers ∷ maps) primary =
    let here = from_plain numbers view.arrivals 0 view.mode.clocks view.waves primary.0 in
    let rest = identities_plain views maps primary.1 in
    λ i. identities_among (here i) ++ rest i

-- ---- how many they are

pub length-from : (numbers : List ℕ) (arrivals : Arrivals) (place : ℕ) (clocks : List Clock) (waves : List Wave) → length waves ≡ length clocks
    → length (standings_from numbers arrivals place clocks waves) ≡ length clocks
length-from numbers arrivals place [] waves same = refl
length-from numbers arrivals place (clock ∷ clocks) [] same = absurd (omega arith)
length-from numbers arrivals place (clock ∷ clocks) (wave ∷ waves) same = ap suc (length-from numbers arrivals (suc place) clocks waves (omega arith))

pub length-standings_of : (views : List View) → HaveWaves views → length (standings_of views []) ≡ clock_count views
length-standings_of [] waves = refl
length-standings_of (view ∷ views) waves =
    let here = length-from [] view.arrivals 0 view.mode.clocks view.waves waves.0 in
    let rest = length-standings_of views waves.1 in
    let both = length-append (mode_standings [] view) (standings_of views []) in
    omega arith

pub length-identities_of : (views : List View) → HaveWaves views → length (identities_of views []) ≡ clock_count views
length-identities_of [] waves = refl
length-identities_of (view ∷ views) waves =
    let here = length-from [] view.arrivals 0 view.mode.clocks view.waves waves.0 in
    let mapped = length-map (mode_standings [] view) (identity_among (mode_standings [] view)) in
    let rest = length-identities_of views waves.1 in
    let both = length-append (identities_among (mode_standings [] view)) (identities_of views []) in
    omega arith

-- ---- order

no_master : (arrivals : Arrivals) (place : ℕ) (form : Form) → IsPrimary form → master_of arrivals place form ≡ None
no_master arrivals place (Primary wave) h = refl
no_master arrivals place (Generated source master shape invert) h = absurd h

pub no_master_among : (arrivals : Arrivals) (place : ℕ) (clocks : List Clock) (i : ℕ) → ArePrimary clocks
    → option_and_then (λ clock. master_of arrivals place clock.form) (slice_get clocks i) ≡ None
no_master_among arrivals place [] i primary = refl
no_master_among arrivals place (clock ∷ clocks) zero primary = no_master arrivals place clock.form primary.0
no_master_among arrivals place (clock ∷ clocks) (suc i) primary = no_master_among arrivals place clocks i primary.1

pub depth_is_zero : (views : List View) (at : ℕ) → ModesArePrimary views → at < clock_count views → HasDepthAt views at 0
depth_is_zero [] at primary within = absurd (omega arith)
depth_is_zero (view ∷ views) at primary within =
    elim (cases_lt at (length view.mode.clocks)) [
      | inl less ↦ inl (less, no_master_among view.arrivals at view.mode.clocks at primary.0)
      | inr more ↦ inr (more, depth_is_zero views (at - length view.mode.clocks) primary.1 (omega arith))
    ]

-- lesser numbers stand before a number
lesser_before : (next : ℕ) (numbers : List ℕ) (last k l q : ℕ) → RisesTo next numbers last → next ≤ k → k < l → slice_get numbers q ≡ Some l
    → (p : ℕ) × (p < q) × (slice_get numbers p ≡ Some k)
lesser_before next [] last k l q rises known less at = cc
lesser_before next (number ∷ numbers) last k l zero rises known less at =
    let is : number ≡ l = cc in
    elim rises [ inl old ↦ absurd (omega (arith, old.0)) | inr new ↦ absurd (omega (arith, new.0)) ]
lesser_before next (number ∷ numbers) last k l (suc q) rises known less at =
    elim rises [
      | inl old ↦ let h = lesser_before next numbers last k l q old.1 known less at in (suc h.0, omega (arith, h.1), h.2)
      | inr new ↦ elim (cases_lt next k) [
        | inl below ↦ let h = lesser_before (suc next) numbers last k l q new.1 (omega arith) less at in (suc h.0, omega (arith, h.1), h.2)
        | inr above ↦ let is : number ≡ k = omega (arith, new.0) in (0, omega arith, ap Some is)
      ]
    ]

firsts_rise : (numbers : List ℕ) (last k l p q : ℕ) → RisesTo 0 numbers last → k < l → IsFirstAt numbers k p → IsFirstAt numbers l q → p < q
firsts_rise numbers last k l p q rises less first second =
    let before = lesser_before 0 numbers last k l q rises (omega arith) less second.is in
    elim (cases_lt before.0 p) [
      | inl early ↦ absurd (first.none_before before.0 early before.2)
      | inr late ↦ omega (arith, before.1)
    ]

-- ---- the whole map

pub is_map : (views : List View) (standings : List Standing) (identities : List Identity) (numbers : List ℕ) (answer : ClockMap)
    → ModesArePrimary views → HaveWaves views
    → standings ≡ standings_of views [] → identities ≡ identities_of views []
    → AreNumbers identities numbers → AreMerged standings numbers answer.clocks answer.waves
    → concat answer.maps ≡ numbers → AllZip (λ view row. length row ≡ length view.mode.clocks) views answer.maps
    → IsClockMap views answer
is_map views standings identities numbers answer primary waves standings_is identities_is numbered merged all shape =
    let ids : identities ≡ identities_of views answer.maps = identities_is ∙ sym (identities_plain views answer.maps primary) in
    let stands : standings ≡ standings_of views answer.maps = standings_is ∙ sym (standings_plain views answer.maps primary) in
    let count : length numbers ≡ clock_count views = numbered.length_is ∙ ap length identities_is ∙ length-identities_of views waves in
    record {
      shape = shape;
      numbered = rw all merged.numbered;
      one = rw (all, ← ids) numbered.one;
      order = λ k l p q less first second.
          let first' : IsFirstAt numbers k p = subst (λ (ns : List ℕ). IsFirstAt ns k p) all first in
          let second' : IsFirstAt numbers l q = subst (λ (ns : List ℕ). IsFirstAt ns l q) all second in
          let p_within = slice_get_within numbers p k first'.is in
          let q_within = slice_get_within numbers q l second'.is in (
            0,
            0,
            depth_is_zero views p primary (omega arith),
            depth_is_zero views q primary (omega arith),
            inr (refl, firsts_rise numbers numbered.last k l p q numbered.rises less first' second'),
          );
      waves = merged.long;
      merged = rw (all, ← stands) merged.merged;
    }
