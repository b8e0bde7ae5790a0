-- Places of clocks by their names, as clocks are added.
use Rattle.std.proofs.Common.{◌≡◌, ◌+◌, ◌||◌, ℕ, Bool, true, false, cond, List, [], ◌∷◌, ◌++◌, length, Option, Some, None, String, refl, sym, ◌∙◌, ap, arith}
use Rattle.std.proofs.lemmas.Slice.Eq.{bytes_eq-Decides}
use Rattle.std.proofs.lemmas.Map.Text.{btree_map_updates_text}
use Rattle.std.specs.BTreeMap.{BTreeMap, UpdatesBy}
use Rattle.std.specs.Cmp.Lexicographic.{slice_cmp}
use Rattle.std.specs.Option.{is_some}
use Rattle.std.specs.Ordering.{nat_cmp}
use Rattle.std.specs.Str.{bytes_eq}
use Rattle.std.specs.String.{string_bytes, string_cmp}
use Rattle.timing_types.specs.declared.clocks.Clock.{Clock}
use Rattle.mode_model.specs.ClockFile.{is_taken}
use Rattle.mode_model.specs.ClockGroups.{place_from}
use Rattle.text_model.specs.Words.{same_text}
use Rattle.sdc_cli.specs.Places.{HasPlaces}

-- a name is taken where it has a place
is_taken_step : (name : List ℕ) (clocks : List Clock) (place : ℕ) → is_some (place_from (place + 1) clocks name) ≡ is_taken name clocks
    → (t : Bool) → is_some (cond t (Some place) (place_from (place + 1) clocks name)) ≡ (t || is_taken name clocks)
is_taken_step name clocks place tail true = refl
is_taken_step name clocks place tail false = tail

pub is_taken-place : (name : List ℕ) (clocks : List Clock) (place : ℕ) → is_some (place_from place clocks name) ≡ is_taken name clocks
is_taken-place name [] place = refl
is_taken-place name (clock ∷ clocks) place = is_taken_step name clocks place (is_taken-place name clocks (place + 1)) (same_text clock.name name)

not_some : {A : Type 0} (o : Option A) → is_some o ≡ false → o ≡ None
not_some None e = refl
not_some (Some x) e = cc

-- the place of a name among clocks, and else of one more clock
abbrev pub or_place : Option ℕ → Bool → ℕ → Option ℕ
or_place (Some place) same last = Some place
or_place None same last = cond same (Some last) None

push_step : (name : List ℕ) (clocks more : List Clock) (place last : ℕ) (same : Bool) → place_from (place + 1) more name ≡ or_place (place_from (place + 1) clocks name) same last
    → (t : Bool) → cond t (Some place) (place_from (place + 1) more name) ≡ or_place (cond t (Some place) (place_from (place + 1) clocks name)) same last
push_step name clocks more place last same tail true = refl
push_step name clocks more place last same tail false = tail

place_from-push : (name : List ℕ) (clocks : List Clock) (place last : ℕ) (clock : Clock) → last ≡ place + length clocks
    → place_from place (clocks ++ clock ∷ []) name ≡ or_place (place_from place clocks name) (same_text clock.name name) last
place_from-push name [] place last clock e =
    let same : last ≡ place = omega arith in
    rw same refl
place_from-push name (c ∷ clocks) place last clock e =
    push_step name clocks (clocks ++ clock ∷ []) place last (same_text clock.name name) (place_from-push name clocks (place + 1) last clock (omega arith)) (same_text c.name name)

found_or : (old : Option ℕ) (same : Bool) (last : ℕ) → (same ≡ true → old ≡ None) → cond same (Some last) old ≡ or_place old same last
found_or None true last none = refl
found_or None false last none = refl
found_or (Some place) false last none = refl
found_or (Some place) true last none = let e : Some place ≡ None = none refl in cc

-- one more clock of a new name, and its place in the map
pub HasPlaces-push : {A : Type 0} (old new : BTreeMap (String A) ℕ) (key : List ℕ) (place : ℕ) (clocks more : List Clock) (clock : Clock)
    → HasPlaces old clocks → is_taken clock.name clocks ≡ false → key ≡ clock.name → place ≡ length clocks → more ≡ clocks ++ clock ∷ []
    → UpdatesBy string_cmp (λ k. slice_cmp nat_cmp key (string_bytes k)) old new (Some place)
    → HasPlaces new more
HasPlaces-push old new key place clocks more clock has free same_name same_place all updates name =
    let none : place_from 0 clocks key ≡ None = ap (place_from 0 clocks) same_name ∙ not_some (place_from 0 clocks clock.name) (is_taken-place clock.name clocks 0 ∙ free) in
    let others : same_text key name ≡ true → place_from 0 clocks name ≡ None =
    λ same. ap (place_from 0 clocks) (sym ((bytes_eq-Decides key name).0 same)) ∙ none in
    btree_map_updates_text key old new (Some place) updates name
    ∙ (ap (λ found. cond (bytes_eq key name) (Some place) found) (has name)
    ∙ (found_or (place_from 0 clocks name) (same_text key name) place others
    ∙ (ap (λ k. or_place (place_from 0 clocks name) (same_text k name) place) same_name
    ∙ (sym (place_from-push name clocks 0 place clock (omega arith)) ∙ ap (λ cs. place_from 0 cs name) (sym all)))))
