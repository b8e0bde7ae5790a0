-- The clocks of modes without generated clocks, as ranks see them.
use Rattle.std.proofs.Common.{◌≡◌, ℕ, zero, suc, ◌+◌, ◌<◌, List, [], ◌∷◌, ◌++◌, length, drop, get_or, refl, sym, ap, ◌∙◌, subst, append_assoc, add-one, arith}
use Rattle.std.proofs.lemmas.List.{drop_more}
use Rattle.timing_types.specs.declared.clocks.Clock.{Clock}
use Rattle.timing_types.specs.declared.clocks.Wave.{Wave}
use Rattle.timing_types.specs.declared.clocks.Form.{Form}
use Rattle.timing_types.specs.declared.clocks.Form.TheVariants.{Primary, Generated}
use Rattle.timing_types.specs.declared.views.Arrivals.{Arrivals}
use Rattle.timing_types.specs.declared.views.View.{View}
use Rattle.timing_types.specs.declared.identities.Standing.{Standing}
use Rattle.merge_model.specs.ClockIdentity.{merged_form, definition_of, standings_from, mode_standings}
use Rattle.merge_model.specs.PlainViews.{IsPrimary, ArePrimary}

-- a primary form stays as it is
pub form_stays : (numbers : List ℕ) (arrivals : Arrivals) (place : ℕ) (form : Form) → IsPrimary form
    → merged_form numbers arrivals place form ≡ form
form_stays numbers arrivals place (Primary wave) h = refl
form_stays numbers arrivals place (Generated source master shape invert) h = absurd h

pub primary_at : (clocks : List Clock) (i : ℕ) (d : Clock) → ArePrimary clocks → i < length clocks → IsPrimary ((get_or clocks i d).form)
primary_at [] i d all within = absurd (omega arith)
primary_at (clock ∷ clocks) zero d all within = all.0
primary_at (clock ∷ clocks) (suc i) d all within = let h : i < length clocks = omega arith in primary_at clocks i d all.1 h

-- the standing of a primary clock
abbrev pub plain_standing : ℕ → Clock → Wave → Standing
plain_standing place clock wave = record { definition = definition_of clock.form clock wave; name = clock.name; place = place }

-- standings of the clocks before a place, and those that are left
abbrev pub StandingsSoFar : View → ℕ → List Standing → Type 0
StandingsSoFar view i standings =
    standings ++ standings_from [] view.arrivals i (drop i view.mode.clocks) (drop i view.waves) ≡ mode_standings [] view

-- one more clock stands at the front of what is left
pub front_stands : (view : View) (i : ℕ) (clock : Clock) (wave none : Wave)
    → ArePrimary view.mode.clocks → length view.waves ≡ length view.mode.clocks
    → i < length view.mode.clocks → clock ≡ get_or view.mode.clocks i clock → wave ≡ get_or view.waves i none
    → standings_from [] view.arrivals i (drop i view.mode.clocks) (drop i view.waves)
    ≡ plain_standing i clock wave ∷ standings_from [] view.arrivals (i + 1) (drop (i + 1) view.mode.clocks) (drop (i + 1) view.waves)
front_stands view i clock wave none primary waves within clock_is wave_is =
    let p : IsPrimary clock.form = subst (λ (c : Clock). IsPrimary c.form) (sym clock_is) (primary_at view.mode.clocks i clock primary within) in
    let form = form_stays [] view.arrivals i clock.form p in
    let within_waves : i < length view.waves = omega arith in
    let e : drop i view.mode.clocks ≡ clock ∷ drop (i + 1) view.mode.clocks =
    drop_more view.mode.clocks i clock within ∙ ap (λ c. c ∷ drop (i + 1) view.mode.clocks) (sym clock_is) in
    let f : drop i view.waves ≡ wave ∷ drop (i + 1) view.waves =
    drop_more view.waves i none within_waves ∙ ap (λ w. w ∷ drop (i + 1) view.waves) (sym wave_is) in
    rw (e, f, form, add-one i) refl

pub standings_step : (view : View) (i : ℕ) (clock : Clock) (wave none : Wave) (standings after : List Standing) (standing : Standing)
    → ArePrimary view.mode.clocks → length view.waves ≡ length view.mode.clocks
    → i < length view.mode.clocks → clock ≡ get_or view.mode.clocks i clock → wave ≡ get_or view.waves i none
    → standing ≡ plain_standing i clock wave → after ≡ standings ++ standing ∷ []
    → StandingsSoFar view i standings → StandingsSoFar view (i + 1) after
standings_step view i clock wave none standings after standing primary waves within clock_is wave_is standing_is after_is known =
    let rest = standings_from [] view.arrivals (i + 1) (drop (i + 1) view.mode.clocks) (drop (i + 1) view.waves) in
    ap (λ front. front ++ rest) after_is
    ∙ append_assoc standings (standing ∷ []) rest
    ∙ ap (λ s. standings ++ (s ∷ rest)) standing_is
    ∙ ap (λ tail. standings ++ tail) (sym (front_stands view i clock wave none primary waves within clock_is wave_is))
    ∙ known
