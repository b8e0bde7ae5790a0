-- Testing clocks and modes one by one.
use Rattle.std.proofs.Common.{◌≡◌, ℕ, zero, suc, ◌+◌, ◌-◌, ◌<◌, ◌≤◌, ◌^◌, List, [], ◌∷◌, ◌++◌, length, take, get_or, sym, ap, ◌∙◌, subst, arith}
use Rattle.std.proofs.lemmas.List.{take_more}
use Rattle.timing_types.specs.declared.clocks.Clock.{Clock}
use Rattle.timing_types.specs.declared.views.View.{View}
use Rattle.merge_model.specs.PlainViews.{IsPrimary, ArePrimary, ModesArePrimary, HaveWaves, clock_count, ArePlain}
use Rattle.clock_map.proofs.StandingLists.{primary_at}

-- one of them
pub primary_here : (clocks : List Clock) (i : ℕ) (clock : Clock) → i < length clocks → clock ≡ get_or clocks i clock → ArePrimary clocks → IsPrimary clock.form
primary_here clocks i clock within is all = subst (λ (c : Clock). IsPrimary c.form) (sym is) (primary_at clocks i clock all within)

primary_push : (clocks : List Clock) (clock : Clock) → ArePrimary clocks → IsPrimary clock.form → ArePrimary (clocks ++ clock ∷ [])
primary_push [] clock all here = (here, tt)
primary_push (first ∷ clocks) clock all here = (all.0, primary_push clocks clock all.1 here)

pub primary_step : (clocks : List Clock) (i : ℕ) (clock : Clock) → i < length clocks → clock ≡ get_or clocks i clock → IsPrimary clock.form
    → ArePrimary (take i clocks) → ArePrimary (take (i + 1) clocks)
primary_step clocks i clock within is here known =
    let grown : take (i + 1) clocks ≡ take i clocks ++ clock ∷ [] = take_more clocks i clock within ∙ ap (λ c. take i clocks ++ c ∷ []) (sym is) in
    subst ArePrimary (sym grown) (primary_push (take i clocks) clock known here)

pub record PlainSoFar (views : List View) (i left : ℕ) : Type 0 where
  pub primary : ModesArePrimary (take i views)
  pub waves : HaveWaves (take i views)
  pub count : clock_count (take i views) + left ≡ 2 ^ 32

modes_push : (views : List View) (view : View) → ModesArePrimary views → ArePrimary view.mode.clocks → ModesArePrimary (views ++ view ∷ [])
modes_push [] view all here = (here, tt)
modes_push (first ∷ views) view all here = (all.0, modes_push views view all.1 here)

waves_push : (views : List View) (view : View) → HaveWaves views → length view.waves ≡ length view.mode.clocks → HaveWaves (views ++ view ∷ [])
waves_push [] view all here = (here, tt)
waves_push (first ∷ views) view all here = (all.0, waves_push views view all.1 here)

count_push : (views : List View) (view : View) → clock_count (views ++ view ∷ []) ≡ clock_count views + length view.mode.clocks
count_push [] view = omega arith
count_push (first ∷ views) view = let rest = count_push views view in omega arith

pub count_front : (views : List View) (i : ℕ) → clock_count (take i views) ≤ clock_count views
count_front views zero = omega arith
count_front [] (suc i) = omega arith
count_front (first ∷ views) (suc i) = let rest = count_front views i in omega arith

grown_views : (views : List View) (i : ℕ) (view : View) → i < length views → view ≡ get_or views i view → take (i + 1) views ≡ take i views ++ view ∷ []
grown_views views i view within is = take_more views i view within ∙ ap (λ v. take i views ++ v ∷ []) (sym is)

pub plain_step : (views : List View) (i left : ℕ) (view : View) → i < length views → view ≡ get_or views i view
    → ArePrimary view.mode.clocks → length view.waves ≡ length view.mode.clocks → length view.mode.clocks ≤ left
    → PlainSoFar views i left → PlainSoFar views (i + 1) (left - length view.mode.clocks)
plain_step views i left view within is primary waves few known =
    let grown = grown_views views i view within is in
    let counted = count_push (take i views) view in
    let count = known.count in
    record {
      primary = subst ModesArePrimary (sym grown) (modes_push (take i views) view known.primary primary);
      waves = subst HaveWaves (sym grown) (waves_push (take i views) view known.waves waves);
      count = ap (λ vs. clock_count vs + (left - length view.mode.clocks)) grown ∙ omega arith;
    }

pub too_many : (views : List View) (i left : ℕ) (view : View) → i < length views → view ≡ get_or views i view → left < length view.mode.clocks
    → PlainSoFar views i left → ArePlain views → ⊥
too_many views i left view within is many known plain =
    let grown = grown_views views i view within is in
    let counted = ap clock_count grown ∙ count_push (take i views) view in
    let front = count_front views (i + 1) in
    let few = plain.few in
    let count = known.count in
    absurd (omega arith)
