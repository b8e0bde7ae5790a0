-- The clocks of all modes, none of them generated, one mode after the other.
use Rattle.std.proofs.Common.{◌≡◌, ℕ, zero, suc, ◌+◌, ◌<◌, List, [], ◌∷◌, ◌++◌, length, drop, get_or, sym, ap, ◌∙◌, subst, append_assoc, arith}
use Rattle.std.proofs.lemmas.List.{drop_more}
use Rattle.timing_types.specs.declared.views.View.{View}
use Rattle.timing_types.specs.declared.identities.Standing.{Standing}
use Rattle.timing_types.specs.declared.identities.Identity.{Identity}
use Rattle.merge_model.specs.ClockIdentity.{mode_standings, identities_among, standings_of, identities_of}
use Rattle.merge_model.specs.PlainViews.{ArePrimary, ModesArePrimary, HaveWaves}

pub primary_mode : (views : List View) (i : ℕ) (view : View) → ModesArePrimary views → i < length views → view ≡ get_or views i view → ArePrimary view.mode.clocks
primary_mode views i view all within is = subst (λ (v : View). ArePrimary v.mode.clocks) (sym is) (at_place views i view all within) where
  at_place : (views : List View) (i : ℕ) (d : View) → ModesArePrimary views → i < length views → ArePrimary ((get_or views i d).mode.clocks)
  at_place [] i d all within = absurd (omega arith)
  at_place (view ∷ views) zero d all within = all.0
  at_place (view ∷ views) (suc i) d all within = at_place views i d all.1 (omega arith)

pub waves_of_mode : (views : List View) (i : ℕ) (view : View) → HaveWaves views → i < length views → view ≡ get_or views i view → length view.waves ≡ length view.mode.clocks
waves_of_mode views i view all within is = subst (λ (v : View). length v.waves ≡ length v.mode.clocks) (sym is) (at_place views i view all within) where
  at_place : (views : List View) (i : ℕ) (d : View) → HaveWaves views → i < length views → length ((get_or views i d).waves) ≡ length ((get_or views i d).mode.clocks)
  at_place [] i d all within = absurd (omega arith)
  at_place (view ∷ views) zero d all within = all.0
  at_place (view ∷ views) (suc i) d all within = at_place views i d all.1 (omega arith)

-- clocks of the first modes, and those of the modes that are left
pub record ClocksSoFar (views : List View) (i : ℕ) (standings : List Standing) (identities : List Identity) : Type 0 where
  pub standing : standings ++ standings_of (drop i views) [] ≡ standings_of views []
  pub identity : identities ++ identities_of (drop i views) [] ≡ identities_of views []

-- one part more, from the front of what is left
part_more : {X : Type 0} (done done' part rest left all : List X) → left ≡ part ++ rest → done' ≡ done ++ part → done ++ left ≡ all → done' ++ rest ≡ all
part_more done done' part rest left all left_is done_is known =
    ap (λ front. front ++ rest) done_is ∙ append_assoc done part rest ∙ ap (λ tail. done ++ tail) (sym left_is) ∙ known

pub clocks_step : (views : List View) (i : ℕ) (view : View) (standings standings' : List Standing) (identities identities' : List Identity)
    → i < length views → view ≡ get_or views i view
    → standings' ≡ standings ++ mode_standings [] view → identities' ≡ identities ++ identities_among (mode_standings [] view)
    → ClocksSoFar views i standings identities → ClocksSoFar views (i + 1) standings' identities'
clocks_step views i view standings standings' identities identities' within is standings_is identities_is known =
    let left : drop i views ≡ view ∷ drop (i + 1) views = drop_more views i view within ∙ ap (λ first. first ∷ drop (i + 1) views) (sym is) in
    record {
      standing = part_more standings standings' (mode_standings [] view) _ (standings_of (drop i views) []) _
          (ap (λ vs. standings_of vs []) left) standings_is known.standing;
      identity = part_more identities identities' (identities_among (mode_standings [] view)) _ (identities_of (drop i views) []) _
          (ap (λ vs. identities_of vs []) left) identities_is known.identity;
    }
