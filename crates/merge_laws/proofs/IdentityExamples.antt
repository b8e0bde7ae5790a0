-- Clock identity by example: two modes have two clocks of one definition each, and their names cross. By name in byte
-- order `a` stands ahead of `b`, and `Z` ahead of `y`; so `a` is one clock with `Z`, and `b` with `y`, wherever they
-- stand.
use Rattle.std.proofs.Common.{◌≡◌, refl}
use Rattle.std.specs.Prelude.{ℕ, pos, false, List, [], ◌∷◌, map, slice_get}
use Rattle.timing_types.specs.declared.clocks.Clock.{Clock}
use Rattle.timing_types.specs.declared.clocks.Early.{Early}
use Rattle.timing_types.specs.declared.clocks.Form.TheVariants.{Primary}
use Rattle.timing_types.specs.declared.identities.Identity.{Identity}
use Rattle.timing_types.specs.declared.views.View.{View}
use Rattle.merge_model.specs.ClockIdentity.{identities_of}
use Rattle.merge_model.specs.PlainViews.{view_of}

abbrev none : Early
none = record { rise = pos 0; fall = pos 0 }

-- a clock of period 10 ns at pin 0, of a name of one byte
abbrev clock : ℕ → Clock
clock byte = record {
  line = 1;
  name = byte ∷ [];
  sources = record { 0 = 0 } ∷ [];
  form = Primary (record { period = pos 10000000; rise = pos 0; fall = pos 5000000 });
  latency = record { source_early = none; source_late = none; network_early = none; network_late = none };
  setup_uncertainty = pos 0;
  hold_uncertainty = pos 0;
  propagated = false;
}

abbrev two_clocks : ℕ → ℕ → View
two_clocks byte other = view_of (record {
  clocks = clock byte ∷ clock other ∷ [];
  exclusive = [];
  cases = [];
  disabled = [];
  delays = [];
  exceptions = [];
  kept = [];
  notes = [];
})

-- b, then a; Z, then y
abbrev identities : List Identity
identities = identities_of (two_clocks 98 97 ∷ two_clocks 90 121 ∷ []) []

ranks : map (λ (identity : Identity). identity.rank) identities ≡ 1 ∷ 0 ∷ 0 ∷ 1 ∷ []
ranks = refl

a_is_one_with_Z : slice_get identities 1 ≡ slice_get identities 2
a_is_one_with_Z = refl

b_is_one_with_y : slice_get identities 0 ≡ slice_get identities 3
b_is_one_with_y = refl
