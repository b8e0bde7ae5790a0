-- Limits by example, whole: on a path from pin 4 to pin 6 under a clock of period 10 ns, by the relation of the rising
-- edge to itself, the exceptions of a mode, and which of them wins on each side.
use Rattle.std.proofs.Common.{◌≡◌, ◌≢◌, ◌∙◌, ℕ, zero, suc, ◌<◌, List, [], ◌∷◌, Option, Some, None, refl, ap, inl, arith}
use Rattle.std.specs.Prelude.{ℤ, pos, Bool, true, false, slice_get}
use Rattle.std.specs.Option.{option_map}
use Rattle.std.proofs.lemmas.Int.{ints}
use Rattle.std.proofs.lemmas.Option.{none-some, same_Some}
use Rattle.timing_types.specs.declared.clocks.Clock.{Clock}
use Rattle.timing_types.specs.declared.clocks.Wave.{Wave}
use Rattle.timing_types.specs.declared.constraints.ExCommand.{ExCommand}
use Rattle.timing_types.specs.declared.constraints.ExCommand.TheVariants.{Delay, Multicycle}
use Rattle.timing_types.specs.declared.constraints.Exception.{Exception}
use Rattle.timing_types.specs.declared.constraints.Points.{Points}
use Rattle.pin_types.specs.declared.pins.Side.{Side}
use Rattle.pin_types.specs.declared.pins.Side.TheVariants.{Setup, Hold}
use Rattle.timing_model.specs.Limit.{IsLimit, MulticycleMatch, winning}
use Rattle.timing_model.specs.Matching.{Matches, MatchesAt}
use Rattle.timing_model.specs.Relation.{IsRelation}
use Rattle.timing_model.specs.Winner.{command_rank, WinnerIs}
use Rattle.timing_laws.proofs.LimitExamples.{clock_with, ends, limit, mode_of, periods, related}
use Rattle.timing_laws.proofs.WinnerExamples.{exception, false_path_wins, false_path_wins_hold, hold_not_setup, none_met, of_pin, of_side, path, setup_not_hold, the_only_one, three}

-- the rising edge and itself: 10 ns for setup and 0 for hold
edge_and_itself : IsRelation (pos 0) (pos 10000000) (pos 0) (pos 10000000) related
edge_and_itself = record {
  setup = ((0, 1, refl), omega (arith, ints), λ d gap above. let e = gap.2 in omega (arith, ints));
  hold = ((0, 0, refl), omega (arith, ints), λ d gap below. below);
}

abbrev pub wave : Wave
wave = record { period = pos 10000000; rise = pos 0; fall = pos 5000000 }

abbrev pub plain : Clock
plain = clock_with 0 0 0 0

-- the limit of the path in a mode of a clock and exceptions
abbrev pub LimitIs : Clock → List Exception → Side → Option ℤ → Type 0
LimitIs clock exceptions side =
    IsLimit (record (mode_of clock) { exceptions = exceptions }) (wave ∷ []) ends (MatchesAt exceptions path) side

-- the setup multicycle that is best, or none
abbrev BestIs : List Exception → Option ℕ → Type 0
BestIs exceptions = WinnerIs exceptions (MulticycleMatch exceptions (MatchesAt exceptions path Setup)) Setup periods

limit_by : (clock : Clock) (exceptions : List Exception) (side : Side) (best winner : Option ℕ) → BestIs exceptions best
    → WinnerIs exceptions (MatchesAt exceptions path side) side periods winner
    → LimitIs clock exceptions side (limit clock side (winning exceptions best) (winning exceptions winner))
limit_by clock exceptions side best winner is_best wins = record {
  launch = clock;
  capture = clock;
  launch_wave = wave;
  capture_wave = wave;
  relation = related;
  winner = winner;
  best = best;
  is_launch = refl;
  is_capture = refl;
  has_launch_wave = refl;
  has_capture_wave = refl;
  related = edge_and_itself;
  wins = wins;
  wins_setup = is_best;
  is = refl;
}

-- ---- no exception: without latencies, and with those of 1 ns at least and 3 ns at most, uncertainties of 0.2 ns and 0.1 ns

nothing : (Match : ℕ → Type 0) (side : Side) → WinnerIs [] Match side periods None
nothing Match side place one is match = none-some one is

pub plain_setup : LimitIs plain [] Setup (Some (pos 10000000))
plain_setup = limit_by plain [] Setup None None
    (nothing (MulticycleMatch [] (MatchesAt [] path Setup)) Setup) (nothing (MatchesAt [] path Setup) Setup)

pub plain_hold : LimitIs plain [] Hold (Some (pos 0))
plain_hold = limit_by plain [] Hold None None
    (nothing (MulticycleMatch [] (MatchesAt [] path Setup)) Setup) (nothing (MatchesAt [] path Hold) Hold)

pub late_setup : LimitIs (clock_with 1000000 3000000 200000 100000) [] Setup (Some (pos 7800000))
late_setup = limit_by (clock_with 1000000 3000000 200000 100000) [] Setup None None
    (nothing (MulticycleMatch [] (MatchesAt [] path Setup)) Setup) (nothing (MatchesAt [] path Setup) Setup)

pub late_hold : LimitIs (clock_with 1000000 3000000 200000 100000) [] Hold (Some (pos 2100000))
late_hold = limit_by (clock_with 1000000 3000000 200000 100000) [] Hold None None
    (nothing (MulticycleMatch [] (MatchesAt [] path Setup)) Setup) (nothing (MatchesAt [] path Hold) Hold)

-- ---- a false path before a delay: no limit on either side

-- the rank of the command at a place
rank_at : (exceptions : List Exception) (place : ℕ) → MulticycleMatch exceptions (MatchesAt exceptions path Setup) place
    → option_map (λ (e : Exception). command_rank e.command) (slice_get exceptions place) ≡ Some 0
rank_at exceptions place match =
    ap (option_map (λ (e : Exception). command_rank e.command)) match.1.1 ∙ ap (λ (c : ExCommand). Some (command_rank c)) match.1.2

not_none : (n : ℕ) → suc n ≡ 0 → ⊥
not_none n e = omega arith

no_rank : (at : ℕ) → option_map (λ (e : Exception). command_rank e.command) (slice_get three at) ≡ Some 0 → ⊥
no_rank zero e = not_none 1 (same_Some 2 0 e)
no_rank (suc zero) e = not_none 1 (same_Some 2 0 e)
no_rank (suc (suc zero)) e = not_none 0 (same_Some 1 0 e)
no_rank (suc (suc (suc at))) e = none-some 0 e

no_multicycle : BestIs three None
no_multicycle place one is match = no_rank place (rank_at three place match)

pub false_setup : LimitIs plain three Setup None
false_setup = limit_by plain three Setup None (Some 0) no_multicycle false_path_wins

pub false_hold : LimitIs plain three Hold None
false_hold = limit_by plain three Hold None (Some 1) no_multicycle false_path_wins_hold

-- ---- a setup multicycle alone: it moves the hold relation by as much

abbrev multicycle : Side → ℤ → Bool → Option Points → Exception
multicycle side value by_launch from = exception Multicycle side value by_launch from (of_pin 6)

-- of pin 4, by as many capture periods less one
abbrev from_start : ℤ → List Exception
from_start value = multicycle Setup value false (of_pin 4) ∷ []

start_matches : (value : ℤ) → Matches (multicycle Setup value false (of_pin 4)) Setup path
start_matches value = record {
  ends = ends;
  are_ends = refl;
  fit = record { is_side = refl; from = ((0, omega arith, refl), tt); to = ((0, omega arith, refl), tt); last = tt };
  met = none_met path.nodes;
}

first_alone : (value : ℤ) (at : ℕ) → MatchesAt (from_start value) path Setup at → at ≡ 0
first_alone value zero match = refl
first_alone value (suc at) match = absurd (none-some match.0 match.1)

start_best : (value : ℤ) → BestIs (from_start value) (Some 0)
start_best value = the_only_one (from_start value) (MulticycleMatch (from_start value) (MatchesAt (from_start value) path Setup)) Setup periods 0
    (multicycle Setup value false (of_pin 4)) refl
    ((multicycle Setup value false (of_pin 4), refl, start_matches value), (multicycle Setup value false (of_pin 4), refl, refl))
    (λ at match. first_alone value at match.0)

start_wins : (value : ℤ) → WinnerIs (from_start value) (MatchesAt (from_start value) path Setup) Setup periods (Some 0)
start_wins value = the_only_one (from_start value) (MatchesAt (from_start value) path Setup) Setup periods 0
    (multicycle Setup value false (of_pin 4)) refl (multicycle Setup value false (of_pin 4), refl, start_matches value) (first_alone value)

none_for_hold : (value : ℤ) (at : ℕ) → option_map (λ (e : Exception). e.side) (slice_get (from_start value) at) ≡ Some Hold → ⊥
none_for_hold value zero e = setup_not_hold (same_Some Setup Hold e)
none_for_hold value (suc at) e = none-some Hold e

none_wins : (value : ℤ) → WinnerIs (from_start value) (MatchesAt (from_start value) path Hold) Hold periods None
none_wins value place one is match = none_for_hold value place (of_side (from_start value) Hold place match)

pub two_setup : LimitIs plain (from_start (pos 2)) Setup (Some (pos 20000000))
two_setup = limit_by plain (from_start (pos 2)) Setup (Some 0) (Some 0) (start_best (pos 2)) (start_wins (pos 2))

pub two_hold : LimitIs plain (from_start (pos 2)) Hold (Some (pos 10000000))
two_hold = limit_by plain (from_start (pos 2)) Hold (Some 0) None (start_best (pos 2)) (none_wins (pos 2))

pub three_setup : LimitIs plain (from_start (pos 3)) Setup (Some (pos 30000000))
three_setup = limit_by plain (from_start (pos 3)) Setup (Some 0) (Some 0) (start_best (pos 3)) (start_wins (pos 3))

pub three_hold : LimitIs plain (from_start (pos 3)) Hold (Some (pos 20000000))
three_hold = limit_by plain (from_start (pos 3)) Hold (Some 0) None (start_best (pos 3)) (none_wins (pos 3))

-- ---- multicycles on both sides: a hold multicycle of 1 takes off the launch period by which the setup one moved it

abbrev two_sides : List Exception
two_sides = multicycle Setup (pos 2) false None ∷ multicycle Hold (pos 1) true None ∷ []

end_matches : (side : Side) (value : ℤ) (by_launch : Bool) → Matches (multicycle side value by_launch None) side path
end_matches side value by_launch = record {
  ends = ends;
  are_ends = refl;
  fit = record { is_side = refl; from = tt; to = ((0, omega arith, refl), tt); last = tt };
  met = none_met path.nodes;
}

at_zero : (at : ℕ) → option_map (λ (e : Exception). e.side) (slice_get two_sides at) ≡ Some Setup → at ≡ 0
at_zero zero e = refl
at_zero (suc zero) e = absurd (hold_not_setup (same_Some Hold Setup e))
at_zero (suc (suc at)) e = absurd (none-some Setup e)

at_one : (at : ℕ) → option_map (λ (e : Exception). e.side) (slice_get two_sides at) ≡ Some Hold → at ≡ 1
at_one zero e = absurd (setup_not_hold (same_Some Setup Hold e))
at_one (suc zero) e = refl
at_one (suc (suc at)) e = absurd (none-some Hold e)

setup_matches : MatchesAt two_sides path Setup 0
setup_matches = (multicycle Setup (pos 2) false None, refl, end_matches Setup (pos 2) false)

sides_best : BestIs two_sides (Some 0)
sides_best = the_only_one two_sides (MulticycleMatch two_sides (MatchesAt two_sides path Setup)) Setup periods 0
    (multicycle Setup (pos 2) false None) refl (setup_matches, (multicycle Setup (pos 2) false None, refl, refl))
    (λ at match. at_zero at (of_side two_sides Setup at match.0))

setup_wins : WinnerIs two_sides (MatchesAt two_sides path Setup) Setup periods (Some 0)
setup_wins = the_only_one two_sides (MatchesAt two_sides path Setup) Setup periods 0
    (multicycle Setup (pos 2) false None) refl setup_matches (λ at match. at_zero at (of_side two_sides Setup at match))

hold_wins : WinnerIs two_sides (MatchesAt two_sides path Hold) Hold periods (Some 1)
hold_wins = the_only_one two_sides (MatchesAt two_sides path Hold) Hold periods 1
    (multicycle Hold (pos 1) true None) refl (multicycle Hold (pos 1) true None, refl, end_matches Hold (pos 1) true)
    (λ at match. at_one at (of_side two_sides Hold at match))

pub sides_setup : LimitIs plain two_sides Setup (Some (pos 20000000))
sides_setup = limit_by plain two_sides Setup (Some 0) (Some 0) sides_best setup_wins

pub sides_hold : LimitIs plain two_sides Hold (Some (pos 0))
sides_hold = limit_by plain two_sides Hold (Some 0) (Some 1) sides_best hold_wins

-- ---- a delay that wins on the setup side: the setup multicycle beside it moves the hold relation all the same

abbrev three_ns : Exception
three_ns = exception Delay Setup (pos 3000000) false None (of_pin 6)

abbrev beside : List Exception
beside = multicycle Setup (pos 2) false None ∷ three_ns ∷ []

after_delay : (at : ℕ) (other : Exception) → slice_get beside at ≡ Some other → at ≢ 1 → command_rank other.command < command_rank Delay
after_delay zero other e apart =
    let rank : 0 ≡ command_rank other.command
    = ap (λ (x : Exception). command_rank x.command) (same_Some (multicycle Setup (pos 2) false None) other e) in
    omega arith
after_delay (suc zero) other e apart = absurd (apart refl)
after_delay (suc (suc at)) other e apart = absurd (none-some other e)

three_ns_matches : Matches three_ns Setup path
three_ns_matches = record {
  ends = ends;
  are_ends = refl;
  fit = record { is_side = refl; from = tt; to = ((0, omega arith, refl), tt); last = tt };
  met = none_met path.nodes;
}

three_ns_wins : WinnerIs beside (MatchesAt beside path Setup) Setup periods (Some 1)
three_ns_wins = record {
  exception = three_ns;
  is = refl;
  matches = (three_ns, refl, three_ns_matches);
  best = λ at other e match apart. inl (after_delay at other e apart);
}

the_multicycle : (at : ℕ) → option_map (λ (e : Exception). command_rank e.command) (slice_get beside at) ≡ Some 0 → at ≡ 0
the_multicycle zero e = refl
the_multicycle (suc zero) e = absurd (not_none 0 (same_Some 1 0 e))
the_multicycle (suc (suc at)) e = absurd (none-some 0 e)

best_beside : BestIs beside (Some 0)
best_beside = the_only_one beside (MulticycleMatch beside (MatchesAt beside path Setup)) Setup periods 0
    (multicycle Setup (pos 2) false None) refl
    ((multicycle Setup (pos 2) false None, refl, end_matches Setup (pos 2) false), (multicycle Setup (pos 2) false None, refl, refl))
    (λ at match. the_multicycle at (rank_at beside at match))

setup_alone : (at : ℕ) → option_map (λ (e : Exception). e.side) (slice_get beside at) ≡ Some Hold → ⊥
setup_alone zero e = setup_not_hold (same_Some Setup Hold e)
setup_alone (suc zero) e = setup_not_hold (same_Some Setup Hold e)
setup_alone (suc (suc at)) e = none-some Hold e

no_hold_winner : WinnerIs beside (MatchesAt beside path Hold) Hold periods None
no_hold_winner place one is match = setup_alone place (of_side beside Hold place match)

pub delay_setup : LimitIs plain beside Setup (Some (pos 3000000))
delay_setup = limit_by plain beside Setup (Some 0) (Some 1) best_beside three_ns_wins

pub moved_hold : LimitIs plain beside Hold (Some (pos 10000000))
moved_hold = limit_by plain beside Hold (Some 0) None best_beside no_hold_winner
