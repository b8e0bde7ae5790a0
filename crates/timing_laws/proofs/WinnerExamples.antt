-- Which exception wins, by example: a false path from a clock, which has both sides, against a delay of 3 ns between
-- two pins, on a path from pin 4 over pin 5 to pin 6. On the setup side both match, and the false path wins though less
-- is said of its ends.
use Rattle.std.proofs.Common.{◌≡◌, ◌≢◌, ◌∙◌, ℕ, zero, suc, ◌<◌, List, [], ◌∷◌, Option, Some, None, refl, sym, ap, inl, arith}
use Rattle.std.specs.Prelude.{ℤ, pos, Bool, true, false, slice_get}
use Rattle.std.specs.Option.{option_map}
use Rattle.std.proofs.lemmas.Bool.{false≢true}
use Rattle.std.proofs.lemmas.Option.{none-some, same_Some}
use Rattle.timing_types.specs.declared.constraints.ExCommand.{ExCommand}
use Rattle.timing_types.specs.declared.constraints.ExCommand.TheVariants.{FalsePath, Delay}
use Rattle.timing_types.specs.declared.constraints.Exception.{Exception}
use Rattle.timing_types.specs.declared.constraints.Points.{Points}
use Rattle.timing_types.specs.declared.constraints.Points.TheVariants as points
use Rattle.timing_types.specs.declared.paths.Path.{Path}
use Rattle.timing_types.specs.declared.paths.Periods.{Periods}
use Rattle.pin_types.specs.declared.pins.Edge.TheVariants.{Rise}
use Rattle.pin_types.specs.declared.pins.Node.{Node}
use Rattle.pin_types.specs.declared.pins.Side.{Side}
use Rattle.pin_types.specs.declared.pins.Side.TheVariants.{Setup, Hold}
use Rattle.timing_model.specs.Matching.{AreMet, Matches, MatchesAt}
use Rattle.pin_types.specs.Nodes.{clock_edge, node_at}
use Rattle.timing_model.specs.Winner.{command_rank, IsWinner}
use Rattle.timing_laws.proofs.LimitExamples.{ends, periods}

-- ---- a path, and what matches it

abbrev pub path : Path
path = record {
  nodes = node_at 6 Rise ∷ node_at 5 Rise ∷ node_at 4 Rise ∷ [];
  launch = clock_edge 0 Rise;
  capture = clock_edge 0 Rise;
}

-- an exception without through lists
abbrev pub exception : ExCommand → Side → ℤ → Bool → Option Points → Option Points → Exception
exception command side value by_launch from to = record {
  line = 2;
  command = command;
  side = side;
  value = value;
  by_launch = by_launch;
  last = None;
  from = from;
  through = [];
  to = to;
}

abbrev pub of_pin : ℕ → Option Points
of_pin pin = Some (points.Pins None (record { 0 = pin } ∷ []))

abbrev pub of_clock : ℕ → Option Points
of_clock clock = Some (points.Clocks None (clock ∷ []))

-- no through list is met at no place
pub none_met : (nodes : List Node) → AreMet [] nodes
none_met nodes = record { places = []; rising = λ i j p q less first second. absurd (none-some p first); each = tt }

-- what matches at a place is of the side
pub of_side : (exceptions : List Exception) (side : Side) (place : ℕ) → MatchesAt exceptions path side place
    → option_map (λ (e : Exception). e.side) (slice_get exceptions place) ≡ Some side
of_side exceptions side place match =
    ap (option_map (λ (e : Exception). e.side)) match.1 ∙ ap Some match.2.fit.is_side

is_setup : Side → Bool
is_setup Setup = true
is_setup Hold = false

pub hold_not_setup : Hold ≡ Setup → ⊥
unfolding is_setup
hold_not_setup e = false≢true (ap is_setup e)

pub setup_not_hold : Setup ≡ Hold → ⊥
setup_not_hold e = hold_not_setup (sym e)

-- the one exception that matches wins
pub the_only_one : (exceptions : List Exception) (Match : ℕ → Type 0) (side : Side) (times : Periods) (place : ℕ) (one : Exception)
    → slice_get exceptions place ≡ Some one → Match place → ((at : ℕ) → Match at → at ≡ place) → IsWinner exceptions Match side times place
the_only_one exceptions Match side times place one is matches alone = record {
  exception = one;
  is = is;
  matches = matches;
  best = λ at other e match apart. absurd (apart (alone at match));
}

-- ---- the false path and the delay

abbrev pub false_path : Side → Exception
false_path side = exception FalsePath side (pos 0) false (of_clock 0) None

abbrev pub delay : Exception
delay = exception Delay Setup (pos 3000000) false (of_pin 4) (of_pin 6)

abbrev pub three : List Exception
three = false_path Setup ∷ false_path Hold ∷ delay ∷ []

false_path_matches : (side : Side) → Matches (false_path side) side path
false_path_matches side = record {
  ends = ends;
  are_ends = refl;
  fit = record { is_side = refl; from = ((0, omega arith, refl), tt); to = tt; last = tt };
  met = none_met path.nodes;
}

delay_matches : Matches delay Setup path
delay_matches = record {
  ends = ends;
  are_ends = refl;
  fit = record { is_side = refl; from = ((0, omega arith, refl), tt); to = ((0, omega arith, refl), tt); last = tt };
  met = none_met path.nodes;
}

pub delay_too : MatchesAt three path Setup 2
delay_too = (delay, refl, delay_matches)

-- what matches beside the false path of the setup side is the delay, whose command stands after
stands_after : (at : ℕ) (other : Exception) → slice_get three at ≡ Some other → other.side ≡ Setup → at ≢ 0
    → command_rank other.command < command_rank FalsePath
stands_after zero other e side apart = absurd (apart refl)
stands_after (suc zero) other e side apart =
    absurd (hold_not_setup (ap (λ (x : Exception). x.side) (same_Some (false_path Hold) other e) ∙ side))
stands_after (suc (suc zero)) other e side apart =
    let rank : 1 ≡ command_rank other.command = ap (λ (x : Exception). command_rank x.command) (same_Some delay other e) in omega arith
stands_after (suc (suc (suc at))) other e side apart = absurd (none-some other e)

pub false_path_wins : IsWinner three (MatchesAt three path Setup) Setup periods 0
false_path_wins = record {
  exception = false_path Setup;
  is = refl;
  matches = (false_path Setup, refl, false_path_matches Setup);
  best = λ at other e match apart.
      inl (stands_after at other e (ap (λ (x : Exception). x.side) (same_Some other match.0 (sym e ∙ match.1)) ∙ match.2.fit.is_side) apart);
}

-- on the hold side nothing else matches
at_one : (at : ℕ) → option_map (λ (e : Exception). e.side) (slice_get three at) ≡ Some Hold → at ≡ 1
at_one zero e = absurd (setup_not_hold (same_Some Setup Hold e))
at_one (suc zero) e = refl
at_one (suc (suc zero)) e = absurd (setup_not_hold (same_Some Setup Hold e))
at_one (suc (suc (suc at))) e = absurd (none-some Hold e)

pub false_path_wins_hold : IsWinner three (MatchesAt three path Hold) Hold periods 1
false_path_wins_hold = the_only_one three (MatchesAt three path Hold) Hold periods 1 (false_path Hold) refl
    (false_path Hold, refl, false_path_matches Hold) (λ at match. at_one at (of_side three Hold at match))
