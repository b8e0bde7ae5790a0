-- Limits by example, on a clock of period 10 ns from a register to another: what the exceptions make of the relation of
-- its rising edge to itself, 10 ns for setup and 0 for hold, and what latencies and uncertainties add.
use Rattle.std.proofs.Common.{◌≡◌, refl}
use Rattle.std.specs.Prelude.{ℕ, ℤ, pos, ◌+ℤ◌, Bool, false, [], ◌∷◌, Option, Some, None}
use Rattle.std.specs.Option.{option_map}
use Rattle.timing_types.specs.declared.clocks.Clock.{Clock}
use Rattle.timing_types.specs.declared.clocks.Early.{Early}
use Rattle.timing_types.specs.declared.clocks.Form.TheVariants.{Primary}
use Rattle.timing_types.specs.declared.constraints.ExCommand.{ExCommand}
use Rattle.timing_types.specs.declared.constraints.ExCommand.TheVariants.{Delay, Multicycle}
use Rattle.timing_types.specs.declared.constraints.Exception.{Exception}
use Rattle.timing_types.specs.declared.edge_times.Relation.{Relation}
use Rattle.timing_types.specs.declared.modes.Mode.{Mode}
use Rattle.timing_types.specs.declared.paths.Periods.{Periods}
use Rattle.pin_types.specs.declared.pins.Edge.TheVariants.{Rise}
use Rattle.pin_types.specs.declared.pins.Side.{Side}
use Rattle.pin_types.specs.declared.pins.Side.TheVariants.{Setup, Hold}
use Rattle.timing_model.specs.Limit.{adjustment, base_relation, changed_relation, setup_move}
use Rattle.pin_types.specs.Nodes.{clock_edge, node_at}
use Rattle.timing_model.specs.TimingPath.{Ends}

abbrev pub both : ℕ → Early
both time = record { rise = pos time; fall = pos time }

-- a clock with these network latencies and uncertainties
abbrev pub clock_with : ℕ → ℕ → ℕ → ℕ → Clock
clock_with early late setup hold = record {
  line = 1;
  name = 99 ∷ [];
  sources = record { 0 = 0 } ∷ [];
  form = Primary (record { period = pos 10000000; rise = pos 0; fall = pos 5000000 });
  latency = record { source_early = both 0; source_late = both 0; network_early = both early; network_late = both late };
  setup_uncertainty = pos setup;
  hold_uncertainty = pos hold;
  propagated = false;
}

abbrev pub mode_of : Clock → Mode
mode_of clock = record {
  clocks = clock ∷ [];
  exclusive = [];
  cases = [];
  disabled = [];
  delays = [];
  exceptions = [];
  kept = [];
  notes = [];
}

-- from pin 4 to pin 6, under the rising edge of the clock
abbrev pub ends : Ends
ends = record { start = node_at 4 Rise; last = node_at 6 Rise; launch = clock_edge 0 Rise; capture = clock_edge 0 Rise }

abbrev pub periods : Periods
periods = record { launch = pos 10000000; capture = pos 10000000 }

abbrev pub related : Relation
related = record { setup = pos 10000000; hold = pos 0 }

abbrev pub exception : ExCommand → Side → ℤ → Bool → Exception
exception command side value by_launch = record {
  line = 2;
  command = command;
  side = side;
  value = value;
  by_launch = by_launch;
  last = None;
  from = None;
  through = [];
  to = None;
}

-- the limit on a side under a clock, by the best setup multicycle and the winner
abbrev pub limit : Clock → Side → Option Exception → Option Exception → Option ℤ
limit clock side best winner =
    option_map (λ changed. changed +ℤ adjustment (mode_of clock) clock clock ends side)
    (changed_relation periods side (base_relation side related (setup_move periods best)) winner)

-- a delay that wins on hold stands as it is, whatever multicycle is best for setup
pub delay_hold : limit (clock_with 0 0 0 0) Hold (Some (exception Multicycle Setup (pos 2) false))
    (Some (exception Delay Hold (pos 3000000) false)) ≡ Some (pos 3000000)
delay_hold = refl
