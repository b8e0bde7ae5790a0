-- Key lines by example. Two modes with setup multicycles of 2 and of 3 from a register to another, on a clock of 10 ns,
-- require 20 and 10 ns, and 30 and 20 ns; the merged mode has one line a key, for 20 ns. An input port with delays of 2
-- ns in one mode and of 5 ns in another has a line whose value makes the limit of 8 ns again.
use Rattle.std.proofs.Common.{◌≡◌, refl, sym, inl, inr, arith}
use Rattle.std.specs.Prelude.{◌⊎◌, ℤ, pos, false, [], ◌∷◌, Some, None}
use Rattle.std.proofs.lemmas.Int.{ints}
use Rattle.timing_types.specs.declared.constraints.ExCommand.TheVariants.{Delay, Multicycle}
use Rattle.timing_types.specs.declared.constraints.IoDelay.{IoDelay}
use Rattle.timing_types.specs.declared.constraints.Points.TheVariants as points
use Rattle.timing_types.specs.declared.designs.Design.{Design}
use Rattle.timing_types.specs.declared.designs.PinInfo.{PinInfo}
use Rattle.timing_types.specs.declared.designs.Role.{Role}
use Rattle.timing_types.specs.declared.designs.Role.TheVariants.{InPort, OutPort, CellIn, CellOut}
use Rattle.timing_types.specs.declared.designs.Source.TheVariants.{Nothing}
use Rattle.timing_types.specs.declared.modes.Mode.{Mode}
use Rattle.pin_types.specs.declared.pins.Edge.{Edge}
use Rattle.pin_types.specs.declared.pins.Edge.TheVariants.{Rise, Fall}
use Rattle.pin_types.specs.declared.pins.Side.{Side}
use Rattle.pin_types.specs.declared.pins.Side.TheVariants.{Setup, Hold}
use Rattle.merge_model.specs.KeyLines.{ends_of_key, key_line, relation_for}
use Rattle.timing_model.specs.Keys.{Key, KeyBefore}
use Rattle.timing_model.specs.Limit.{adjustment}
use Rattle.pin_types.specs.Nodes.{clock_edge, node_at}
use Rattle.timing_model.specs.Strictest.{IsStrictest}
use Rattle.timing_model.specs.Winner.{IsAsStrict}
use Rattle.timing_laws.proofs.LimitExamples.{clock_with, exception, limit, mode_of}

-- ---- what each mode requires

three_setup : limit (clock_with 0 0 0 0) Setup None (Some (exception Multicycle Setup (pos 3) false)) ≡ Some (pos 30000000)
three_setup = refl

three_hold : limit (clock_with 0 0 0 0) Hold (Some (exception Multicycle Setup (pos 3) false)) None ≡ Some (pos 20000000)
three_hold = refl

-- what is asked of both: for setup the least of 20 and 30 ns, for hold the greatest of 10 and 20 ns
abbrev OneOf : ℤ → ℤ → ℤ → Type 0
OneOf one other time = (time ≡ one) ⊎ (time ≡ other)

least_setup : (other : ℤ) → OneOf (pos 20000000) (pos 30000000) other → IsAsStrict Setup (pos 20000000) other
least_setup other (inl same) = inr (sym same)
least_setup other (inr same) = inl (omega (arith, ints))

greatest_hold : (other : ℤ) → OneOf (pos 10000000) (pos 20000000) other → IsAsStrict Hold (pos 20000000) other
greatest_hold other (inl same) = inl (omega (arith, ints))
greatest_hold other (inr same) = inr (sym same)

strictest_setup : IsStrictest Setup (OneOf (pos 20000000) (pos 30000000)) (Some (pos 20000000))
strictest_setup = (inl refl, least_setup)

strictest_hold : IsStrictest Hold (OneOf (pos 10000000) (pos 20000000)) (Some (pos 20000000))
strictest_hold = (inr refl, greatest_hold)

-- ---- the lines

abbrev pin : Role → PinInfo
pin role = record { name = []; role = role; cell = None; lib_pin = 0; driver = Nothing }

-- two input ports, an output port, and pins of cells
abbrev design : Design
design = record {
  top = [];
  unit = pos 1000000;
  pins = pin InPort ∷ pin InPort ∷ pin OutPort ∷ pin CellIn ∷ pin CellIn ∷ pin CellOut ∷ pin CellIn ∷ [];
  cells = [];
  nets = [];
  kinds = [];
}

-- from pin 4, a register's, to a node of pin 6
abbrev key : Edge → Side → Key
key edge side = record {
  start = node_at 4 Rise;
  last = node_at 6 edge;
  launch = clock_edge 0 Rise;
  capture = clock_edge 0 Rise;
  side = side;
}

-- its line is a delay of 20 ns through the register's pin, whichever its transition, and through the last node
line_of_key : key_line design (key Fall Setup) (relation_for
    (adjustment (mode_of (clock_with 0 0 0 0)) (clock_with 0 0 0 0) (clock_with 0 0 0 0) (ends_of_key (key Fall Setup)) Setup)
    (Some (pos 20000000))) ≡ record {
      line = 0;
      command = Delay;
      side = Setup;
      value = pos 20000000;
      by_launch = false;
      last = None;
      from = Some (points.Clocks (Some Rise) (0 ∷ []));
      through = record { edge = None; pins = record { 0 = 4 } ∷ [] } ∷ record { edge = Some Fall; pins = record { 0 = 6 } ∷ [] } ∷ [];
      to = Some (points.Clocks (Some Rise) (0 ∷ []));
    }
line_of_key = refl

-- setup before hold, and all of the rising node before the falling one
setup_first : KeyBefore (key Rise Setup) (key Rise Hold)
setup_first = refl

rise_first : KeyBefore (key Rise Hold) (key Fall Setup)
rise_first = refl

-- ---- a port's delays

-- the merged delays of pin 1: 5 ns at most, 2 ns at least
abbrev delay : IoDelay
delay = record {
  port = record { 0 = 1 };
  clock = clock_edge 0 Rise;
  max_rise = Some (pos 5000000);
  max_fall = Some (pos 5000000);
  min_rise = Some (pos 2000000);
  min_fall = Some (pos 2000000);
}

abbrev with_delay : Mode
with_delay = record (mode_of (clock_with 0 0 0 0)) { delays = delay ∷ [] }

abbrev port_key : Key
port_key = record (key Rise Setup) { start = node_at 1 Rise }

port_line : relation_for (adjustment with_delay (clock_with 0 0 0 0) (clock_with 0 0 0 0) (ends_of_key port_key) Setup)
    (Some (pos 8000000)) ≡ Some (pos 13000000)
port_line = refl
