-- What a `timing` group of a library pin says (Liberty: `timing_type`, `timing_sense`): an arc or a check between the
-- pin and a related pin. The types and senses are Liberty's; which types are passed over is this project's own.
-- It reads: the table of types; senses; the arc or check of one pair of pins, given by their places in the cell.
use Rattle.std.specs.Prelude.{◌&&◌, ℕ, Bool, true, false, not, List, [], ◌∷◌, codes, Option, Some, None}
use Rattle.std.specs.List.{find}
use Rattle.pin_types.specs.declared.library_cells.LibArc.{LibArc}
use Rattle.pin_types.specs.declared.library_cells.LibCheck.{LibCheck}
use Rattle.pin_types.specs.declared.pins.Edge.{Edge}
use Rattle.pin_types.specs.declared.pins.Edge.TheVariants.{Rise, Fall}
use Rattle.pin_types.specs.declared.pins.Side.{Side}
use Rattle.pin_types.specs.declared.pins.Side.TheVariants.{Setup, Hold}
use Rattle.text_model.specs.Words.{same_text}

-- ---- types of timing

-- what a `timing` group gives: cell arcs by sense, to a rise of the output or not and to a fall or not; a launch arc
-- from an edge of the clock; a check at an edge of the clock; or nothing
pub data Timing : Type 0 where
  cell_arc : (to_rise to_fall : Bool) → Timing
  launch : Edge → Timing
  check : Side → Edge → Timing
  passed_over : Timing

-- a row of the table
pub record TypeRow : Type 0 where
  pub name : List ℕ
  pub timing : Timing

abbrev pub row : List ℕ → Timing → TypeRow
row name timing = record { name = name; timing = timing }

abbrev pub types : List TypeRow
types =
    row (codes "combinational") (cell_arc true true)
    ∷ row (codes "three_state_enable") (cell_arc true true)
    ∷ row (codes "three_state_disable") (cell_arc true true)
    ∷ row (codes "combinational_rise") (cell_arc true false)
    ∷ row (codes "combinational_fall") (cell_arc false true)
    ∷ row (codes "rising_edge") (launch Rise)
    ∷ row (codes "falling_edge") (launch Fall)
    ∷ row (codes "setup_rising") (check Setup Rise)
    ∷ row (codes "setup_falling") (check Setup Fall)
    ∷ row (codes "recovery_rising") (check Setup Rise)
    ∷ row (codes "recovery_falling") (check Setup Fall)
    ∷ row (codes "hold_rising") (check Hold Rise)
    ∷ row (codes "hold_falling") (check Hold Fall)
    ∷ row (codes "removal_rising") (check Hold Rise)
    ∷ row (codes "removal_falling") (check Hold Fall)
    ∷ []

abbrev pub timing_of_row : Option TypeRow → Timing
timing_of_row None = passed_over
timing_of_row (Some found) = found.timing

-- the timing of a type by its name; without a type it is combinational
abbrev pub timing_named : Option (List ℕ) → Timing
timing_named None = cell_arc true true
timing_named (Some text) = timing_of_row (find (λ (r : TypeRow). same_text text r.name) types)

-- ---- senses

-- a sense joins equal transitions, or opposite ones; any other word than the two, and none, joins all
abbrev pub joins_equal : Option (List ℕ) → Bool
joins_equal None = true
joins_equal (Some text) = not (same_text text (codes "negative_unate"))

abbrev pub joins_opposite : Option (List ℕ) → Bool
joins_opposite None = true
joins_opposite (Some text) = not (same_text text (codes "positive_unate"))

-- ---- a `timing` group of a pin, for one related pin

abbrev pub cell_arc_of : ℕ → ℕ → Bool → Bool → Option (List ℕ) → LibArc
cell_arc_of from to to_rise to_fall sense = record {
  from = from;
  to = to;
  rise_rise = joins_equal sense && to_rise;
  rise_fall = joins_opposite sense && to_fall;
  fall_rise = joins_opposite sense && to_rise;
  fall_fall = joins_equal sense && to_fall;
  launch = false;
}

-- a launch arc goes from an edge of the clock to both edges of the output
abbrev pub launch_arc_of : ℕ → ℕ → Edge → LibArc
launch_arc_of from to Rise = record { from = from; to = to; rise_rise = true; rise_fall = true; fall_rise = false; fall_fall = false; launch = true }
launch_arc_of from to Fall = record { from = from; to = to; rise_rise = false; rise_fall = false; fall_rise = true; fall_fall = true; launch = true }

abbrev pub arc_of : ℕ → ℕ → Timing → Option (List ℕ) → Option LibArc
arc_of from to (cell_arc to_rise to_fall) sense = Some (cell_arc_of from to to_rise to_fall sense)
arc_of from to (launch edge) sense = Some (launch_arc_of from to edge)
arc_of from to (check side edge) sense = None
arc_of from to passed_over sense = None

abbrev pub check_of : ℕ → ℕ → Timing → Option LibCheck
check_of clock pin (check side edge) = Some (record { pin = pin; clock = clock; clock_edge = edge; side = side })
check_of clock pin (cell_arc to_rise to_fall) = None
check_of clock pin (launch edge) = None
check_of clock pin passed_over = None
