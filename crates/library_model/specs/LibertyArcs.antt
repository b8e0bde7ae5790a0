-- The arcs and checks of a library cell (Liberty: `timing`, `related_pin`), and the cell. What is united, which pins
-- have no arcs and which cells are refused is this project's own. A cell is a group of the text with what stands in it.
-- It reads: the related pins of each pin, in the order of the pins and of the text; arcs; checks; the cell.
use Rattle.std.specs.Prelude.{◌+◌, ◌==◌, ◌||◌, ◌&&◌, ℕ, Bool, true, false, not, List, [], ◌∷◌, ◌++◌, filter, length, map, codes, get_or, nat_lt, if◌then◌else◌, Option, Some, None}
use Rattle.std.specs.List.{filter_map, flat_map, fold, list_any}
use Rattle.pin_types.specs.declared.library_cells.Direction.{Direction}
use Rattle.pin_types.specs.declared.library_cells.Direction.TheVariants as direction
use Rattle.pin_types.specs.declared.library_cells.LibArc.{LibArc}
use Rattle.pin_types.specs.declared.library_cells.LibCell.{LibCell}
use Rattle.pin_types.specs.declared.library_cells.LibCheck.{LibCheck}
use Rattle.function_model.specs.FunctionText.{place_in}
use Rattle.pin_types.specs.Nodes.{side_number}
use Rattle.library_model.specs.LibertyCells.{NamedPin, direction_of, has_wide_function, is_left_out, lib_pin, name_of, pin_names, pins, words_of}
use Rattle.library_model.specs.LibertyStatements.{Member, groups, last_value, members}
use Rattle.library_model.specs.LibertyTiming.{Timing, arc_of, check_of, timing_named}
use Rattle.pin_types.specs.Nodes.{edge_number}

-- ---- related pins

-- a related pin of a pin: their places, and the type and sense that the `timing` group says
pub record Related : Type 0 where
  pub from : ℕ
  pub to : ℕ
  pub timing : Timing
  pub sense : Option (List ℕ)

abbrev pub words_if : Option (List ℕ) → List (List ℕ)
words_if None = []
words_if (Some text) = words_of text

-- the places of names that are pins; a name means the first pin that has it
abbrev pub places_of : List (List ℕ) → List (List ℕ) → List ℕ
places_of names [] = []
places_of names (word ∷ words) =
    if nat_lt (place_in names word) (length names) then place_in names word ∷ places_of names words else places_of names words

abbrev pub related_pin : List Member → ℕ → ℕ → Related
related_pin said to from = record {
  from = from;
  to = to;
  timing = timing_named (last_value (codes "timing_type") said);
  sense = last_value (codes "timing_sense") said;
}

-- the related pins of a `timing` group, the pin that it belongs to standing at a place
abbrev pub related_in : List (List ℕ) → ℕ → Member → List Related
related_in names to timing =
    map (related_pin (members 4 timing.inside) to)
    (places_of names (words_if (last_value (codes "related_pin") (members 4 timing.inside))))

-- the related pins of pins, the first of which stands at a place, in the order of the pins and of the text
abbrev pub related_from : List (List ℕ) → ℕ → List NamedPin → List Related
related_from names place [] = []
related_from names place (pin ∷ ps) =
    flat_map (related_in names place) (groups (codes "timing") (members 3 pin.group.inside)) ++ related_from names (place + 1) ps

abbrev pub related_pins : Member → List Related
related_pins cell = related_from (pin_names cell) 0 (pins cell)

-- a pin has arcs: an input or an output
abbrev pub has_arcs : Direction → Bool
has_arcs direction.Input = true
has_arcs direction.Output = true
has_arcs direction.Other = false

abbrev pub is_output : Direction → Bool
is_output direction.Input = false
is_output direction.Output = true
is_output direction.Other = false

-- the direction of the pin at a place
abbrev pub direction_at : List NamedPin → ℕ → Direction
direction_at ps place = get_or (map direction_of ps) place direction.Other

-- ---- arcs

-- the arc that a related pin gives, if it gives one: none where one of both pins has no arcs
abbrev pub arc_if : List NamedPin → Related → Option LibArc
arc_if ps related =
    if has_arcs (direction_at ps related.from) && has_arcs (direction_at ps related.to)
    then arc_of related.from related.to related.timing related.sense else None

abbrev pub same_flag : Bool → Bool → Bool
same_flag true flag = flag
same_flag false flag = not flag

-- two arcs are between the same pins, and both launch or neither does
abbrev pub is_same_pair : LibArc → LibArc → Bool
is_same_pair arc other = arc.from == other.from && arc.to == other.to && same_flag arc.launch other.launch

abbrev pub both : LibArc → LibArc → LibArc
both arc other = record {
  from = arc.from;
  to = arc.to;
  rise_rise = arc.rise_rise || other.rise_rise;
  rise_fall = arc.rise_fall || other.rise_fall;
  fall_rise = arc.fall_rise || other.fall_rise;
  fall_fall = arc.fall_fall || other.fall_fall;
  launch = arc.launch;
}

-- arcs and one more, united with the one between the same pins, where there is one; launch arcs stay apart from others
abbrev pub with_arc : List LibArc → LibArc → List LibArc
with_arc [] arc = arc ∷ []
with_arc (other ∷ arcs) arc = if is_same_pair other arc then both other arc ∷ arcs else other ∷ with_arc arcs arc

abbrev pub arcs_of : Member → List LibArc
arcs_of cell = fold with_arc [] (filter_map (arc_if (pins cell)) (related_pins cell))

-- an output that is launched from two pins: two launch arcs end at it
abbrev pub is_launched_twice : List LibArc → ℕ → Bool
is_launched_twice arcs pin = nat_lt 1 (length (filter (λ (arc : LibArc). arc.launch && arc.to == pin) arcs))

abbrev pub has_two_launches : Member → Bool
has_two_launches cell =
    list_any (λ (arc : LibArc). is_output (direction_at (pins cell) arc.to) && is_launched_twice (arcs_of cell) arc.to) (arcs_of cell)

-- ---- checks

abbrev pub check_if : Related → Option LibCheck
check_if related = check_of related.from related.to related.timing

abbrev pub is_same_check : LibCheck → LibCheck → Bool
is_same_check check other =
    check.pin == other.pin && check.clock == other.clock
    && edge_number check.clock_edge == edge_number other.clock_edge && side_number check.side == side_number other.side

-- checks and one more, each once
abbrev pub with_check : List LibCheck → LibCheck → List LibCheck
with_check checks check = if list_any (λ other. is_same_check other check) checks then checks else checks ++ check ∷ []

abbrev pub checks_of : Member → List LibCheck
checks_of cell = fold with_check [] (filter_map check_if (related_pins cell))

-- ---- the cell

abbrev pub is_refused : Member → Bool
is_refused cell = is_left_out cell || has_wide_function cell || has_two_launches cell

-- a refused cell keeps its name alone
abbrev pub lib_cell : Member → LibCell
lib_cell cell =
    if is_refused cell
    then record { name = name_of cell; pins = []; arcs = []; checks = []; refused = true }
    else record { name = name_of cell; pins = map (lib_pin cell) (pins cell); arcs = arcs_of cell; checks = checks_of cell; refused = false }
