-- Environment commands that are kept as they are (SDC 2.1), and what a kept one looks like in a mode. Which commands
-- are kept is this project's own choice.
-- A kept command has its name as its first word. A word is a text, or objects in the order clocks, ports, pins, cells,
-- nets, each kind by number and each object once.
use Rattle.std.specs.Prelude.{◌≡◌, ◌<◌, ◌⊎◌, ℕ, Bool, true, List, [], ◌∷◌, length, codes, Some, slice_get}
use Rattle.std.specs.List.{All, list_any}
use Rattle.timing_types.specs.declared.designs.Design.{Design}
use Rattle.timing_types.specs.declared.objects.Object.{Object}
use Rattle.timing_types.specs.declared.objects.Object.TheVariants as object
use Rattle.timing_types.specs.declared.objects.Value.{Value}
use Rattle.timing_types.specs.declared.objects.Value.TheVariants as value
use Rattle.design_model.specs.DesignPins.{IsPort}
use Rattle.text_model.specs.Words.{same_text}

unfoldable pub kept_names : List (List ℕ)
kept_names =
    codes "set_load" ∷ codes "set_driving_cell" ∷ codes "set_drive" ∷ codes "set_input_transition"
    ∷ codes "set_clock_transition" ∷ codes "set_max_transition" ∷ codes "set_max_capacitance"
    ∷ codes "set_min_capacitance" ∷ codes "set_max_fanout" ∷ codes "set_fanout_load"
    ∷ codes "set_port_fanout_number" ∷ codes "set_resistance" ∷ codes "set_max_area" ∷ codes "set_timing_derate"
    ∷ codes "set_wire_load_model" ∷ codes "set_wire_load_mode" ∷ codes "set_wire_load_min_block_size"
    ∷ codes "set_wire_load_selection_group" ∷ codes "set_operating_conditions" ∷ codes "group_path"
    ∷ codes "set_ideal_network" ∷ codes "set_ideal_latency" ∷ codes "set_ideal_transition"
    ∷ codes "set_clock_gating_check" ∷ codes "set_min_pulse_width" ∷ codes "set_max_time_borrow"
    ∷ codes "set_voltage" ∷ codes "create_voltage_area" ∷ codes "set_level_shifter_strategy"
    ∷ codes "set_level_shifter_threshold" ∷ codes "set_max_dynamic_power" ∷ codes "set_max_leakage_power" ∷ []

abbrev pub is_kept_name : List ℕ → Bool
is_kept_name name = list_any (same_text name) kept_names

-- the kind of an object in the order of kinds, and its number
abbrev pub kind_order : Object → ℕ
kind_order (object.Clock clock) = 0
kind_order (object.Port pin) = 1
kind_order (object.Pin pin) = 2
kind_order (object.Cell cell) = 3
kind_order (object.Net net) = 4

abbrev pub number_of : Object → ℕ
number_of (object.Clock clock) = clock
number_of (object.Port pin) = pin.0
number_of (object.Pin pin) = pin.0
number_of (object.Cell cell) = cell
number_of (object.Net net) = net

abbrev pub ObjectBefore : Object → Object → Type 0
ObjectBefore one other =
    (kind_order one < kind_order other) ⊎ ((kind_order one ≡ kind_order other) × (number_of one < number_of other))

-- an object of a design and of so many clocks; ports are pins that are ports
abbrev pub IsObjectOf : Design → ℕ → Object → Type 0
IsObjectOf design clocks (object.Clock clock) = clock < clocks
IsObjectOf design clocks (object.Port pin) = IsPort design pin.0
IsObjectOf design clocks (object.Pin pin) = (pin.0 < length design.pins) × (IsPort design pin.0 → ⊥)
IsObjectOf design clocks (object.Cell cell) = cell < length design.cells
IsObjectOf design clocks (object.Net net) = net < length design.nets

abbrev pub IsValueOf : Design → ℕ → Value → Type 0
IsValueOf design clocks (value.Text text) = Unit {0}
IsValueOf design clocks (value.Objects objects) =
    All (IsObjectOf design clocks) objects
    × ((i j : ℕ) (one other : Object) → i < j → slice_get objects i ≡ Some one → slice_get objects j ≡ Some other → ObjectBefore one other)

-- the words of a kept command over a design and so many clocks
abbrev pub IsKeptOf : Design → ℕ → List Value → Type 0
IsKeptOf design clocks (value.Text name ∷ words) = (is_kept_name name ≡ true) × All (IsValueOf design clocks) words
IsKeptOf design clocks words = ⊥
