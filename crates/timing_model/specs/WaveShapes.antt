-- The wave of a generated clock, by its shape and its master's wave (SDC 2.1, create_generated_clock). How a divided
-- clock falls, and what stops a wave, are this project's own rule. Times are whole femtoseconds, and none is below 0.
-- It reads: the shape makes a period, a rise and a fall of the master's; inverting exchanges the edges; last, both are
-- moved down by whole periods until the rise is below the period.
use Rattle.std.specs.Prelude.{◌+◌, ◌-◌, ◌*◌, ◌/◌, ◌%◌, ◌==◌, ◌&&◌, ℕ, zero, suc, pos, unsigned_abs, Bool, true, false, Result, Ok, Err, nat_lt, nat_le, if◌then◌else◌}
use Rattle.std.specs.Int.{is_power_of_two}
use Rattle.timing_types.specs.declared.clocks.Shape.{Shape}
use Rattle.timing_types.specs.declared.clocks.Shape.TheVariants.{Divide, Multiply, Edges}
use Rattle.timing_types.specs.declared.clocks.Wave.{Wave}
use Rattle.pin_types.specs.declared.mode_faults.ModeKind.{ModeKind}
use Rattle.pin_types.specs.declared.mode_faults.ModeKind.TheVariants.{NotExact, PeriodRange}
use Rattle.constraint_model.specs.ClockWaves.{longest_time, moved_down}

-- a period, a rise and a fall, which may be past the period
pub record Times : Type 0 where
  pub period : ℕ
  pub rise : ℕ
  pub fall : ℕ

abbrev pub times_of : Wave → Times
times_of wave = record { period = unsigned_abs wave.period; rise = unsigned_abs wave.rise; fall = unsigned_abs wave.fall }

-- the time of an edge of the master: 1, 3, 5 and so on are rises, 2, 4, 6 and so on falls
abbrev pub edge_of_master : Times → ℕ → ℕ
edge_of_master master edge =
    if edge % 2 == 1 then master.rise + (edge / 2) * master.period else master.fall + (edge / 2 - 1) * master.period

-- divided by a power of two above 1 a clock falls half its new period after its rise, else its pulse is n times as long
abbrev pub divided_fall : Times → ℕ → ℕ
divided_fall master n =
    if nat_lt 1 n && is_power_of_two n then master.rise + (n / 2) * master.period
    else master.rise + n * (master.fall - master.rise)

abbrev pub divided : Times → ℕ → Times
divided master n = record { period = n * master.period; rise = master.rise; fall = divided_fall master n }

-- the first division with a rest stops a multiplied clock
abbrev pub without_rest : ℕ → Result Times ModeKind → Result Times ModeKind
without_rest zero made = made
without_rest (suc rest) made = Err (NotExact (pos (suc rest)))

abbrev pub multiplied : Times → ℕ → Result Times ModeKind
multiplied master n =
    without_rest (master.period % n) (without_rest ((master.fall - master.rise) % n)
    (Ok (record { period = master.period / n; rise = master.rise; fall = master.rise + (master.fall - master.rise) / n })))

abbrev pub by_edges : Times → ℕ → ℕ → ℕ → Times
by_edges master rise fall next = record {
  period = edge_of_master master next - edge_of_master master rise;
  rise = edge_of_master master rise;
  fall = edge_of_master master fall;
}

abbrev pub shaped : Shape → Times → Result Times ModeKind
shaped (Divide n) master = Ok (divided master n)
shaped (Multiply n) master = multiplied master n
shaped (Edges rise fall next) master = Ok (by_edges master rise fall next)

-- an inverted clock rises where the other falls, and falls where it rises next
abbrev pub inverted : Bool → Times → Times
inverted false times = times
inverted true times = record { period = times.period; rise = times.fall; fall = times.rise + times.period }

-- both edges moved down by whole periods until the rise is below the period, which is 1 to 10^12
abbrev pub ranged : Times → Result Wave ModeKind
ranged times =
    if nat_le 1 times.period && nat_le times.period longest_time then Ok (moved_down times.period times.rise times.fall)
    else Err PeriodRange

abbrev pub ranged_all : Bool → Result Times ModeKind → Result Wave ModeKind
ranged_all invert (Err fault) = Err fault
ranged_all invert (Ok times) = ranged (inverted invert times)

abbrev pub generated_wave : Shape → Bool → Wave → Result Wave ModeKind
generated_wave shape invert master = ranged_all invert (shaped shape (times_of master))
