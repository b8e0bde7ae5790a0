-- The waveforms of a mode's clocks, and the clocks that they are generated from (SDC 2.1, create_generated_clock). The
-- four faults and their order are this project's own rule.
-- It reads: a master is named, or is the one other clock that arrives at the source pin. A generated clock has the wave
-- that its shape makes of its master's. The first fault is that of the first clock that has one.
use Rattle.std.specs.Prelude.{◌+◌, ◌*◌, ◌==◌, ◌||◌, ℕ, zero, suc, pos, Bool, true, false, List, [], ◌∷◌, ◌++◌, length, Option, Some, None, Result, Ok, Err, slice_get, if◌then◌else◌}
use Rattle.std.specs.Option.{option_and_then, option_or, unwrap_or}
use Rattle.sdc_base.specs.declared.memory.At.{At}
use Rattle.timing_types.specs.declared.analyses.Waves.{Waves}
use Rattle.timing_types.specs.declared.clocks.Clock.{Clock}
use Rattle.timing_types.specs.declared.clocks.Form.{Form}
use Rattle.timing_types.specs.declared.clocks.Form.TheVariants.{Primary, Generated}
use Rattle.timing_types.specs.declared.clocks.Wave.{Wave}
use Rattle.pin_types.specs.declared.mode_faults.ModeKind.{ModeKind}
use Rattle.pin_types.specs.declared.mode_faults.ModeKind.TheVariants.{MasterUnclear, MasterCycle}
use Rattle.timing_types.specs.declared.modes.Mode.{Mode}
use Rattle.pin_types.specs.declared.pins.ClockEdge.{ClockEdge}
use Rattle.pin_types.specs.declared.pins.Pin.{Pin}
use Rattle.timing_types.specs.declared.views.Arrivals.{Arrivals}
use Rattle.constraint_model.specs.ListOrder.{is_among}
use Rattle.timing_model.specs.Arrival.{edges_at}
use Rattle.timing_model.specs.WaveShapes.{generated_wave}

-- ---- masters

-- the clocks of these edges but one, each once
abbrev pub other_clocks : ℕ → List ClockEdge → List ℕ
other_clocks clock [] = []
other_clocks clock (edge ∷ edges) =
    let others = other_clocks clock edges in
    if edge.clock == clock || is_among edge.clock others then others else edge.clock ∷ others

-- the other clocks that arrive at a pin: at either node of it
abbrev pub clocks_at : Arrivals → ℕ → Pin → List ℕ
clocks_at arrivals clock pin = other_clocks clock (edges_at arrivals (2 * pin.0) ++ edges_at arrivals (2 * pin.0 + 1))

-- the one of these clocks, or the fault where there is not one
abbrev pub the_one : List ℕ → Result (Option ℕ) ModeKind
the_one (clock ∷ []) = Ok (Some clock)
the_one clocks = Err (MasterUnclear (length clocks))

-- the master of the clock at a place: none for a primary one, else the named one, or the one other clock at its source
abbrev pub master_by_form : Arrivals → ℕ → Form → Result (Option ℕ) ModeKind
master_by_form arrivals place (Primary wave) = Ok None
master_by_form arrivals place (Generated source (Some master) shape invert) = Ok (Some master)
master_by_form arrivals place (Generated source None shape invert) = the_one (clocks_at arrivals place source)

-- no master where it is not clear
abbrev pub clear : Result (Option ℕ) ModeKind → Option ℕ
clear (Ok master) = master
clear (Err fault) = None

abbrev pub master_in : Mode → Arrivals → ℕ → Option ℕ
master_in mode arrivals place =
    option_and_then (λ clock. clear (master_by_form arrivals place clock.form)) (slice_get mode.clocks place)

-- the clock so many masters above
abbrev pub above : Mode → Arrivals → ℕ → ℕ → Option ℕ
above mode arrivals zero place = Some place
above mode arrivals (suc steps) place = option_and_then (above mode arrivals steps) (master_in mode arrivals place)

-- there is a clock, and it is the one at the place
abbrev pub is_clock : ℕ → Option ℕ → Bool
is_clock place None = false
is_clock place (Some other) = other == place

-- within so many masters above a clock it comes again
abbrev pub comes_again : Mode → Arrivals → ℕ → ℕ → Bool
comes_again mode arrivals zero place = false
comes_again mode arrivals (suc steps) place =
    is_clock place (above mode arrivals (suc steps) place) || comes_again mode arrivals steps place

abbrev pub is_on_cycle : Mode → Arrivals → ℕ → Bool
is_on_cycle mode arrivals place = comes_again mode arrivals (length mode.clocks) place

-- ---- waves and faults

abbrev pub made : Result Wave ModeKind → Option Wave
made (Ok wave) = Some wave
made (Err fault) = None

-- the wave that a form makes of its master's, if that has one
abbrev pub wave_by_form : Form → Option Wave → Option Wave
wave_by_form (Primary wave) master = Some wave
wave_by_form (Generated source named shape invert) master = option_and_then (λ wave. made (generated_wave shape invert wave)) master

-- the wave of a clock with less than so many masters above it
abbrev pub wave_within_steps : Mode → Arrivals → ℕ → ℕ → Option Wave
wave_within_steps mode arrivals zero place = None
wave_within_steps mode arrivals (suc steps) place =
    option_and_then (λ (clock : Clock). wave_by_form clock.form
    (option_and_then (wave_within_steps mode arrivals steps) (master_in mode arrivals place))) (slice_get mode.clocks place)

-- the wave of a clock, if it has one: no clock has as many masters above it as there are clocks
abbrev pub wave_in : Mode → Arrivals → ℕ → Option Wave
wave_in mode arrivals place = wave_within_steps mode arrivals (length mode.clocks) place

-- the fault of making a wave of a master's
abbrev pub fault_of : Result Wave ModeKind → Option ModeKind
fault_of (Ok wave) = None
fault_of (Err fault) = Some fault

abbrev pub shape_fault : Form → Option Wave → Option ModeKind
shape_fault (Primary wave) master = None
shape_fault (Generated source named shape invert) master =
    option_and_then (λ wave. fault_of (generated_wave shape invert wave)) master

abbrev pub unclear_fault : Result (Option ℕ) ModeKind → Option ModeKind
unclear_fault (Ok master) = None
unclear_fault (Err fault) = Some fault

abbrev pub cycle_fault : Bool → Option ModeKind
cycle_fault true = Some MasterCycle
cycle_fault false = None

-- the first fault of the clock at a place: an unclear master, a cycle, a division with a rest, a period out of range
abbrev pub clock_fault : Mode → Arrivals → ℕ → Form → Option ModeKind
clock_fault mode arrivals place form =
    option_or (unclear_fault (master_by_form arrivals place form))
    (option_or (cycle_fault (is_on_cycle mode arrivals place))
    (shape_fault form (option_and_then (wave_in mode arrivals) (master_in mode arrivals place))))

-- the first fault of clocks of which the first has a place, with its line
abbrev pub at_line : ℕ → Option ModeKind → Option (At ModeKind)
at_line line None = None
at_line line (Some kind) = Some (record { line = line; kind = kind })

abbrev pub first_fault : Mode → Arrivals → ℕ → List Clock → Option (At ModeKind)
first_fault mode arrivals place [] = None
first_fault mode arrivals place (clock ∷ clocks) =
    option_or (at_line clock.line (clock_fault mode arrivals place clock.form)) (first_fault mode arrivals (suc place) clocks)

-- the waves and the masters of clocks of which the first has a place, where no clock has a fault
abbrev pub no_wave : Wave
no_wave = record { period = pos 0; rise = pos 0; fall = pos 0 }

abbrev pub waves_from : Mode → Arrivals → ℕ → List Clock → List Wave
waves_from mode arrivals place [] = []
waves_from mode arrivals place (clock ∷ clocks) =
    unwrap_or (wave_in mode arrivals place) no_wave ∷ waves_from mode arrivals (suc place) clocks

abbrev pub masters_from : Mode → Arrivals → ℕ → List Clock → List (Option ℕ)
masters_from mode arrivals place [] = []
masters_from mode arrivals place (clock ∷ clocks) = master_in mode arrivals place ∷ masters_from mode arrivals (suc place) clocks

abbrev pub or_waves : Option (At ModeKind) → Waves → Result Waves (At ModeKind)
or_waves None waves = Ok waves
or_waves (Some fault) waves = Err fault

-- the waves and masters of a mode's clocks, or the first fault
unfoldable pub waves_of : Mode → Arrivals → Result Waves (At ModeKind)
waves_of mode arrivals = or_waves (first_fault mode arrivals 0 mode.clocks) (record {
  waves = waves_from mode arrivals 0 mode.clocks;
  masters = masters_from mode arrivals 0 mode.clocks;
})
