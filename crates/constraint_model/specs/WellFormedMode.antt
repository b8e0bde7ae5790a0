-- Well-formed modes over a design: what reading a constraint file gives (SDC 2.1). The bounds of numbers and the orders
-- of lists are this project's own.
-- It reads part by part: clocks, exclusive pairs, case values, disables, port delays, exceptions and kept commands.
use Rattle.std.specs.Prelude.{◌≡◌, ◌<◌, ◌≤◌, ◌^◌, ◌⊎◌, ℕ, ℤ, pos, unsigned_abs, Bool, false, List, [], ◌∷◌, length, map, Option, Some, None, slice_get}
use Rattle.std.specs.List.{All, Contains}
use Rattle.timing_types.specs.declared.clocks.Clock.{Clock}
use Rattle.timing_types.specs.declared.clocks.Early.{Early}
use Rattle.timing_types.specs.declared.clocks.Form.{Form}
use Rattle.timing_types.specs.declared.clocks.Form.TheVariants.{Primary, Generated}
use Rattle.timing_types.specs.declared.clocks.Latency.{Latency}
use Rattle.timing_types.specs.declared.clocks.Shape.{Shape}
use Rattle.timing_types.specs.declared.clocks.Shape.TheVariants.{Divide, Multiply, Edges}
use Rattle.timing_types.specs.declared.constraints.CaseSet.{CaseSet}
use Rattle.timing_types.specs.declared.constraints.Disable.{Disable}
use Rattle.timing_types.specs.declared.constraints.ExCommand.{ExCommand}
use Rattle.timing_types.specs.declared.constraints.ExCommand.TheVariants.{FalsePath, Delay, Multicycle}
use Rattle.timing_types.specs.declared.constraints.Exception.{Exception}
use Rattle.timing_types.specs.declared.constraints.IoDelay.{IoDelay}
use Rattle.timing_types.specs.declared.constraints.Points.{Points}
use Rattle.timing_types.specs.declared.constraints.Through.{Through}
use Rattle.timing_types.specs.declared.designs.CellInfo.{CellInfo}
use Rattle.timing_types.specs.declared.designs.Design.{Design}
use Rattle.pin_types.specs.declared.library_cells.LibArc.{LibArc}
use Rattle.pin_types.specs.declared.library_cells.LibCell.{LibCell}
use Rattle.timing_types.specs.declared.modes.Mode.{Mode}
use Rattle.timing_types.specs.declared.objects.Kept.{Kept}
use Rattle.pin_types.specs.declared.pins.Pin.{Pin}
use Rattle.pin_types.specs.Nodes.{EdgeStandsBefore}
use Rattle.constraint_model.specs.KeptCommands.{IsKeptOf}
use Rattle.design_model.specs.DesignPins.{IsInputPort, IsOutputPort, IsPort, IsCell, cell_pin}
use Rattle.constraint_model.specs.ExclusivePairs.{ArePairs}
use Rattle.constraint_model.specs.ClockWaves.{IsPrintableWave}
use Rattle.design_model.specs.LibraryArcs.{IsChecked, IsLaunching}
use Rattle.text_model.specs.Names.{AreGoodNames}
use Rattle.constraint_model.specs.ListOrder.{Rises}
use Rattle.timing_types.specs.declared.constraints.Disable.TheVariants as disable
use Rattle.timing_types.specs.declared.constraints.Points.TheVariants as points

-- ---- numbers and lists

abbrev pub IsTime : ℤ → Type 0
IsTime time = unsigned_abs time ≤ 10 ^ 12

abbrev pub IsTimeOrNone : Option ℤ → Type 0
IsTimeOrNone None = Unit {0}
IsTimeOrNone (Some time) = IsTime time

-- at least one pin of the design, in order, each once, each with a property; the same of clocks
abbrev pub ArePins : (ℕ → Type 0) → Design → List Pin → Type 0
ArePins Is design pins =
    (0 < length pins) × Rises (λ (pin : Pin) (other : Pin). pin.0 < other.0) pins
    × All (λ (pin : Pin). (pin.0 < length design.pins) × Is pin.0) pins

abbrev pub AnyPin : ℕ → Type 0
AnyPin pin = Unit {0}

abbrev pub AreClocks : Mode → List ℕ → Type 0
AreClocks mode clocks = (0 < length clocks) × Rises (λ clock other. clock < other) clocks × All (λ clock. clock < length mode.clocks) clocks

-- ---- clocks

abbrev pub AreValues : Early → Type 0
AreValues values = IsTime values.rise × IsTime values.fall

abbrev pub IsLatency : Latency → Type 0
IsLatency latency =
    AreValues latency.source_early × AreValues latency.source_late × AreValues latency.network_early × AreValues latency.network_late

-- a number by which a clock is divided or multiplied, or of an edge
abbrev pub IsShapeNumber : ℕ → Type 0
IsShapeNumber n = (1 ≤ n) × (n ≤ 1000000)

abbrev pub IsShape : Shape → Type 0
IsShape (Divide n) = IsShapeNumber n
IsShape (Multiply n) = IsShapeNumber n
IsShape (Edges rise fall next) = (1 ≤ rise) × (rise < fall) × (fall < next) × (next ≤ 1000000)

-- a master that is named stands before its clock
abbrev pub IsMasterOf : ℕ → Option ℕ → Type 0
IsMasterOf place None = Unit {0}
IsMasterOf place (Some master) = master < place

-- a clock without sources has a waveform of its own; a source is any pin
abbrev pub IsFormOf : Design → ℕ → Form → List Pin → Type 0
IsFormOf design place (Primary wave) [] = IsPrintableWave wave
IsFormOf design place (Primary wave) (pin ∷ pins) = IsPrintableWave wave × ArePins AnyPin design (pin ∷ pins)
IsFormOf design place (Generated source master shape invert) sources =
    (source.0 < length design.pins) × IsMasterOf place master × IsShape shape × ArePins AnyPin design sources

-- the clock at a place of its mode
pub record IsWellFormedClock (design : Design) (place : ℕ) (clock : Clock) : Type 0 where
  pub form : IsFormOf design place clock.form clock.sources
  pub latency : IsLatency clock.latency
  pub setup_uncertainty : IsTime clock.setup_uncertainty
  pub hold_uncertainty : IsTime clock.hold_uncertainty

-- ---- disables

-- a library arc joins two pins of a cell
pub record AreJoined (design : Design) (from to : Pin) : Type 0 where
  pub place : ℕ
  pub cell : CellInfo
  pub kind : LibCell
  pub arc : LibArc
  pub is_cell : IsCell design place cell kind
  pub is_arc : Contains kind.arcs arc
  pub from_pin : from.0 ≡ cell_pin cell arc.from
  pub to_pin : to.0 ≡ cell_pin cell arc.to

abbrev pub IsDisable : Design → Disable → Type 0
IsDisable design (disable.Pin line pin) = pin.0 < length design.pins
IsDisable design (disable.Between line from to) = AreJoined design from to

-- pins stand by pin, then pairs by where they come from and where they go
abbrev pub DisableBefore : Disable → Disable → Type 0
DisableBefore (disable.Pin line pin) (disable.Pin other_line other) = pin.0 < other.0
DisableBefore (disable.Pin line pin) (disable.Between other_line from to) = Unit {0}
DisableBefore (disable.Between line from to) (disable.Pin other_line other) = ⊥
DisableBefore (disable.Between line from to) (disable.Between other_line other_from other_to) =
    (from.0 < other_from.0) ⊎ ((from.0 ≡ other_from.0) × (to.0 < other_to.0))

-- ---- delays of ports

abbrev pub HasValue : Option ℤ → Type 0
HasValue value = (time : ℤ) × (value ≡ Some time)

pub record IsWellFormedDelay (design : Design) (mode : Mode) (delay : IoDelay) : Type 0 where
  pub port : IsPort design delay.port.0
  pub clock : delay.clock.clock < length mode.clocks
  pub greatest : IsTimeOrNone delay.max_rise × IsTimeOrNone delay.max_fall
  pub least : IsTimeOrNone delay.min_rise × IsTimeOrNone delay.min_fall
  pub some_value : HasValue delay.max_rise ⊎ (HasValue delay.max_fall ⊎ (HasValue delay.min_rise ⊎ HasValue delay.min_fall))

-- by port, clock and edge, so that no port has two delays to one clock edge
abbrev pub DelayBefore : IoDelay → IoDelay → Type 0
DelayBefore delay other =
    (delay.port.0 < other.port.0) ⊎ ((delay.port ≡ other.port) × EdgeStandsBefore delay.clock other.clock)

-- ---- exceptions

abbrev pub IsStartOf : Design → ℕ → Type 0
IsStartOf design pin = IsInputPort design pin ⊎ IsLaunching design pin

abbrev pub IsEndOf : Design → ℕ → Type 0
IsEndOf design pin = IsOutputPort design pin ⊎ IsChecked design pin

-- the points of an end: pins that paths begin or end at, or clocks
abbrev pub ArePoints : (ℕ → Type 0) → Design → Mode → Option Points → Type 0
ArePoints Is design mode None = Unit {0}
ArePoints Is design mode (Some (points.Pins edge pins)) = ArePins Is design pins
ArePoints Is design mode (Some (points.Clocks edge clocks)) = AreClocks mode clocks

-- something is said of where a path goes
abbrev pub SaysWhere : Option Points → List Through → Option Points → Type 0
SaysWhere None [] None = ⊥
SaysWhere from through to = Unit {0}

-- a false path has no value, and a multicycle alone counts launch periods
abbrev pub IsValueOf : ExCommand → ℤ → Bool → Type 0
IsValueOf FalsePath value by_launch = (value ≡ pos 0) × (by_launch ≡ false)
IsValueOf Delay value by_launch = (unsigned_abs value ≤ 10 ^ 16) × (by_launch ≡ false)
IsValueOf Multicycle value by_launch = unsigned_abs value ≤ 1000

pub record IsWellFormedException (design : Design) (mode : Mode) (exception : Exception) : Type 0 where
  pub value : IsValueOf exception.command exception.value exception.by_launch
  pub from : ArePoints (IsStartOf design) design mode exception.from
  pub to : ArePoints (IsEndOf design) design mode exception.to
  pub few : length exception.through ≤ 6
  pub through : All (λ (list : Through). ArePins AnyPin design list.pins) exception.through
  pub says : SaysWhere exception.from exception.through exception.to

-- ---- the mode

pub record IsWellFormedMode (design : Design) (mode : Mode) : Type 0 where
  pub few : length mode.clocks ≤ 16384
  pub clocks : (place : ℕ) (clock : Clock) → slice_get mode.clocks place ≡ Some clock → IsWellFormedClock design place clock
  pub names : AreGoodNames (map (λ (clock : Clock). clock.name) mode.clocks)
  pub exclusive : ArePairs (length mode.clocks) mode.exclusive
  pub cases : All (λ (set : CaseSet). set.pin.0 < length design.pins) mode.cases
  pub case_order : Rises (λ (set : CaseSet) (other : CaseSet). set.pin.0 < other.pin.0) mode.cases
  pub disabled : All (IsDisable design) mode.disabled
  pub disable_order : Rises DisableBefore mode.disabled
  pub delays : All (IsWellFormedDelay design mode) mode.delays
  pub delay_order : Rises DelayBefore mode.delays
  pub exceptions : All (IsWellFormedException design mode) mode.exceptions
  pub kept : All (λ (kept : Kept). IsKeptOf design (length mode.clocks) kept.words) mode.kept
