-- The parts of a merged mode that say nothing of single paths: case values, disables, delays of ports and kept
-- commands. This project's own rule. It reads: what every mode has is carried; of the delays of a port to a clock edge
-- the greatest maximum and the least minimum that a mode sets, each value by itself; kept commands as the first mode
-- has them.
use Rattle.std.specs.Prelude.{◌≡◌, ◌<◌, ◌≤ℤ◌, ◌⊎◌, ◌↔◌, ℕ, ℤ, List, [], ◌∷◌, map, Some}
use Rattle.std.specs.List.{Contains}
use Rattle.timing_types.specs.declared.constraints.CaseSet.{CaseSet}
use Rattle.timing_types.specs.declared.constraints.Disable.{Disable}
use Rattle.timing_types.specs.declared.constraints.Disable.TheVariants as disable
use Rattle.timing_types.specs.declared.constraints.IoDelay.{IoDelay}
use Rattle.timing_types.specs.declared.modes.Mode.{Mode}
use Rattle.timing_types.specs.declared.objects.Kept.{Kept}
use Rattle.pin_types.specs.declared.pins.ClockEdge.{ClockEdge}
use Rattle.pin_types.specs.declared.pins.Edge.{Edge}
use Rattle.pin_types.specs.declared.pins.Edge.TheVariants.{Rise, Fall}
use Rattle.pin_types.specs.declared.pins.Pin.{Pin}
use Rattle.pin_types.specs.declared.pins.Side.{Side}
use Rattle.pin_types.specs.declared.pins.Side.TheVariants.{Setup, Hold}
use Rattle.timing_model.specs.AliveArcs.{IsPinDisabled, IsPairDisabled}
use Rattle.timing_model.specs.AnalysedModes.{AnalysedMode, InEveryMode, InSomeMode, mode_of}
use Rattle.timing_model.specs.Limit.{delay_value}
use Rattle.timing_model.specs.MappedClocks.{IsMappedEdge, mapped_kept}
use Rattle.timing_model.specs.Strictest.{IsBest}
use Rattle.constraint_model.specs.ListOrder.{Rises}
use Rattle.constraint_model.specs.WellFormedMode.{DelayBefore, DisableBefore}

-- ---- case values

-- a mode sets the pin to the value, in whatever line
abbrev pub SetsCase : CaseSet → Mode → Type 0
SetsCase set mode = (line : ℕ) × Contains mode.cases (record set { line = line })

abbrev pub IsCommonCase : List AnalysedMode → CaseSet → Type 0
IsCommonCase modes set = InEveryMode modes (λ mode. SetsCase set (mode_of mode))

-- the case values that every mode sets, by pin; no line made them
pub record AreCommonCases (modes : List AnalysedMode) (cases : List CaseSet) : Type 0 where
  pub members : (set : CaseSet) → Contains cases set ↔ ((set.line ≡ 0) × IsCommonCase modes set)
  pub order : Rises (λ (set : CaseSet) (other : CaseSet). set.pin.0 < other.pin.0) cases

-- ---- disables

abbrev pub disable_line : Disable → ℕ
disable_line (disable.Pin line pin) = line
disable_line (disable.Between line from to) = line

-- a mode disables the pin, or the pair, in whatever line
abbrev pub Disables : Disable → Mode → Type 0
Disables (disable.Pin line pin) mode = IsPinDisabled mode pin
Disables (disable.Between line from to) mode = IsPairDisabled mode from to

abbrev pub IsCommonDisable : List AnalysedMode → Disable → Type 0
IsCommonDisable modes disabled = InEveryMode modes (λ mode. Disables disabled (mode_of mode))

-- the pins, then the pairs, that every mode disables
pub record AreCommonDisables (modes : List AnalysedMode) (disabled : List Disable) : Type 0 where
  pub members : (one : Disable) → Contains disabled one ↔ ((disable_line one ≡ 0) × IsCommonDisable modes one)
  pub order : Rises DisableBefore disabled

-- ---- delays of ports

-- a mode has a delay of a port to a merged clock edge
pub record HasDelayTo (port : Pin) (edge : ClockEdge) (mode : AnalysedMode) (delay : IoDelay) : Type 0 where
  pub is : Contains (mode_of mode).delays delay
  pub is_port : delay.port ≡ port
  pub clock : IsMappedEdge mode.numbers delay.clock edge

-- some mode sets this value of a port's delay, for a side and a transition
abbrev pub IsSetValue : List AnalysedMode → Pin → ClockEdge → Side → Edge → ℤ → Type 0
IsSetValue modes port edge side transition time = InSomeMode modes (λ mode. (delay : IoDelay)
    × HasDelayTo port edge mode delay × (delay_value delay side transition ≡ Some time))

-- a value is at least as strict as another: as great or greater for setup, as small or less for hold
abbrev pub IsStrictDelay : Side → ℤ → ℤ → Type 0
IsStrictDelay Setup time other = other ≤ℤ time
IsStrictDelay Hold time other = time ≤ℤ other

abbrev pub IsStrictestValue : List AnalysedMode → IoDelay → Side → Edge → Type 0
IsStrictestValue modes delay side transition =
    IsBest (IsStrictDelay side) (IsSetValue modes delay.port delay.clock side transition) (delay_value delay side transition)

-- a delay of a merged mode: some mode has one to its clock edge, and each of the four values is the strictest
pub record IsStrictestDelay (modes : List AnalysedMode) (delay : IoDelay) : Type 0 where
  pub somewhere : InSomeMode modes (λ mode. (own : IoDelay) × HasDelayTo delay.port delay.clock mode own)
  pub max_rise : IsStrictestValue modes delay Setup Rise
  pub max_fall : IsStrictestValue modes delay Setup Fall
  pub min_rise : IsStrictestValue modes delay Hold Rise
  pub min_fall : IsStrictestValue modes delay Hold Fall

pub record AreStrictestDelays (modes : List AnalysedMode) (delays : List IoDelay) : Type 0 where
  pub members : (delay : IoDelay) → Contains delays delay ↔ IsStrictestDelay modes delay
  pub order : Rises DelayBefore delays

-- ---- kept commands

-- the kept commands of a mode in the words of the merge, apart from lines
abbrev pub kept_of : AnalysedMode → List Kept
kept_of mode = map (mapped_kept mode.numbers) (mode_of mode).kept

abbrev pub IsCommonKept : List AnalysedMode → Kept → Type 0
IsCommonKept modes kept = InEveryMode modes (λ mode. Contains (kept_of mode) kept)

-- the items of a list that have a property, in order, equal ones as often as they stand there
abbrev pub AreThose : {X : Type 0} → (X → Type 0) → List X → List X → Type 0
AreThose Is [] those = those ≡ []
AreThose {X} Is (x ∷ xs) those =
    (Is x × ((others : List X) × (those ≡ x ∷ others) × AreThose Is xs others)) ⊎ ((Is x → ⊥) × AreThose Is xs those)

-- those of the first mode that every mode has
abbrev pub AreCommonKept : List AnalysedMode → List Kept → Type 0
AreCommonKept [] kept = kept ≡ []
AreCommonKept (first ∷ others) kept = AreThose (IsCommonKept (first ∷ others)) (kept_of first) kept
