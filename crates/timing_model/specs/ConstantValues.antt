-- Which pins of a design are constant in a mode, and with which value: set pins, tied pins, and those that get a value
-- from their driver or function. This project's own rule over SDC's `set_case_analysis` and Liberty's `function`.
-- It reads: round by round, as many rounds after the first as there are pins. A set pin keeps its set value; the value
-- that the design derives for it may differ, which is a conflict.
use Rattle.std.specs.Prelude.{◌≡◌, ◌≢◌, ◌<◌, ◌==◌, ◌⊎◌, ℕ, zero, suc, Bool, true, false, List, [], ◌∷◌, length, Option, Some, None, Result, Ok, Err, slice_get, if◌then◌else◌}
use Rattle.std.specs.List.{Contains}
use Rattle.std.specs.Option.{option_and_then, option_flatten, option_map, option_or}
use Rattle.sdc_base.specs.declared.memory.At.{At}
use Rattle.timing_types.specs.declared.analyses.Constants.{Constants}
use Rattle.timing_types.specs.declared.constraints.CaseSet.{CaseSet}
use Rattle.timing_types.specs.declared.designs.CellInfo.{CellInfo}
use Rattle.timing_types.specs.declared.designs.Design.{Design}
use Rattle.timing_types.specs.declared.designs.PinInfo.{PinInfo}
use Rattle.timing_types.specs.declared.designs.Source.{Source}
use Rattle.timing_types.specs.declared.designs.Source.TheVariants as source
use Rattle.pin_types.specs.declared.mode_faults.ModeKind.{ModeKind}
use Rattle.pin_types.specs.declared.mode_faults.ModeKind.TheVariants as fault
use Rattle.pin_types.specs.declared.functions.Expr.{Expr}
use Rattle.timing_types.specs.declared.modes.Mode.{Mode}
use Rattle.function_model.specs.FunctionValue.{value_of}
use Rattle.design_model.specs.DesignPins.{cell_pin, driver_of, kind_of}

-- the value of each pin, by pin, where it has one
abbrev pub Values : Type 0
Values = List (Option Bool)

abbrev pub value_at : Values → ℕ → Option Bool
value_at values pin = option_flatten (slice_get values pin)

-- the value that a pin is set to
abbrev pub case_of : List CaseSet → ℕ → Option Bool
case_of [] pin = None
case_of (set ∷ cases) pin = if set.pin.0 == pin then Some set.value else case_of cases pin

-- the constant that a pin is tied to
abbrev pub tie_of : Option Source → Option Bool
tie_of (Some source.Zero) = Some false
tie_of (Some source.One) = Some true
tie_of _ = None

-- what a pin gets from outside its cell: its tie, or its driver's value
abbrev pub driven_value : Values → Option Source → Option Bool
driven_value values (Some (source.Pin driver)) = value_at values driver.0
driven_value values driver = tie_of driver

-- ---- functions

abbrev pub cell_of : Design → ℕ → Option CellInfo
cell_of design pin =
    option_and_then (λ cell. slice_get design.cells cell) (option_and_then (λ (info : PinInfo). info.cell) (slice_get design.pins pin))

-- the place of a pin among those of its library cell
abbrev pub place_in_cell : Design → ℕ → Option ℕ
place_in_cell design pin = option_map (λ (info : PinInfo). info.lib_pin) (slice_get design.pins pin)

-- the function of a pin, whose pins are places in its cell
abbrev pub function_of : Design → ℕ → Option Expr
function_of design pin =
    option_and_then (λ place. option_and_then (λ lib_pin. lib_pin.function)
    (option_and_then (λ kind. slice_get kind.pins place) (option_and_then (kind_of design) (cell_of design pin))))
    (place_in_cell design pin)

-- values of a cell's pins, by place: where a pin has a value already, it is this one
abbrev pub IsCompletion : Values → CellInfo → (ℕ → Bool) → Type 0
IsCompletion values cell inputs =
    (place : ℕ) (v : Bool) → place < cell.count → value_at values (cell_pin cell place) ≡ Some v → inputs place ≡ v

-- the pin's function has this value under every completion of the inputs that have none yet
pub record FunctionGives (design : Design) (values : Values) (pin : ℕ) (v : Bool) : Type 0 where
  pub cell : CellInfo
  pub expr : Expr
  pub in_cell : cell_of design pin ≡ Some cell
  pub function : function_of design pin ≡ Some expr
  pub forced : (inputs : ℕ → Bool) → IsCompletion values cell inputs → value_of inputs expr ≡ v

-- what the design gives a pin where these values stand: what comes from outside its cell, and else what its function
-- does
abbrev pub IsDerived : Design → Values → ℕ → Option Bool → Type 0
IsDerived design values pin (Some v) =
    (driven_value values (driver_of design pin) ≡ Some v)
    ⊎ ((driven_value values (driver_of design pin) ≡ None) × FunctionGives design values pin v)
IsDerived design values pin None =
    (driven_value values (driver_of design pin) ≡ None) × ((v : Bool) → FunctionGives design values pin v → ⊥)

-- ---- rounds

-- the first value where there is one, and else one of a relation
abbrev pub IsOr : Option Bool → (Option Bool → Type 0) → Option Bool → Type 0
IsOr (Some v) Other value = value ≡ Some v
IsOr None Other value = Other value

-- set pins have their case value and tied pins their tie
pub record IsFirstRound (design : Design) (mode : Mode) (values : Values) : Type 0 where
  pub pins : length values ≡ length design.pins
  pub each : (pin : ℕ) → pin < length design.pins
      → value_at values pin ≡ option_or (case_of mode.cases pin) (tie_of (driver_of design pin))

-- a set pin keeps its case value, a pin with a value keeps it, and another has what the design gives it
pub record IsNextRound (design : Design) (mode : Mode) (before after : Values) : Type 0 where
  pub pins : length after ≡ length design.pins
  pub each : (pin : ℕ) → pin < length design.pins
      → IsOr (option_or (case_of mode.cases pin) (value_at before pin)) (IsDerived design before pin) (value_at after pin)

abbrev pub IsRound : Design → Mode → ℕ → Values → Type 0
IsRound design mode zero values = IsFirstRound design mode values
IsRound design mode (suc round) values =
    (before : Values) × IsRound design mode round before × IsNextRound design mode before values

-- the values after the last round
abbrev pub IsLastRound : Design → Mode → Values → Type 0
IsLastRound design mode values = IsRound design mode (length design.pins) values

-- ---- conflicts

-- after the last round the design gives a set pin the other value
pub record IsCaseConflict (design : Design) (values : Values) (set : CaseSet) (derived : Bool) : Type 0 where
  pub is : IsDerived design values set.pin.0 (Some derived)
  pub other : derived ≢ set.value

-- the first conflict by pin
pub record IsFirstConflict (design : Design) (mode : Mode) (values : Values) (found : At ModeKind) : Type 0 where
  pub set : CaseSet
  pub derived : Bool
  pub is_set : Contains mode.cases set
  pub conflict : IsCaseConflict design values set derived
  pub first : (other : CaseSet) (v : Bool) → Contains mode.cases other → other.pin.0 < set.pin.0 → IsCaseConflict design values other v → ⊥
  pub is : found ≡ record { line = set.line; kind = fault.CaseConflict set.pin set.value derived }

-- the constants of a mode over a design, or the first conflict
abbrev pub ConstantsAre : Design → Mode → Result Constants (At ModeKind) → Type 0
ConstantsAre design mode (Ok constants) =
    IsLastRound design mode constants.values
    × ((set : CaseSet) (derived : Bool) → Contains mode.cases set → IsCaseConflict design constants.values set derived → ⊥)
ConstantsAre design mode (Err found) = (values : Values) × IsLastRound design mode values × IsFirstConflict design mode values found
