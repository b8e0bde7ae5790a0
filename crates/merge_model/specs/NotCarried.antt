-- The commands of the modes that a merged mode does not carry. This project's own rule.
-- It reads: a mode, a line and a command name are left where an exception, case value, disable or kept command of that
-- name on that line is not carried; each once, by mode, line and name. Clocks, groups and delays of ports are never
-- left.
use Rattle.std.specs.Prelude.{◌≡◌, ◌⊎◌, ◌↔◌, ℕ, true, List, ◌∷◌, codes, Option, Some, None, slice_get}
use Rattle.std.specs.List.{Contains}
use Rattle.std.specs.Ordering.{nat_cmp, is_lt, ordering_then}
use Rattle.std.specs.Cmp.Lexicographic.{slice_cmp}
use Rattle.timing_types.specs.declared.constraints.CaseSet.{CaseSet}
use Rattle.timing_types.specs.declared.constraints.Disable.{Disable}
use Rattle.timing_types.specs.declared.constraints.ExCommand.{ExCommand}
use Rattle.timing_types.specs.declared.constraints.ExCommand.TheVariants.{FalsePath, Delay, Multicycle}
use Rattle.timing_types.specs.declared.constraints.Exception.{Exception}
use Rattle.timing_types.specs.declared.merges.Left.{Left}
use Rattle.timing_types.specs.declared.objects.Kept.{Kept}
use Rattle.timing_types.specs.declared.objects.Value.{Value}
use Rattle.timing_types.specs.declared.objects.Value.TheVariants as value
use Rattle.pin_types.specs.declared.pins.Side.{Side}
use Rattle.pin_types.specs.declared.pins.Side.TheVariants.{Setup, Hold}
use Rattle.timing_model.specs.AnalysedModes.{AnalysedMode, mode_of}
use Rattle.merge_model.specs.CarriedExceptions.{IsCarried, common_form}
use Rattle.merge_model.specs.CommonParts.{IsCommonCase, IsCommonDisable, IsCommonKept, disable_line}
use Rattle.timing_model.specs.MappedClocks.{mapped_kept}
use Rattle.constraint_model.specs.ListOrder.{Rises}

-- ---- names of commands

unfoldable pub exception_name : ExCommand → Side → List ℕ
exception_name FalsePath side = codes "set_false_path"
exception_name Delay Setup = codes "set_max_delay"
exception_name Delay Hold = codes "set_min_delay"
exception_name Multicycle side = codes "set_multicycle_path"

unfoldable pub case_name : List ℕ
case_name = codes "set_case_analysis"

unfoldable pub disable_name : List ℕ
disable_name = codes "set_disable_timing"

-- the name of a kept command is its first word
abbrev pub kept_name : List Value → Option (List ℕ)
kept_name (value.Text name ∷ words) = Some name
kept_name words = None

-- ---- what is left

pub record IsExceptionLeft (modes : List AnalysedMode) (Delays : Exception → Type 0) (mode : AnalysedMode) (left : Left) : Type 0 where
  pub exception : Exception
  pub is : Contains (mode_of mode).exceptions exception
  pub line : exception.line ≡ left.line
  pub name : exception_name exception.command exception.side ≡ left.command
  pub not_carried : IsCarried modes Delays (common_form mode exception) → ⊥

pub record IsCaseLeft (modes : List AnalysedMode) (mode : AnalysedMode) (left : Left) : Type 0 where
  pub set : CaseSet
  pub is : Contains (mode_of mode).cases set
  pub line : set.line ≡ left.line
  pub name : case_name ≡ left.command
  pub not_carried : IsCommonCase modes set → ⊥

pub record IsDisableLeft (modes : List AnalysedMode) (mode : AnalysedMode) (left : Left) : Type 0 where
  pub disabled : Disable
  pub is : Contains (mode_of mode).disabled disabled
  pub line : disable_line disabled ≡ left.line
  pub name : disable_name ≡ left.command
  pub not_carried : IsCommonDisable modes disabled → ⊥

pub record IsKeptLeft (modes : List AnalysedMode) (mode : AnalysedMode) (left : Left) : Type 0 where
  pub kept : Kept
  pub is : Contains (mode_of mode).kept kept
  pub line : kept.line ≡ left.line
  pub name : kept_name kept.words ≡ Some left.command
  pub not_carried : IsCommonKept modes (mapped_kept mode.numbers kept) → ⊥

-- a command is left, where these delays are carried
abbrev pub IsLeft : List AnalysedMode → (Exception → Type 0) → Left → Type 0
IsLeft modes Delays left = (mode : AnalysedMode) × (slice_get modes left.mode ≡ Some mode)
    × (IsExceptionLeft modes Delays mode left ⊎ (IsCaseLeft modes mode left
    ⊎ (IsDisableLeft modes mode left ⊎ IsKeptLeft modes mode left)))

-- by mode, line, and name in byte order
abbrev pub LeftBefore : Left → Left → Type 0
LeftBefore left other = is_lt (ordering_then (nat_cmp left.mode other.mode)
    (ordering_then (nat_cmp left.line other.line) (slice_cmp nat_cmp left.command other.command))) ≡ true

pub record AreLeft (modes : List AnalysedMode) (Delays : Exception → Type 0) (left : List Left) : Type 0 where
  pub members : (one : Left) → Contains left one ↔ IsLeft modes Delays one
  pub order : Rises LeftBefore left
