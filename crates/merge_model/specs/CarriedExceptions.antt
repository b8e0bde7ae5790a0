-- Which exceptions of the modes a merged mode carries. This project's own rule.
-- It reads: a false path is carried where no mode times a path that it matches; a multicycle where every mode has an
-- equal one; a delay where it is one of a given set of delays. Equal ones are carried once, in order of mode, then of
-- place.
use Rattle.std.specs.Prelude.{◌≡◌, ◌<◌, ℕ, ℤ, List, map, Some, slice_get}
use Rattle.std.specs.List.{Contains, flat_map}
use Rattle.timing_types.specs.declared.constraints.ExCommand.{ExCommand}
use Rattle.timing_types.specs.declared.constraints.ExCommand.TheVariants.{FalsePath, Delay, Multicycle}
use Rattle.timing_types.specs.declared.constraints.Exception.{Exception}
use Rattle.timing_types.specs.declared.paths.Path.{Path}
use Rattle.timing_model.specs.AnalysedModes.{AnalysedMode, InEveryMode, mode_of}
use Rattle.constraint_model.specs.ModeLines.{exception_without_line}
use Rattle.timing_model.specs.MappedClocks.{mapped_exception}
use Rattle.timing_model.specs.Matching.{Matches}
use Rattle.merge_model.specs.Required.{IsRequired}

-- ---- the exceptions of the modes in the words of the merge

abbrev pub common_form : AnalysedMode → Exception → Exception
common_form mode exception = exception_without_line (mapped_exception mode.numbers exception)

abbrev pub exceptions_of : AnalysedMode → List Exception
exceptions_of mode = map (common_form mode) (mode_of mode).exceptions

abbrev pub all_exceptions : List AnalysedMode → List Exception
all_exceptions modes = flat_map exceptions_of modes

-- every mode has an equal one
abbrev pub IsCommonException : List AnalysedMode → Exception → Type 0
IsCommonException modes exception = InEveryMode modes (λ mode. Contains (exceptions_of mode) exception)

-- ---- what is carried

-- some mode times a path that an exception matches on its side
abbrev pub MatchesTimed : List AnalysedMode → Exception → Type 0
MatchesTimed modes exception = (path : Path) × (limit : ℤ)
    × IsRequired modes path exception.side limit × Matches exception exception.side path

abbrev pub IsCarriedBy : ExCommand → List AnalysedMode → (Exception → Type 0) → Exception → Type 0
IsCarriedBy FalsePath modes Delays exception = MatchesTimed modes exception → ⊥
IsCarriedBy Multicycle modes Delays exception = IsCommonException modes exception
IsCarriedBy Delay modes Delays exception = Delays exception

-- an exception in the words of the merge is carried with a set of delays
abbrev pub IsCarried : List AnalysedMode → (Exception → Type 0) → Exception → Type 0
IsCarried modes Delays exception = IsCarriedBy exception.command modes Delays exception

-- ---- each once

-- an item stands first at a place of a list
pub record StandsFirstAt {X : Type 0} (xs : List X) (x : X) (place : ℕ) : Type 0 where
  pub stands : slice_get xs place ≡ Some x
  pub none_before : (before : ℕ) → before < place → slice_get xs before ≡ Some x → ⊥

-- the items of a list that have a property, each once, in the order in which they first stand there
pub record AreSelected {X : Type 0} (Is : X → Type 0) (xs selected : List X) : Type 0 where
  pub sound : (x : X) → Contains selected x → Contains xs x × Is x
  pub complete : (x : X) → Contains xs x → Is x → Contains selected x
  pub order : (i j p q : ℕ) (x y : X) → i < j → slice_get selected i ≡ Some x → slice_get selected j ≡ Some y
      → StandsFirstAt xs x p → StandsFirstAt xs y q → p < q

abbrev pub AreCarried : List AnalysedMode → (Exception → Type 0) → List Exception → Type 0
AreCarried modes Delays exceptions = AreSelected (IsCarried modes Delays) (all_exceptions modes) exceptions
