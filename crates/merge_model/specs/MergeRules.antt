-- The merged mode of several modes with a given set of delays and given further lines. This project's own rule.
-- It reads: the merged clocks are those of clock identity; two are exclusive where no mode has both and lets them be
-- timed; then the parts that the modes have in common, and the exceptions that are carried with the set of delays.
use Rattle.std.specs.Prelude.{◌≡◌, List, [], ◌++◌, length}
use Rattle.timing_types.specs.declared.constraints.Exception.{Exception}
use Rattle.timing_types.specs.declared.designs.Design.{Design}
use Rattle.timing_types.specs.declared.modes.Mode.{Mode}
use Rattle.timing_types.specs.declared.views.ClockMap.{ClockMap}
use Rattle.timing_model.specs.AnalysedModes.{AnalysedMode, views_of_modes}
use Rattle.timing_model.specs.Analysis.{Analysis, IsAnalysis}
use Rattle.merge_model.specs.CarriedExceptions.{AreCarried}
use Rattle.merge_model.specs.CommonParts.{AreCommonCases, AreCommonDisables, AreStrictestDelays, AreCommonKept}
use Rattle.merge_model.specs.Exclusive.{AreExclusivePairs}

-- the carried exceptions, and the further lines after them
pub record AreWithLines (modes : List AnalysedMode) (Delays : Exception → Type 0) (lines exceptions : List Exception) : Type 0 where
  pub carried : List Exception
  pub are_carried : AreCarried modes Delays carried
  pub is : exceptions ≡ carried ++ lines

-- a mode is the merged one of modes with these merged clocks
pub record IsMergedWith (modes : List AnalysedMode) (clocks : ClockMap) (Delays : Exception → Type 0) (lines : List Exception) (mode : Mode) : Type 0 where
  pub clocks_are : mode.clocks ≡ clocks.clocks
  pub exclusive : AreExclusivePairs (views_of_modes modes) clocks.maps (length mode.clocks) mode.exclusive
  pub cases : AreCommonCases modes mode.cases
  pub disabled : AreCommonDisables modes mode.disabled
  pub delays : AreStrictestDelays modes mode.delays
  pub exceptions : AreWithLines modes Delays lines mode.exceptions
  pub kept : AreCommonKept modes mode.kept
  pub notes : mode.notes ≡ []

-- the analysis of that mode over the modes' design
pub record IsMergedAnalysis (design : Design) (modes : List AnalysedMode) (clocks : ClockMap) (Delays : Exception → Type 0) (lines : List Exception) (analysis : Analysis) : Type 0 where
  pub analysed : IsAnalysis design analysis.mode analysis
  pub merged : IsMergedWith modes clocks Delays lines analysis.mode
