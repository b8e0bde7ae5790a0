-- Which delays a merged mode carries. This project's own rule.
-- It reads: of the delays that every mode has, those are spared that match no path of a key in need under all of them.
-- The spared ones are carried, if none of them matches a path of a key in need under the spared ones alone; else none
-- is.
use Rattle.std.specs.Prelude.{◌≡◌, List, []}
use Rattle.timing_types.specs.declared.constraints.ExCommand.TheVariants.{Delay}
use Rattle.timing_types.specs.declared.constraints.Exception.{Exception}
use Rattle.timing_types.specs.declared.designs.Design.{Design}
use Rattle.timing_types.specs.declared.paths.Path.{Path}
use Rattle.timing_types.specs.declared.views.ClockMap.{ClockMap}
use Rattle.timing_model.specs.AnalysedModes.{AnalysedMode}
use Rattle.timing_model.specs.Analysis.{Analysis}
use Rattle.merge_model.specs.CarriedExceptions.{IsCommonException}
use Rattle.timing_model.specs.Keys.{Key, IsPathOfKey}
use Rattle.merge_model.specs.KeyNeed.{IsInNeed}
use Rattle.timing_model.specs.Matching.{Matches}
use Rattle.merge_model.specs.MergeRules.{IsMergedAnalysis}

-- a delay that every mode has
abbrev pub IsCommonDelay : List AnalysedMode → Exception → Type 0
IsCommonDelay modes exception = (exception.command ≡ Delay) × IsCommonException modes exception

-- an exception matches a path of a key that is in need in a merged analysis
abbrev pub HitsNeed : List AnalysedMode → Analysis → Exception → Type 0
HitsNeed modes merged exception = (key : Key) × (path : Path)
    × IsInNeed modes merged key × IsPathOfKey merged key path × Matches exception key.side path

-- the delays that are spared, by the analysis under all common ones
abbrev pub IsSpared : List AnalysedMode → Analysis → Exception → Type 0
IsSpared modes under_common exception = IsCommonDelay modes exception × (HitsNeed modes under_common exception → ⊥)

-- the delays that are carried, by that analysis and the one under the spared ones
abbrev pub IsCarriedDelay : List AnalysedMode → Analysis → Analysis → Exception → Type 0
IsCarriedDelay modes under_common under_spared exception = IsSpared modes under_common exception
    × ((other : Exception) → IsSpared modes under_common other → HitsNeed modes under_spared other → ⊥)

-- the merged analyses under the common delays, under the spared ones and under the carried ones, without key lines
pub record AreTried (design : Design) (modes : List AnalysedMode) (clocks : ClockMap) (under_common under_spared under_carried : Analysis) : Type 0 where
  pub common : IsMergedAnalysis design modes clocks (IsCommonDelay modes) [] under_common
  pub spared : IsMergedAnalysis design modes clocks (IsSpared modes under_common) [] under_spared
  pub carried : IsMergedAnalysis design modes clocks (IsCarriedDelay modes under_common under_spared) [] under_carried
