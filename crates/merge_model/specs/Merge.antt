-- The merge of several modes over a design: the merged mode, its clocks, what it times beyond need, and what is left.
-- This project's own rule. It reads: the modes are analysed; three sets of delays are tried; the merged mode has the
-- carried delays and a line for each key in need under them; the list speaks of the merged mode's own analysis.
use Rattle.std.specs.Prelude.{List}
use Rattle.timing_types.specs.declared.constraints.Exception.{Exception}
use Rattle.timing_types.specs.declared.designs.Design.{Design}
use Rattle.timing_types.specs.declared.merges.Merged.{Merged}
use Rattle.timing_types.specs.declared.modes.Mode.{Mode}
use Rattle.timing_model.specs.AnalysedModes.{AnalysedMode}
use Rattle.merge_model.specs.MergedClocks.{AreAnalysed}
use Rattle.timing_model.specs.Analysis.{Analysis, IsAnalysis}
use Rattle.merge_model.specs.CarriedDelays.{AreTried, IsCarriedDelay}
use Rattle.merge_model.specs.Excess.{AreListed}
use Rattle.merge_model.specs.KeyLines.{AreKeyLines}
use Rattle.merge_model.specs.MergeRules.{IsMergedWith}
use Rattle.merge_model.specs.NotCarried.{AreLeft}

-- the merge of modes over a design
pub record IsMerge (design : Design) (modes : List Mode) (merged : Merged) : Type 0 where
  pub analysed : List AnalysedMode
  pub under_common : Analysis
  pub under_spared : Analysis
  pub under_carried : Analysis
  pub lines : List Exception
  pub analysis : Analysis
  pub are_analysed : AreAnalysed design modes merged.clocks analysed
  pub tried : AreTried design analysed merged.clocks under_common under_spared under_carried
  pub are_lines : AreKeyLines analysed under_carried lines
  pub mode : IsMergedWith analysed merged.clocks (IsCarriedDelay analysed under_common under_spared) lines merged.mode
  pub is_analysis : IsAnalysis design merged.mode analysis
  pub listed : AreListed analysed analysis merged.listed
  pub left : AreLeft analysed (IsCarriedDelay analysed under_common under_spared) merged.left
