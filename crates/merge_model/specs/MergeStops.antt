-- Why modes cannot be merged. This project's own rule.
-- It reads: a refusal comes where its cause stands and none before it does: the first mode without an analysis, then a
-- conflict of modes, then a loop, then that there are too many classes.
use Rattle.std.specs.Prelude.{◌≡◌, ◌<◌, ℕ, List, [], map, Some, slice_get}
use Rattle.std.specs.List.{AllZip}
use Rattle.sdc_base.specs.declared.memory.At.{At}
use Rattle.timing_types.specs.declared.class_sets.Pool.{Pool}
use Rattle.timing_types.specs.declared.designs.Design.{Design}
use Rattle.pin_types.specs.declared.mode_faults.ModeKind.{ModeKind}
use Rattle.timing_types.specs.declared.merges.MergeStop.{MergeStop}
use Rattle.timing_types.specs.declared.modes.Mode.{Mode}
use Rattle.timing_types.specs.declared.views.ClockMap.{ClockMap}
use Rattle.timing_model.specs.AnalysedModes.{AnalysedMode}
use Rattle.merge_model.specs.MergedClocks.{AreAnalysed}
use Rattle.timing_model.specs.Analysis.{Analysis, Alive, IsAnalysis}
use Rattle.timing_model.specs.Loops.{HasNoConflict, HasNoLoop, IsAnsweredConflict, IsAnsweredLoop}
use Rattle.merge_model.specs.MergeRules.{IsMergedAnalysis}
use Rattle.merge_model.specs.MergePools.{IsPoolOfMerge}
use Rattle.timing_model.specs.AnalysisFaults.{HasAnalysis, HasMoreClasses, IsAnalysisFault}
use Rattle.timing_types.specs.declared.merges.MergeStop.TheVariants as merge_stop

-- the mode of this place is the first one without an analysis, for this fault
pub record IsFirstFault (design : Design) (modes : List Mode) (place : ℕ) (fault : At ModeKind) : Type 0 where
  pub mode : Mode
  pub is : slice_get modes place ≡ Some mode
  pub has_fault : IsAnalysisFault design mode fault
  pub first : (before : ℕ) (other : Mode) → before < place → slice_get modes before ≡ Some other → HasAnalysis design other

-- modes have analyses and no conflict. Which exceptions the merged mode has changes neither its arcs nor its starts, so
-- its analysis is taken without delays and without key lines
pub record AreCompatible (design : Design) (modes : List Mode) (analysed : List AnalysedMode) (merged : Analysis) : Type 0 where
  pub clocks : ClockMap
  pub are_analysed : AreAnalysed design modes clocks analysed
  pub no_conflict : HasNoConflict (map (λ (one : AnalysedMode). one.analysis) analysed)
  pub is_merged : IsMergedAnalysis design analysed clocks (λ exception. ⊥) [] merged

-- the pool of a merge, whose arcs have no loop, has more classes than a budget
pub record MergePassesBudget (design : Design) (modes : List Mode) (budget : ℕ) : Type 0 where
  pub analysed : List AnalysedMode
  pub merged : Analysis
  pub pool : Pool
  pub compatible : AreCompatible design modes analysed merged
  pub no_loop : HasNoLoop (Alive merged)
  pub is_pool : IsPoolOfMerge analysed merged pool
  pub more : HasMoreClasses pool budget

-- modes cannot be merged within a budget
abbrev pub IsMergeStop : Design → List Mode → ℕ → MergeStop → Type 0
IsMergeStop design modes budget (merge_stop.Mode place fault) = IsFirstFault design modes place fault
IsMergeStop design modes budget (merge_stop.Conflict pin source_mode passing_mode) =
    (analyses : List Analysis) × AllZip (IsAnalysis design) modes analyses
    × IsAnsweredConflict analyses pin.0 source_mode passing_mode
IsMergeStop design modes budget (merge_stop.Loop cycle) =
    (analysed : List AnalysedMode) × (merged : Analysis) × AreCompatible design modes analysed merged
    × IsAnsweredLoop (Alive merged) cycle
IsMergeStop design modes budget (merge_stop.Budget classes) = (classes ≡ budget) × MergePassesBudget design modes budget
