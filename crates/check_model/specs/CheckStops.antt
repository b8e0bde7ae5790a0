-- Why a mode cannot be checked, and an endpoint not explained. This project's own rule.
-- It reads: a refusal comes where its cause stands and none before it does. First stands the fault of the analysis,
-- then that a name is no endpoint, then a loop, then that there are too many classes.
use Rattle.std.specs.Prelude.{◌≡◌, ℕ, List}
use Rattle.timing_types.specs.declared.class_sets.Pool.{Pool}
use Rattle.timing_types.specs.declared.designs.Design.{Design}
use Rattle.timing_types.specs.declared.modes.Mode.{Mode}
use Rattle.pin_types.specs.declared.pins.Pin.{Pin}
use Rattle.timing_types.specs.declared.reports.CheckStop.{CheckStop}
use Rattle.timing_types.specs.declared.reports.ExplainStop.{ExplainStop}
use Rattle.timing_model.specs.Analysis.{Analysis, Alive, IsAnalysis}
use Rattle.check_model.specs.Explained.{IsEndNamed}
use Rattle.timing_model.specs.Loops.{HasNoLoop, IsAnsweredLoop}
use Rattle.timing_model.specs.Pools.{IsPoolOfMode}
use Rattle.timing_model.specs.AnalysisFaults.{HasMoreClasses, IsAnalysisFault}
use Rattle.timing_types.specs.declared.reports.CheckStop.TheVariants as check_stop
use Rattle.timing_types.specs.declared.reports.ExplainStop.TheVariants as explain_stop

-- the pool of a mode, whose arcs have no loop, has more classes than a budget
pub record PassesBudget (design : Design) (mode : Mode) (budget : ℕ) : Type 0 where
  pub analysis : Analysis
  pub pool : Pool
  pub is_analysis : IsAnalysis design mode analysis
  pub no_loop : HasNoLoop (Alive analysis)
  pub is_pool : IsPoolOfMode analysis pool
  pub more : HasMoreClasses pool budget

-- a mode cannot be checked within a budget
abbrev pub IsCheckStop : Design → Mode → ℕ → CheckStop → Type 0
IsCheckStop design mode budget (check_stop.Mode fault) = IsAnalysisFault design mode fault
IsCheckStop design mode budget (check_stop.Loop cycle) =
    (analysis : Analysis) × IsAnalysis design mode analysis × IsAnsweredLoop (Alive analysis) cycle
IsCheckStop design mode budget (check_stop.Budget classes) = (classes ≡ budget) × PassesBudget design mode budget

-- a name is that of an endpoint in a mode's analysis
abbrev pub NamesEnd : Analysis → List ℕ → Type 0
NamesEnd analysis name = (pin : Pin) × IsEndNamed analysis.design analysis.graph name pin

-- a name that is no endpoint stands before all but a fault of the analysis
abbrev pub StandsAfterName : Type 0 → CheckStop → Type 0
StandsAfterName Named (check_stop.Mode fault) = Unit {0}
StandsAfterName Named (check_stop.Loop cycle) = Named
StandsAfterName Named (check_stop.Budget classes) = Named

-- the endpoint of a name cannot be explained within a budget
abbrev pub IsExplainStop : Design → Mode → List ℕ → ℕ → ExplainStop → Type 0
IsExplainStop design mode name budget explain_stop.NoEndpoint =
    (analysis : Analysis) × IsAnalysis design mode analysis × (NamesEnd analysis name → ⊥)
IsExplainStop design mode name budget (explain_stop.Check stop) =
    StandsAfterName ((analysis : Analysis) × IsAnalysis design mode analysis × NamesEnd analysis name) stop
    × IsCheckStop design mode budget stop
