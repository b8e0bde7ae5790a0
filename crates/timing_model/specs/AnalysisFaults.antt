-- Why a mode has no analysis, and when its classes are too many. This project's own rule.
-- It reads: the first fault of a mode is that of its constants, and else that of its masters and waves.
use Rattle.std.specs.Prelude.{◌≡◌, ◌<◌, ◌⊎◌, ℕ, Bool, List, Ok, Err}
use Rattle.sdc_base.specs.declared.memory.At.{At}
use Rattle.timing_types.specs.declared.analyses.Constants.{Constants}
use Rattle.timing_types.specs.declared.class_sets.Pool.{Pool}
use Rattle.timing_types.specs.declared.designs.Design.{Design}
use Rattle.pin_types.specs.declared.mode_faults.ModeKind.{ModeKind}
use Rattle.timing_types.specs.declared.graphs.Graph.{Graph}
use Rattle.timing_types.specs.declared.modes.Mode.{Mode}
use Rattle.timing_types.specs.declared.views.Arrivals.{Arrivals}
use Rattle.timing_model.specs.AliveArcs.{AreAlive}
use Rattle.timing_model.specs.Analysis.{Analysis, IsAnalysis}
use Rattle.timing_model.specs.Arrival.{IsArrivals}
use Rattle.timing_model.specs.Classes.{ClassCountIs}
use Rattle.timing_model.specs.ConstantValues.{ConstantsAre}
use Rattle.timing_model.specs.GeneratedWaves.{waves_of}
use Rattle.timing_model.specs.TimingGraph.{IsGraphOf}

-- the constants of a mode have no fault, and its masters and waves have this one
pub record IsWaveFault (design : Design) (mode : Mode) (fault : At ModeKind) : Type 0 where
  pub constants : Constants
  pub graph : Graph
  pub alive : List Bool
  pub arrivals : Arrivals
  pub are_constants : ConstantsAre design mode (Ok constants)
  pub is_graph : IsGraphOf design graph
  pub are_alive : AreAlive design mode constants.values graph alive
  pub are_arrivals : IsArrivals graph alive mode.clocks arrivals
  pub is : waves_of mode arrivals ≡ Err fault

-- the first fault of a mode's analysis: of the constants, and else of the masters and waves
abbrev pub IsAnalysisFault : Design → Mode → At ModeKind → Type 0
IsAnalysisFault design mode fault = ConstantsAre design mode (Err fault) ⊎ IsWaveFault design mode fault

abbrev pub HasAnalysis : Design → Mode → Type 0
HasAnalysis design mode = (analysis : Analysis) × IsAnalysis design mode analysis

-- a pool has more classes than a budget
abbrev pub HasMoreClasses : Pool → ℕ → Type 0
HasMoreClasses pool budget = (count : ℕ) × ClassCountIs pool count × (budget < count)
