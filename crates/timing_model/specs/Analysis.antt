-- The analysis of a mode over a design: the timing graph, the arcs that are alive, where clock edges arrive, and the
-- waveforms of the clocks. It exists where the mode's constants and masters have no fault. This project's own form.
-- A view of a mode over a pool of arcs is seen as one too, so that a path is timed in a view as it is in a mode.
use Rattle.std.specs.Prelude.{◌≡◌, ℕ, Bool, List, Option, Ok, slice_get}
use Rattle.std.specs.Option.{unwrap_or}
use Rattle.timing_types.specs.declared.analyses.Constants.{Constants}
use Rattle.timing_types.specs.declared.class_sets.Pool.{Pool}
use Rattle.timing_types.specs.declared.clocks.Wave.{Wave}
use Rattle.timing_types.specs.declared.designs.Design.{Design}
use Rattle.timing_types.specs.declared.graphs.Arc.{Arc}
use Rattle.timing_types.specs.declared.graphs.Graph.{Graph}
use Rattle.timing_types.specs.declared.modes.Mode.{Mode}
use Rattle.timing_types.specs.declared.views.Arrivals.{Arrivals}
use Rattle.timing_types.specs.declared.views.View.{View}
use Rattle.timing_model.specs.AliveArcs.{AreAlive, HasAliveArc}
use Rattle.timing_model.specs.Arrival.{IsArrivals}
use Rattle.timing_model.specs.ConstantValues.{ConstantsAre}
use Rattle.timing_model.specs.GeneratedWaves.{waves_of}
use Rattle.timing_model.specs.TimingGraph.{IsGraphOf}

-- what paths are timed in
pub record Analysis : Type 0 where
  pub design : Design
  pub graph : Graph
  pub mode : Mode
  pub alive : List Bool
  pub arrivals : Arrivals
  pub waves : List Wave

-- the arcs that are alive
abbrev pub Alive : Analysis → Arc → Type 0
Alive analysis = HasAliveArc analysis.graph analysis.alive

-- an analysis is that of a mode over a design
pub record IsAnalysis (design : Design) (mode : Mode) (analysis : Analysis) : Type 0 where
  pub constants : Constants
  pub masters : List (Option ℕ)
  pub of_design : analysis.design ≡ design
  pub of_mode : analysis.mode ≡ mode
  pub graph : IsGraphOf design analysis.graph
  pub are_constants : ConstantsAre design mode (Ok constants)
  pub alive : AreAlive design mode constants.values analysis.graph analysis.alive
  pub arrivals : IsArrivals analysis.graph analysis.alive mode.clocks analysis.arrivals
  pub waves : waves_of mode analysis.arrivals ≡ Ok (record { waves = analysis.waves; masters = masters })

-- a view of a mode over a design, on the arcs of a pool that are alive in the mode of its place, and on those alive in
-- the run where the pool has no such mode
abbrev pub alive_in : Pool → ℕ → List Bool
alive_in pool place = unwrap_or (slice_get pool.modes place) pool.alive

abbrev pub analysis_of_view : Design → Pool → ℕ → View → Analysis
analysis_of_view design pool place view = record {
  design = design;
  graph = pool.graph;
  mode = view.mode;
  alive = alive_in pool place;
  arrivals = view.arrivals;
  waves = view.waves;
}
