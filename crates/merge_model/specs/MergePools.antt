-- The pool of a merge: the arcs alive in the merged mode, its starts, and the exceptions of all modes. This project's
-- own rule.
use Rattle.std.specs.Prelude.{◌≡◌, List, map}
use Rattle.std.specs.List.{flat_map}
use Rattle.timing_types.specs.declared.class_sets.Pool.{Pool}
use Rattle.timing_types.specs.declared.constraints.Exception.{Exception}
use Rattle.timing_model.specs.AnalysedModes.{AnalysedMode, mode_of}
use Rattle.timing_model.specs.Analysis.{Analysis}
use Rattle.timing_model.specs.MappedClocks.{mapped_exception}
use Rattle.timing_model.specs.Pools.{AreStarts, IsOrder}

-- the exceptions of all modes in order, carried or not, with merged clocks
abbrev pub pool_exceptions : List AnalysedMode → List Exception
pool_exceptions modes = flat_map (λ (mode : AnalysedMode). map (mapped_exception mode.numbers) (mode_of mode).exceptions) modes

-- the pool of a merge, by the analysis of the merged mode
pub record IsPoolOfMerge (modes : List AnalysedMode) (merged : Analysis) (pool : Pool) : Type 0 where
  pub graph : pool.graph ≡ merged.graph
  pub order : IsOrder pool.graph pool.alive pool.order
  pub alive : pool.alive ≡ merged.alive
  pub of_modes : pool.modes ≡ map (λ (mode : AnalysedMode). mode.analysis.alive) modes
  pub starts : AreStarts merged pool.starts
  pub exceptions : pool.exceptions ≡ pool_exceptions modes
