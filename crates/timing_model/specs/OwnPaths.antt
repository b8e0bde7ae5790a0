-- Paths of one mode under merged clocks. This project's own rule.
-- It reads: a mode has a path of merged clocks where it has the same nodes under clock edges that are the path's, and
-- requires it on a side where it times that path of its own, with its limit.
use Rattle.std.specs.Prelude.{◌≡◌, ℕ, ℤ, List}
use Rattle.timing_types.specs.declared.paths.Path.{Path}
use Rattle.pin_types.specs.declared.pins.Side.{Side}
use Rattle.timing_model.specs.AnalysedModes.{AnalysedMode}
use Rattle.timing_model.specs.MappedClocks.{IsMappedEdge}
use Rattle.timing_model.specs.Timed.{IsTimed}

-- a path with a mode's clocks is this one with merged clocks: the same nodes, under clock edges that are its own
pub record IsOwnPath (numbers : List ℕ) (own path : Path) : Type 0 where
  pub nodes : own.nodes ≡ path.nodes
  pub launch : IsMappedEdge numbers own.launch path.launch
  pub capture : IsMappedEdge numbers own.capture path.capture

-- a mode requires a path with merged clocks on a side, with this limit
pub record IsRequiredBy (mode : AnalysedMode) (path : Path) (side : Side) (limit : ℤ) : Type 0 where
  pub own : Path
  pub is_own : IsOwnPath mode.numbers own path
  pub timed : IsTimed mode.analysis own side limit
