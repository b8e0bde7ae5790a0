-- The exception that wins on a path of an analysis. This project's own rule of precedence, over the path's periods.
use Rattle.std.specs.Prelude.{◌≡◌, ℕ, Option, Some, slice_get}
use Rattle.timing_types.specs.declared.clocks.Wave.{Wave}
use Rattle.timing_types.specs.declared.paths.Path.{Path}
use Rattle.pin_types.specs.declared.pins.Side.{Side}
use Rattle.timing_model.specs.Analysis.{Analysis}
use Rattle.timing_model.specs.Matching.{MatchesAt}
use Rattle.timing_model.specs.Winner.{WinnerIs}

-- the winner on a path and a side, by the periods of the path's clocks
pub record HasWinner (analysis : Analysis) (path : Path) (side : Side) (winner : Option ℕ) : Type 0 where
  pub launch : Wave
  pub capture : Wave
  pub is_launch : slice_get analysis.waves path.launch.clock ≡ Some launch
  pub is_capture : slice_get analysis.waves path.capture.clock ≡ Some capture
  pub wins : WinnerIs analysis.mode.exceptions (MatchesAt analysis.mode.exceptions path side) side
      (record { launch = launch.period; capture = capture.period }) winner
