-- Modes with their analyses and with the merged clocks that their clocks are. This project's own form.
use Rattle.std.specs.Prelude.{ℕ, List, map}
use Rattle.std.specs.List.{Contains}
use Rattle.timing_types.specs.declared.modes.Mode.{Mode}
use Rattle.timing_types.specs.declared.views.View.{View}
use Rattle.timing_model.specs.Analysis.{Analysis}

-- a mode of a merge
pub record AnalysedMode : Type 0 where
  pub analysis : Analysis
  pub numbers : List ℕ

abbrev pub mode_of : AnalysedMode → Mode
mode_of analysed = analysed.analysis.mode

abbrev pub view_of_mode : AnalysedMode → View
view_of_mode analysed = record {
  mode = analysed.analysis.mode;
  waves = analysed.analysis.waves;
  arrivals = analysed.analysis.arrivals;
  clock_map = analysed.numbers;
}

abbrev pub views_of_modes : List AnalysedMode → List View
views_of_modes = map view_of_mode

-- a property of every mode; of some mode
abbrev pub InEveryMode : List AnalysedMode → (AnalysedMode → Type 0) → Type 0
InEveryMode modes Has = (mode : AnalysedMode) → Contains modes mode → Has mode

abbrev pub InSomeMode : List AnalysedMode → (AnalysedMode → Type 0) → Type 0
InSomeMode modes Has = (mode : AnalysedMode) × Contains modes mode × Has mode
