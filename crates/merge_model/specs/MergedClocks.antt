-- The modes of a merge as they are analysed over a design, with their clock map. This project's own form.
use Rattle.std.specs.Prelude.{◌≡◌, List, map}
use Rattle.std.specs.List.{AllZip}
use Rattle.timing_types.specs.declared.designs.Design.{Design}
use Rattle.timing_types.specs.declared.modes.Mode.{Mode}
use Rattle.timing_types.specs.declared.views.ClockMap.{ClockMap}
use Rattle.timing_model.specs.Analysis.{IsAnalysis}
use Rattle.merge_model.specs.ClockIdentity.{IsClockMap}
use Rattle.timing_model.specs.AnalysedModes.{AnalysedMode, views_of_modes}

-- these are the analysed forms of modes over a design, and this is their clock map
pub record AreAnalysed (design : Design) (modes : List Mode) (clocks : ClockMap) (analysed : List AnalysedMode) : Type 0 where
  pub each : AllZip (λ (mode : Mode) (one : AnalysedMode). IsAnalysis design mode one.analysis) modes analysed
  pub identity : IsClockMap (views_of_modes analysed) clocks
  pub numbers : map (λ (one : AnalysedMode). one.numbers) analysed ≡ clocks.maps
