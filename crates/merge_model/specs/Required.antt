-- What the modes of a merge ask of a path with merged clocks. This project's own rule.
-- It reads: the requirement of a path is the strictest of the limits of the modes that require it; a path that no mode
-- times has none.
use Rattle.std.specs.Prelude.{ℤ, List, Option}
use Rattle.timing_types.specs.declared.paths.Path.{Path}
use Rattle.pin_types.specs.declared.pins.Side.{Side}
use Rattle.timing_model.specs.AnalysedModes.{AnalysedMode, InSomeMode}
use Rattle.timing_model.specs.Strictest.{IsStrictest}
use Rattle.timing_model.specs.OwnPaths.{IsRequiredBy}

-- ---- requirements

abbrev pub IsRequired : List AnalysedMode → Path → Side → ℤ → Type 0
IsRequired modes path side limit = InSomeMode modes (λ mode. IsRequiredBy mode path side limit)

-- the requirement of a path on a side, or that it has none
abbrev pub RequirementIs : List AnalysedMode → Path → Side → Option ℤ → Type 0
RequirementIs modes path side requirement = IsStrictest side (IsRequired modes path side) requirement
