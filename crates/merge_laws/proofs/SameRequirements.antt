-- Requirements speak of modes by membership alone.
use Rattle.std.proofs.Common.{List}
use Rattle.std.specs.Prelude.{ℤ, Option, Some, None}
use Rattle.std.specs.List.{Contains}
use Rattle.timing_types.specs.declared.paths.Path.{Path}
use Rattle.pin_types.specs.declared.pins.Side.{Side}
use Rattle.timing_model.specs.AnalysedModes.{AnalysedMode}
use Rattle.merge_model.specs.Required.{IsRequired, RequirementIs}

abbrev Within : List AnalysedMode → List AnalysedMode → Type 0
Within modes others = (mode : AnalysedMode) → Contains modes mode → Contains others mode

-- what some of these modes requires, some of more modes do
required_within : (modes others : List AnalysedMode) (path : Path) (side : Side) (limit : ℤ) → Within modes others
    → IsRequired modes path side limit → IsRequired others path side limit
required_within modes others path side limit within required = (required.0, within required.0 required.1, required.2)

pub same_requirement : (modes others : List AnalysedMode) (path : Path) (side : Side) (requirement : Option ℤ)
    → Within modes others → Within others modes → RequirementIs modes path side requirement → RequirementIs others path side requirement
same_requirement modes others path side (Some limit) within without is = (
  required_within modes others path side limit within is.0,
  λ other required. is.1 other (required_within others modes path side other without required),
)
same_requirement modes others path side None within without is =
    λ limit required. is limit (required_within others modes path side limit without required)
