-- What the modes require of a key, and which keys are in need of a line in a merge. This project's own rule.
-- It reads: a key's requirement is the strictest of its paths'. A key is in need where one of its paths is limited
-- looser than its own requirement, or required and not timed, or limited more strictly than the key's requirement, or
-- timed while the key has none.
use Rattle.std.specs.Prelude.{◌≢◌, ◌⊎◌, ℤ, List, Option, Some, None}
use Rattle.timing_types.specs.declared.paths.Path.{Path}
use Rattle.pin_types.specs.declared.pins.Side.{Side}
use Rattle.timing_model.specs.AnalysedModes.{AnalysedMode}
use Rattle.timing_model.specs.Analysis.{Analysis}
use Rattle.timing_model.specs.Strictest.{IsStrictest}
use Rattle.merge_model.specs.Required.{RequirementIs}
use Rattle.timing_model.specs.Timed.{IsTimed}
use Rattle.timing_model.specs.Winner.{IsStricter}
use Rattle.timing_model.specs.Keys.{IsPathOfKey, Key}

-- a limit is the requirement of some path of a key
abbrev pub IsRequiredOfKey : List AnalysedMode → Analysis → Key → ℤ → Type 0
IsRequiredOfKey modes merged key limit =
    (path : Path) × IsPathOfKey merged key path × RequirementIs modes path key.side (Some limit)

-- the strictest requirement of a key's paths, or that none has one
abbrev pub KeyRequirementIs : List AnalysedMode → Analysis → Key → Option ℤ → Type 0
KeyRequirementIs modes merged key requirement = IsStrictest key.side (IsRequiredOfKey modes merged key) requirement

-- two paths of a key have different requirements, to have none counting as one
pub record IsMixed (modes : List AnalysedMode) (merged : Analysis) (key : Key) : Type 0 where
  pub path : Path
  pub other : Path
  pub requirement : Option ℤ
  pub other_requirement : Option ℤ
  pub is_path : IsPathOfKey merged key path
  pub is_other : IsPathOfKey merged key other
  pub of_path : RequirementIs modes path key.side requirement
  pub of_other : RequirementIs modes other key.side other_requirement
  pub differ : requirement ≢ other_requirement

-- a path is limited looser than its own requirement
abbrev pub IsTooLoose : List AnalysedMode → Analysis → Side → Path → Type 0
IsTooLoose modes merged side path =
    (limit : ℤ) × (required : ℤ) × IsTimed merged path side limit × RequirementIs modes path side (Some required)
    × IsStricter side required limit

-- a path is required and not timed
abbrev pub IsMissed : List AnalysedMode → Analysis → Side → Path → Type 0
IsMissed modes merged side path =
    ((required : ℤ) × RequirementIs modes path side (Some required)) × ((limit : ℤ) → IsTimed merged path side limit → ⊥)

-- a path is limited more strictly than the requirement of its key
abbrev pub IsTooStrict : List AnalysedMode → Analysis → Key → Path → Type 0
IsTooStrict modes merged key path =
    (limit : ℤ) × (required : ℤ) × IsTimed merged path key.side limit × KeyRequirementIs modes merged key (Some required)
    × IsStricter key.side limit required

-- a path is timed, and its key has no requirement
abbrev pub IsNeedless : List AnalysedMode → Analysis → Key → Path → Type 0
IsNeedless modes merged key path =
    ((limit : ℤ) × IsTimed merged path key.side limit) × KeyRequirementIs modes merged key None

-- a key is in need in a merged analysis: by one of its paths
abbrev pub IsInNeed : List AnalysedMode → Analysis → Key → Type 0
IsInNeed modes merged key =
    (path : Path) × IsPathOfKey merged key path
    × (IsTooLoose modes merged key.side path ⊎ (IsMissed modes merged key.side path
    ⊎ (IsTooStrict modes merged key path ⊎ IsNeedless modes merged key path)))
