-- What a merged mode times beyond need, and what a merge lists of it. This project's own rule.
-- It reads: a path is in excess on a side where the merged mode times it and no mode requires it, or where its limit
-- there is stricter than its requirement. Each relation of an end with such a path is listed with the least such path.
use Rattle.std.specs.Prelude.{◌↔◌, ℤ, List, Option, Some, None, reverse}
use Rattle.std.specs.List.{Contains}
use Rattle.timing_types.specs.declared.merges.Listed.{Listed}
use Rattle.timing_types.specs.declared.paths.Path.{Path}
use Rattle.pin_types.specs.declared.pins.Side.{Side}
use Rattle.timing_model.specs.AnalysedModes.{AnalysedMode}
use Rattle.timing_model.specs.Analysis.{Analysis}
use Rattle.merge_model.specs.Required.{RequirementIs}
use Rattle.timing_model.specs.Timed.{IsTimed}
use Rattle.constraint_model.specs.ListOrder.{Rises}
use Rattle.timing_model.specs.Winner.{IsStricter}
use Rattle.timing_model.specs.EndRelations.{EndRelation, IsLeastPath, RelationBefore}

-- ---- excess

abbrev pub IsBeyond : Side → ℤ → Option ℤ → Type 0
IsBeyond side limit None = Unit {0}
IsBeyond side limit (Some required) = IsStricter side limit required

-- a path is in excess on a side, with this limit in the merged mode and this requirement
pub record HasExcess (modes : List AnalysedMode) (merged : Analysis) (path : Path) (side : Side) (limit : ℤ) (requirement : Option ℤ) : Type 0 where
  pub timed : IsTimed merged path side limit
  pub required : RequirementIs modes path side requirement
  pub beyond : IsBeyond side limit requirement

abbrev pub IsInExcess : List AnalysedMode → Analysis → Side → Path → Type 0
IsInExcess modes merged side path = (limit : ℤ) × (requirement : Option ℤ) × HasExcess modes merged path side limit requirement

-- ---- the list of a merge

abbrev pub relation_of_listed : Listed → EndRelation
relation_of_listed listed = record {
  end = listed.end;
  launch = listed.launch;
  capture = listed.capture;
  side = listed.side;
}

-- the path of an entry, whose nodes stand from the start to the end
abbrev pub path_of_listed : Listed → Path
path_of_listed listed = record { nodes = reverse listed.path; launch = listed.launch; capture = listed.capture }

-- an entry is one of the list: its path is the least excess path of its relation, with that path's limits
pub record IsListed (modes : List AnalysedMode) (merged : Analysis) (listed : Listed) : Type 0 where
  pub least : IsLeastPath (relation_of_listed listed) (IsInExcess modes merged listed.side) (path_of_listed listed)
  pub excess : HasExcess modes merged (path_of_listed listed) listed.side listed.merged listed.required

-- exactly the relations with a path in excess, by end, launch edge, capture edge and side
pub record AreListed (modes : List AnalysedMode) (merged : Analysis) (listed : List Listed) : Type 0 where
  pub members : (one : Listed) → Contains listed one ↔ IsListed modes merged one
  pub order : Rises (λ (one : Listed) (other : Listed). RelationBefore (relation_of_listed one) (relation_of_listed other)) listed
