-- The limits at an endpoint of a mode, explained. This project's own rule.
-- It reads: each relation of the endpoint with a candidate path has the strictest limit of its timed paths, the least
-- path that has it, and the line of that path's winner or 0. Where none is timed there is no limit, and the least
-- candidate.
use Rattle.std.specs.Prelude.{◌≡◌, ◌↔◌, ℕ, ℤ, List, Option, Some, None, reverse, slice_get}
use Rattle.std.specs.List.{Contains}
use Rattle.std.specs.Option.{option_map}
use Rattle.timing_types.specs.declared.constraints.Exception.{Exception}
use Rattle.timing_types.specs.declared.designs.Design.{Design}
use Rattle.timing_types.specs.declared.graphs.Graph.{Graph}
use Rattle.timing_types.specs.declared.paths.Path.{Path}
use Rattle.pin_types.specs.declared.pins.Pin.{Pin}
use Rattle.pin_types.specs.declared.pins.Side.{Side}
use Rattle.timing_types.specs.declared.reports.Explained.{Explained}
use Rattle.timing_types.specs.declared.reports.RelationReport.{RelationReport}
use Rattle.timing_model.specs.Analysis.{Analysis}
use Rattle.timing_model.specs.EndRelations.{EndRelation, IsLeastPath, IsOfRelation, RelationBefore}
use Rattle.timing_model.specs.WinnerOnPath.{HasWinner}
use Rattle.timing_model.specs.Strictest.{IsStrictest}
use Rattle.timing_model.specs.Timed.{IsCandidate, IsTimed}
use Rattle.timing_model.specs.TimingPath.{IsEnd}
use Rattle.constraint_model.specs.ListOrder.{Rises}

-- ---- endpoints

-- a name is that of a pin where paths end: a checked pin or an output port
pub record IsEndNamed (design : Design) (graph : Graph) (name : List ℕ) (pin : Pin) : Type 0 where
  pub named : option_map (λ info. info.name) (slice_get design.pins pin.0) ≡ Some name
  pub end : IsEnd design graph pin

-- ---- lines

-- the line of a winner, 0 without one
abbrev pub IsLineOf : List Exception → Option ℕ → ℕ → Type 0
IsLineOf exceptions None line = line ≡ 0
IsLineOf exceptions (Some place) line =
    (exception : Exception) × (slice_get exceptions place ≡ Some exception) × (exception.line ≡ line)

abbrev pub HasLine : Analysis → Side → Path → ℕ → Type 0
HasLine analysis side path line =
    (winner : Option ℕ) × HasWinner analysis path side winner × IsLineOf analysis.mode.exceptions winner line

-- ---- relations

-- some path of a relation is timed with this limit
abbrev pub IsLimitOf : Analysis → EndRelation → ℤ → Type 0
IsLimitOf analysis relation limit =
    (path : Path) × IsOfRelation relation path × IsTimed analysis path relation.side limit

-- what a relation shows a path of: one with its limit, or a candidate where it has none
abbrev pub Shows : Analysis → Side → Option ℤ → Path → Type 0
Shows analysis side (Some limit) path = IsTimed analysis path side limit
Shows analysis side None path = IsCandidate analysis path side

abbrev pub relation_of_report : Pin → RelationReport → EndRelation
relation_of_report end report = record {
  end = end;
  launch = report.launch;
  capture = report.capture;
  side = report.side;
}

-- the path of a report, whose nodes stand from the start to the end
abbrev pub path_of_report : RelationReport → Path
path_of_report report = record { nodes = reverse report.path; launch = report.launch; capture = report.capture }

-- a report is that of a relation of an endpoint
pub record IsRelationReport (analysis : Analysis) (end : Pin) (report : RelationReport) : Type 0 where
  pub strictest : IsStrictest report.side (IsLimitOf analysis (relation_of_report end report)) report.limit
  pub shown : IsLeastPath (relation_of_report end report) (Shows analysis report.side report.limit) (path_of_report report)
  pub line : HasLine analysis report.side (path_of_report report) report.line

-- an endpoint is explained: each relation with a candidate path, by launch edge, capture edge and side
pub record IsExplained (analysis : Analysis) (explained : Explained) : Type 0 where
  pub members : (report : RelationReport) → Contains explained.relations report ↔ IsRelationReport analysis explained.end report
  pub order : Rises (λ (report : RelationReport) (other : RelationReport).
      RelationBefore (relation_of_report explained.end report) (relation_of_report explained.end other)) explained.relations
