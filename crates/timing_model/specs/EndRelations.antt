-- Relations of ends: the pin where paths end, their launch and capture edges, and a side. This project's own form.
-- It reads: relations stand by end, launch edge, capture edge, setup before hold; of several paths of a relation the
-- least is the one whose nodes, read from the end, are least.
use Rattle.std.specs.Prelude.{◌≡◌, ℕ, true, List, [], ◌∷◌, Some}
use Rattle.std.specs.Ordering.{nat_cmp, is_lt}
use Rattle.std.specs.Cmp.Lexicographic.{slice_cmp}
use Rattle.timing_types.specs.declared.paths.Path.{Path}
use Rattle.pin_types.specs.declared.pins.ClockEdge.{ClockEdge}
use Rattle.pin_types.specs.declared.pins.Pin.{Pin}
use Rattle.pin_types.specs.declared.pins.Side.{Side}
use Rattle.pin_types.specs.Nodes.{side_number, IsAtMost, edge_number}
use Rattle.timing_model.specs.TimingPath.{Ends, ends_of_path}

-- a relation of an end: the pin where paths end, their clock edges, and a side
pub record EndRelation : Type 0 where
  pub end : Pin
  pub launch : ClockEdge
  pub capture : ClockEdge
  pub side : Side

abbrev pub relation_of : Ends → Side → EndRelation
relation_of ends side = record { end = ends.last.pin; launch = ends.launch; capture = ends.capture; side = side }

-- a path is one of a relation
abbrev pub IsOfRelation : EndRelation → Path → Type 0
IsOfRelation relation path = (ends : Ends) × (ends_of_path path ≡ Some ends) × (relation_of ends relation.side ≡ relation)

abbrev pub relation_numbers : EndRelation → List ℕ
relation_numbers relation =
    relation.end.0 ∷ relation.launch.clock ∷ edge_number relation.launch.edge
    ∷ relation.capture.clock ∷ edge_number relation.capture.edge ∷ side_number relation.side ∷ []

-- by end, launch edge, capture edge, setup before hold
abbrev pub RelationBefore : EndRelation → EndRelation → Type 0
RelationBefore relation other = is_lt (slice_cmp nat_cmp (relation_numbers relation) (relation_numbers other)) ≡ true

-- the path of a relation with a property whose nodes, read from the end, are least
pub record IsLeastPath (relation : EndRelation) (Is : Path → Type 0) (path : Path) : Type 0 where
  pub of_relation : IsOfRelation relation path
  pub is : Is path
  pub least : (other : Path) → IsOfRelation relation other → Is other → IsAtMost path.nodes other.nodes
