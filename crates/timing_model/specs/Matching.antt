-- Which paths an exception matches (SDC 2.1, `set_false_path` and the like). That through lists are met at strictly
-- later nodes, in order, is this project's own rule.
-- It reads: the exception is of the side, its ends are the path's, and there are rising places on the whole path, one
-- for each through list, each with a node of the list. The first and the last node of the path count.
use Rattle.std.specs.Prelude.{◌≡◌, ◌<◌, ◌↔◌, ℕ, true, List, Option, Some, None, slice_get, reverse, length}
use Rattle.std.specs.List.{Contains, AllZip}
use Rattle.timing_types.specs.declared.constraints.Exception.{Exception}
use Rattle.timing_types.specs.declared.constraints.Points.{Points}
use Rattle.timing_types.specs.declared.constraints.Points.TheVariants as points
use Rattle.timing_types.specs.declared.constraints.Through.{Through}
use Rattle.timing_types.specs.declared.paths.Path.{Path}
use Rattle.timing_types.specs.declared.paths.PathFacts.{PathFacts}
use Rattle.pin_types.specs.declared.pins.ClockEdge.{ClockEdge}
use Rattle.pin_types.specs.declared.pins.Edge.{Edge}
use Rattle.pin_types.specs.declared.pins.Node.{Node}
use Rattle.pin_types.specs.declared.pins.Side.{Side}
use Rattle.timing_model.specs.TimingPath.{Ends, ends_of_path}

-- the edge that is given, if any, is this one
abbrev pub EdgeFits : Option Edge → Edge → Type 0
EdgeFits None edge = Unit {0}
EdgeFits (Some given) edge = given ≡ edge

-- the points of an end hold of its node or of its clock edge
abbrev pub PointsFit : Option Points → Node → ClockEdge → Type 0
PointsFit None node clock_edge = Unit {0}
PointsFit (Some (points.Pins edge pins)) node clock_edge = Contains pins node.pin × EdgeFits edge node.edge
PointsFit (Some (points.Clocks edge clocks)) node clock_edge = Contains clocks clock_edge.clock × EdgeFits edge clock_edge.edge

-- an exception's side is this one, and its ends are these
pub record EndsFit (exception : Exception) (side : Side) (ends : Ends) : Type 0 where
  pub is_side : exception.side ≡ side
  pub from : PointsFit exception.from ends.start ends.launch
  pub to : PointsFit exception.to ends.last ends.capture
  pub last : EdgeFits exception.last ends.last.edge

-- ---- through lists

-- a node is one of a through list
abbrev pub IsIn : Through → Node → Type 0
IsIn list node = Contains list.pins node.pin × EdgeFits list.edge node.edge

-- the node at a place of a path whose nodes stand with the last one first: the first node has place 0
abbrev pub HasNodeAt : List Node → ℕ → Node → Type 0
HasNodeAt nodes place node = slice_get (reverse nodes) place ≡ Some node

abbrev pub AreRising : List ℕ → Type 0
AreRising places = (i j p q : ℕ) → i < j → slice_get places i ≡ Some p → slice_get places j ≡ Some q → p < q

-- rising places on a path, one for each list in order, each with a node of the list
pub record AreMet (lists : List Through) (nodes : List Node) : Type 0 where
  pub places : List ℕ
  pub rising : AreRising places
  pub each : AllZip (λ list place. (node : Node) × HasNodeAt nodes place node × IsIn list node) lists places

-- ---- matching

-- an exception matches a path on a side
pub record Matches (exception : Exception) (side : Side) (path : Path) : Type 0 where
  pub ends : Ends
  pub are_ends : ends_of_path path ≡ Some ends
  pub fit : EndsFit exception side ends
  pub met : AreMet exception.through path.nodes

-- which exceptions of a list, by their places, match a path on a side
abbrev pub MatchesAt : List Exception → Path → Side → ℕ → Type 0
MatchesAt exceptions path side place =
    (exception : Exception) × (slice_get exceptions place ≡ Some exception) × Matches exception side path

-- the same by the facts of a path: its ends, and which exceptions' lists it meets
abbrev pub ends_of_facts : PathFacts → Ends
ends_of_facts facts = record { start = facts.start; last = facts.last; launch = facts.launch; capture = facts.capture }

abbrev pub FactsMatchAt : List Exception → PathFacts → Side → ℕ → Type 0
FactsMatchAt exceptions facts side place =
    (exception : Exception) × (slice_get exceptions place ≡ Some exception) × EndsFit exception side (ends_of_facts facts)
    × (slice_get facts.met place ≡ Some true)

-- facts are those of a path over these exceptions
pub record AreFactsOf (exceptions : List Exception) (path : Path) (facts : PathFacts) : Type 0 where
  pub ends : ends_of_path path ≡ Some (ends_of_facts facts)
  pub one_each : length facts.met ≡ length exceptions
  pub met : (place : ℕ) (exception : Exception) → slice_get exceptions place ≡ Some exception
      → (slice_get facts.met place ≡ Some true) ↔ AreMet exception.through path.nodes
