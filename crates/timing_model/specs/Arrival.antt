-- Where clock edges arrive in a timing graph. This project's own rule: a clock edge starts at the pins that its clock
-- is defined at, goes along arcs that launch nothing, and stops before every pin that any clock is defined at.
-- Walks are lists of nodes, the last node first. The arcs are given as a predicate: all arcs of a graph, or its alive
-- ones.
use Rattle.std.specs.Prelude.{◌≡◌, ◌*◌, ◌<◌, ◌⊎◌, ◌↔◌, ℕ, Bool, List, [], ◌∷◌, length, Some, slice_get, ◌-◌}
use Rattle.std.specs.List.{Contains}
use Rattle.timing_types.specs.declared.clocks.Clock.{Clock}
use Rattle.timing_types.specs.declared.graphs.Arc.{Arc}
use Rattle.timing_types.specs.declared.graphs.ArcKind.TheVariants.{Net, Cell, Launch}
use Rattle.timing_types.specs.declared.graphs.Graph.{Graph}
use Rattle.pin_types.specs.declared.pins.ClockEdge.{ClockEdge}
use Rattle.pin_types.specs.declared.pins.Edge.{Edge}
use Rattle.pin_types.specs.declared.pins.Node.{Node}
use Rattle.pin_types.specs.declared.pins.Pin.{Pin}
use Rattle.timing_types.specs.declared.views.Arrivals.{Arrivals}
use Rattle.timing_model.specs.AliveArcs.{HasAliveArc}
use Rattle.pin_types.specs.Nodes.{node_number, EdgeStandsBefore}
use Rattle.timing_model.specs.TimingGraph.{arc_of}
use Rattle.std.specs.Option.{unwrap_or}

-- the clock edges that arrive at a node
abbrev pub edges_at : Arrivals → ℕ → List ClockEdge
edges_at arrivals node = unwrap_or (slice_get arrivals.at node) []

-- an arc that launches; one that does not
abbrev pub Launches : (Arc → Type 0) → Node → Node → Type 0
Launches Has from to = Has (arc_of from to Launch)

abbrev pub GoesOn : (Arc → Type 0) → Node → Node → Type 0
GoesOn Has from to = Has (arc_of from to Net) ⊎ Has (arc_of from to Cell)

-- the clock at a place is defined at a pin; some clock is
abbrev pub IsSourceOf : List Clock → ℕ → Pin → Type 0
IsSourceOf clocks place pin = (clock : Clock) × (slice_get clocks place ≡ Some clock) × Contains clock.sources pin

abbrev pub IsSource : List Clock → Pin → Type 0
IsSource clocks pin = (place : ℕ) × IsSourceOf clocks place pin

-- a walk of a clock edge to a node, by the nodes before it, the last one first
abbrev pub IsClockWalk : (Arc → Type 0) → List Clock → ClockEdge → Node → List Node → Type 0
IsClockWalk Has clocks edge node [] = (node.edge ≡ edge.edge) × IsSourceOf clocks edge.clock node.pin
IsClockWalk Has clocks edge node (last ∷ before) =
    GoesOn Has last node × (IsSource clocks node.pin → ⊥) × IsClockWalk Has clocks edge last before

abbrev pub Arrives : (Arc → Type 0) → List Clock → ClockEdge → Node → Type 0
Arrives Has clocks edge node = (before : List Node) × IsClockWalk Has clocks edge node before

-- a clock arrives at a pin where one of its edges arrives at a node of it
abbrev pub ClockArrives : (Arc → Type 0) → List Clock → ℕ → Pin → Type 0
ClockArrives Has clocks clock pin =
    (launched : Edge) × (edge : Edge) × Arrives Has clocks (record { clock = clock; edge = launched }) (record { pin = pin; edge = edge })

-- ---- arrivals as data

-- a clock edge is among those that arrive at a node
abbrev pub IsAmongArrivals : Arrivals → ClockEdge → Node → Type 0
IsAmongArrivals arrivals edge node = Contains (edges_at arrivals (node_number node)) edge

-- the clock edges that arrive at each node of a graph over its alive arcs, in order, each once
pub record IsArrivals (graph : Graph) (alive : List Bool) (clocks : List Clock) (arrivals : Arrivals) : Type 0 where
  pub nodes : length arrivals.at ≡ 2 * graph.pins
  pub members : (edge : ClockEdge) (node : Node) → node.pin.0 < graph.pins
      → IsAmongArrivals arrivals edge node ↔ Arrives (HasAliveArc graph alive) clocks edge node
  pub order : (node i j : ℕ) (edge other : ClockEdge) → i < j → slice_get (edges_at arrivals node) i ≡ Some edge
      → slice_get (edges_at arrivals node) j ≡ Some other → EdgeStandsBefore edge other
