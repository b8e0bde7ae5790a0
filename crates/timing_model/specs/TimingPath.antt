-- Timing paths of a graph: lists of nodes from where data is launched to where it is checked. Where paths begin and end
-- is SDC's; that a register's clock pin and an input port alone begin one is this project's own rule.
-- The nodes stand with the last one first. The arcs are given as a predicate: all arcs of a graph, or its alive ones.
use Rattle.std.specs.Prelude.{◌≡◌, ◌⊎◌, List, [], ◌∷◌, Option, Some, None}
use Rattle.std.specs.List.{Contains}
use Rattle.timing_types.specs.declared.designs.Design.{Design}
use Rattle.timing_types.specs.declared.graphs.Arc.{Arc}
use Rattle.timing_types.specs.declared.graphs.Check.{Check}
use Rattle.timing_types.specs.declared.graphs.Graph.{Graph}
use Rattle.timing_types.specs.declared.paths.Path.{Path}
use Rattle.pin_types.specs.declared.pins.ClockEdge.{ClockEdge}
use Rattle.pin_types.specs.declared.pins.Node.{Node}
use Rattle.pin_types.specs.declared.pins.Pin.{Pin}
use Rattle.timing_model.specs.Arrival.{Launches, GoesOn}
use Rattle.design_model.specs.DesignPins.{IsInputPort, IsOutputPort}

-- ---- ends

-- the ends of a path: its first and its last node, and its clock edges
pub record Ends : Type 0 where
  pub start : Node
  pub last : Node
  pub launch : ClockEdge
  pub capture : ClockEdge

-- the first node of a walk to a node, by the nodes before it
abbrev pub first_node : Node → List Node → Node
first_node node [] = node
first_node node (last ∷ before) = first_node last before

abbrev pub ends_of : List Node → ClockEdge → ClockEdge → Option Ends
ends_of [] launch capture = None
ends_of (last ∷ before) launch capture =
    Some (record { start = first_node last before; last = last; launch = launch; capture = capture })

abbrev pub ends_of_path : Path → Option Ends
ends_of_path path = ends_of path.nodes path.launch path.capture

-- ---- paths

-- a walk of one or more arcs to a node, by the nodes before it: the first arc of one kind, all others of another
abbrev pub IsJoined : (Node → Node → Type 0) → (Node → Node → Type 0) → Node → List Node → Type 0
IsJoined First Other node [] = ⊥
IsJoined First Other node (start ∷ []) = First start node
IsJoined First Other node (last ∷ (before ∷ others)) = Other last node × IsJoined First Other last (before ∷ others)

-- the first arc of a path: a launch arc, or one that leaves an input port
abbrev pub Begins : (Arc → Type 0) → Design → Node → Node → Type 0
Begins Has design from to = Launches Has from to ⊎ (IsInputPort design from.pin.0 × GoesOn Has from to)

-- a property of each node between the first and the last one of a path, by the nodes before the last
abbrev pub BetweenEnds : (Node → Type 0) → List Node → Type 0
BetweenEnds Is [] = Unit {0}
BetweenEnds Is (start ∷ []) = Unit {0}
BetweenEnds Is (node ∷ (before ∷ others)) = Is node × BetweenEnds Is (before ∷ others)

-- a path ends at a checked pin or at an output port
abbrev pub IsEnd : Design → Graph → Pin → Type 0
IsEnd design graph pin = ((check : Check) × Contains graph.checks check × (check.end ≡ pin)) ⊎ IsOutputPort design pin.0

-- the nodes of a path, the last one first: two or more
abbrev pub IsPath : (Arc → Type 0) → Design → Graph → List Node → Type 0
IsPath Has design graph [] = ⊥
IsPath Has design graph (last ∷ before) = IsJoined (Begins Has design) (GoesOn Has) last before × IsEnd design graph last.pin
