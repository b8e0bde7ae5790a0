-- Nodes of a timing graph and edges of clocks: their numbers and their order. This project's own numbering: pin p has
-- the rising node 2 p and the falling node 2 p + 1.
use Rattle.std.specs.Prelude.{◌≡◌, ◌+◌, ◌*◌, ◌⊎◌, ℕ, true, List, map, ◌<◌}
use Rattle.std.specs.Ordering.{nat_cmp, is_le}
use Rattle.std.specs.Cmp.Lexicographic.{slice_cmp}
use Rattle.pin_types.specs.declared.pins.ClockEdge.{ClockEdge}
use Rattle.pin_types.specs.declared.pins.Edge.{Edge}
use Rattle.pin_types.specs.declared.pins.Edge.TheVariants.{Rise, Fall}
use Rattle.pin_types.specs.declared.pins.Node.{Node}
use Rattle.pin_types.specs.declared.pins.Side.{Side}
use Rattle.pin_types.specs.declared.pins.Side.TheVariants.{Setup, Hold}

-- ---- numbers

abbrev pub edge_number : Edge → ℕ
edge_number Rise = 0
edge_number Fall = 1

abbrev pub node_number : Node → ℕ
node_number node = 2 * node.pin.0 + edge_number node.edge

abbrev pub node_numbers : List Node → List ℕ
node_numbers = map node_number

-- a list of nodes comes before another, or is it: node by node, by their numbers, a list before those that go on from
-- it
abbrev pub IsAtMost : List Node → List Node → Type 0
IsAtMost nodes others = is_le (slice_cmp nat_cmp (node_numbers nodes) (node_numbers others)) ≡ true

-- the node of a pin's place and a transition, and a clock edge
abbrev pub node_at : ℕ → Edge → Node
node_at pin edge = record { pin = record { 0 = pin }; edge = edge }

abbrev pub clock_edge : ℕ → Edge → ClockEdge
clock_edge clock edge = record { clock = clock; edge = edge }

-- ---- cells

abbrev pub side_number : Side → ℕ
side_number Setup = 0
side_number Hold = 1

abbrev pub EdgeStandsBefore : ClockEdge → ClockEdge → Type 0
EdgeStandsBefore edge other =
    (edge.clock < other.clock) ⊎ ((edge.clock ≡ other.clock) × (edge_number edge.edge < edge_number other.edge))
