-- Keys: groups of paths, for each of which a merge prints at most one line. This project's own rule.
-- It reads: a key is a start, a last node, a launch edge, a capture edge and a side. A start is a node of an input port,
-- or a register's pin, known by its rising node. A key's paths are the merged mode's candidates.
use Rattle.std.specs.Prelude.{◌≡◌, ℕ, true, List, [], ◌∷◌, Option, Some}
use Rattle.std.specs.Ordering.{nat_cmp, is_lt}
use Rattle.std.specs.Cmp.Lexicographic.{slice_cmp}
use Rattle.timing_types.specs.declared.designs.Design.{Design}
use Rattle.timing_types.specs.declared.designs.Role.{Role}
use Rattle.timing_types.specs.declared.designs.Role.TheVariants.{InPort}
use Rattle.timing_types.specs.declared.paths.Path.{Path}
use Rattle.pin_types.specs.declared.pins.ClockEdge.{ClockEdge}
use Rattle.pin_types.specs.declared.pins.Edge.TheVariants.{Rise}
use Rattle.pin_types.specs.declared.pins.Node.{Node}
use Rattle.pin_types.specs.declared.pins.Side.{Side}
use Rattle.timing_model.specs.Analysis.{Analysis}
use Rattle.pin_types.specs.Nodes.{edge_number, node_at, node_number, side_number}
use Rattle.design_model.specs.DesignPins.{role_of}
use Rattle.timing_model.specs.Timed.{IsCandidate}
use Rattle.timing_model.specs.TimingPath.{Ends, ends_of_path}

pub record Key : Type 0 where
  pub start : Node
  pub last : Node
  pub launch : ClockEdge
  pub capture : ClockEdge
  pub side : Side

-- ---- the paths of a key

-- the start of a key, by the role of its pin: a port's node, or the rising node for both nodes of a register's pin
abbrev pub start_by_role : Option Role → Node → Node
start_by_role (Some InPort) node = node
start_by_role role node = node_at node.pin.0 Rise

abbrev pub key_of_ends : Design → Ends → Side → Key
key_of_ends design ends side = record {
  start = start_by_role (role_of design ends.start.pin.0) ends.start;
  last = ends.last;
  launch = ends.launch;
  capture = ends.capture;
  side = side;
}

-- a path is one of a key, in a merged analysis
pub record IsPathOfKey (merged : Analysis) (key : Key) (path : Path) : Type 0 where
  pub candidate : IsCandidate merged path key.side
  pub ends : Ends
  pub are_ends : ends_of_path path ≡ Some ends
  pub is_key : key_of_ends merged.design ends key.side ≡ key

-- ---- the order of keys

abbrev pub key_numbers : Key → List ℕ
key_numbers key =
    node_number key.start ∷ node_number key.last ∷ key.launch.clock ∷ edge_number key.launch.edge
    ∷ key.capture.clock ∷ edge_number key.capture.edge ∷ side_number key.side ∷ []

-- by start, last node, launch edge, capture edge, setup before hold
abbrev pub KeyBefore : Key → Key → Type 0
KeyBefore key other = is_lt (slice_cmp nat_cmp (key_numbers key) (key_numbers other)) ≡ true
