-- Classes of the walks that paths begin with: all that limits look at. This project's own rule.
-- It reads: a prefix begins at a launched start and goes on by alive arcs; a start alone is one. Its class is its
-- launch edge, its start, in which modes all its arcs are alive, and how many through lists of each exception it meets.
-- Nodes stand with the last one first.
use Rattle.std.specs.Prelude.{◌≡◌, ◌*◌, ◌^◌, ◌<◌, ◌≤◌, ◌⊎◌, ◌↔◌, ℕ, Bool, List, [], ◌∷◌, length, take, Some, slice_get}
use Rattle.std.specs.List.{Contains, sum_by}
use Rattle.std.specs.Option.{unwrap_or}
use Rattle.std.specs.Int.{bit_at}
use Rattle.timing_types.specs.declared.class_sets.Class.{Class}
use Rattle.timing_types.specs.declared.class_sets.ClassSets.{ClassSets}
use Rattle.timing_types.specs.declared.class_sets.Launched.{Launched}
use Rattle.timing_types.specs.declared.class_sets.Met.{Met}
use Rattle.timing_types.specs.declared.class_sets.Pool.{Pool}
use Rattle.timing_types.specs.declared.constraints.Exception.{Exception}
use Rattle.timing_types.specs.declared.constraints.Through.{Through}
use Rattle.timing_types.specs.declared.graphs.Arc.{Arc}
use Rattle.timing_types.specs.declared.graphs.ArcKind.TheVariants.{Launch}
use Rattle.timing_types.specs.declared.graphs.Graph.{Graph}
use Rattle.pin_types.specs.declared.pins.Node.{Node}
use Rattle.timing_model.specs.AliveArcs.{HasAliveArc, HasArc}
use Rattle.timing_model.specs.Arrival.{GoesOn, Launches}
use Rattle.timing_model.specs.Matching.{AreMet, PointsFit}
use Rattle.pin_types.specs.Nodes.{node_number}
use Rattle.timing_model.specs.TimingGraph.{arc_of}
use Rattle.timing_model.specs.TimingPath.{IsJoined, first_node}
use Rattle.constraint_model.specs.ListOrder.{Rises}

-- ---- prefixes

-- a register's node: a launch arc of the graph leaves it, alive or not
abbrev pub IsLaunchNode : Graph → Node → Type 0
IsLaunchNode graph node = (next : Node) × HasArc graph (arc_of node next Launch)

-- the first arc of a prefix: a launch arc exactly where it leaves a register's node
abbrev pub IsFirstArc : Graph → (Arc → Type 0) → Node → Node → Type 0
IsFirstArc graph Has from to = Launches Has from to ⊎ ((IsLaunchNode graph from → ⊥) × GoesOn Has from to)

-- nodes joined by arcs, of which only the first may launch; one node is joined
abbrev pub AreLinked : Graph → (Arc → Type 0) → List Node → Type 0
AreLinked graph Has [] = ⊥
AreLinked graph Has (start ∷ []) = Unit {0}
AreLinked graph Has (node ∷ (last ∷ before)) = IsJoined (IsFirstArc graph Has) (GoesOn Has) node (last ∷ before)

-- a prefix of a pool, from a launched start to a node, by the nodes before it
pub record IsPrefix (pool : Pool) (launched : Launched) (node : Node) (before : List Node) : Type 0 where
  pub launches : Contains pool.starts launched
  pub start : first_node node before ≡ launched.start
  pub joined : AreLinked pool.graph (HasAliveArc pool.graph pool.alive) (node ∷ before)

-- ---- through lists

-- so many of these lists, and no more, are met in order at strictly later nodes
pub record IsMostMet (lists : List Through) (nodes : List Node) (count : ℕ) : Type 0 where
  pub within : count ≤ length lists
  pub met : AreMet (take count lists) nodes
  pub most : (more : ℕ) → count < more → more ≤ length lists → AreMet (take more lists) nodes → ⊥

-- a prefix has come so far in an exception whose `from` holds: at least one list
pub record HasMet (pool : Pool) (launched : Launched) (nodes : List Node) (met : Met) : Type 0 where
  pub exception : Exception
  pub is : slice_get pool.exceptions met.exception ≡ Some exception
  pub from : PointsFit exception.from launched.start launched.launch
  pub some : 1 ≤ met.lists
  pub most : IsMostMet exception.through nodes met.lists

pub record IsProgress (pool : Pool) (launched : Launched) (nodes : List Node) (progress : List Met) : Type 0 where
  pub members : (met : Met) → Contains progress met ↔ HasMet pool launched nodes met
  pub order : Rises (λ (met : Met) (other : Met). met.exception < other.exception) progress

-- ---- classes

-- bit m is set where all arcs are alive in mode m
pub record AreModesOf (pool : Pool) (nodes : List Node) (modes : ℕ) : Type 0 where
  pub within : modes < 2 ^ length pool.modes
  pub each : (place : ℕ) (alive : List Bool) → slice_get pool.modes place ≡ Some alive
      → (bit_at modes place ≡ 1) ↔ AreLinked pool.graph (HasAliveArc pool.graph alive) nodes

-- the class of a prefix
pub record IsClassOf (pool : Pool) (launched : Launched) (nodes : List Node) (class : Class) : Type 0 where
  pub launch : class.launch ≡ launched.launch
  pub start : class.start ≡ launched.start
  pub modes : AreModesOf pool nodes class.modes
  pub progress : IsProgress pool launched nodes class.progress

-- a class of some prefix that ends at a node; of one of two nodes or more
abbrev pub IsClassAt : Pool → Node → Class → Type 0
IsClassAt pool node class = (launched : Launched) × (before : List Node)
    × IsPrefix pool launched node before × IsClassOf pool launched (node ∷ before) class

abbrev pub IsClassOfPath : Pool → Node → Class → Type 0
IsClassOfPath pool node class = (launched : Launched) × (last : Node) × (before : List Node)
    × IsPrefix pool launched node (last ∷ before) × IsClassOf pool launched (node ∷ (last ∷ before)) class

-- ---- all classes

abbrev pub classes_at : ClassSets → ℕ → List Class
classes_at sets node = unwrap_or (slice_get sets.at node) []

-- the sets of a pool: at each node exactly the classes of the prefixes that end there, each once
pub record AreClassSets (pool : Pool) (sets : ClassSets) : Type 0 where
  pub nodes : length sets.at ≡ 2 * pool.graph.pins
  pub members : (node : Node) (class : Class) → node.pin.0 < pool.graph.pins
      → Contains (classes_at sets (node_number node)) class ↔ IsClassAt pool node class
  pub once : (node i j : ℕ) (class : Class) → slice_get (classes_at sets node) i ≡ Some class
      → slice_get (classes_at sets node) j ≡ Some class → i ≡ j

abbrev pub class_count : ClassSets → ℕ
class_count sets = sum_by length sets.at

-- the number of classes of a pool, over all nodes
abbrev pub ClassCountIs : Pool → ℕ → Type 0
ClassCountIs pool count = (sets : ClassSets) × AreClassSets pool sets × (count ≡ class_count sets)
