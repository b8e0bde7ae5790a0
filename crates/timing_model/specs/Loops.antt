-- Loops of a timing graph, and conflicts of modes: which one is answered. This project's own rule.
-- It reads: a loop is a cycle of alive arcs that launch nothing, its nodes in the direction of the arcs. The answered
-- one begins at the least node that lies on a loop, is the shortest from there, and of these the least as a list of
-- nodes.
use Rattle.std.specs.Prelude.{◌≡◌, ◌<◌, ◌≤◌, ◌⊎◌, ℕ, List, [], ◌∷◌, length, Some, slice_get}
use Rattle.timing_types.specs.declared.analyses.Cycle.{Cycle}
use Rattle.timing_types.specs.declared.graphs.Arc.{Arc}
use Rattle.pin_types.specs.declared.pins.Node.{Node}
use Rattle.timing_model.specs.Analysis.{Analysis, Alive}
use Rattle.timing_model.specs.Arrival.{GoesOn, IsSource, ClockArrives}
use Rattle.pin_types.specs.Nodes.{IsAtMost, node_number}

-- ---- loops

-- nodes from one on, each joined to the next by an arc that launches nothing, and the last one to a given node
abbrev pub LeadsTo : (Arc → Type 0) → Node → Node → List Node → Type 0
LeadsTo Has target node [] = GoesOn Has node target
LeadsTo Has target node (next ∷ nodes) = GoesOn Has node next × LeadsTo Has target next nodes

abbrev pub IsLoop : (Arc → Type 0) → List Node → Type 0
IsLoop Has [] = ⊥
IsLoop Has (node ∷ nodes) = LeadsTo Has node node nodes

-- the loop that is answered, by its first node and those after it
pub record IsAnsweredLoop (Has : Arc → Type 0) (cycle : Cycle) : Type 0 where
  pub node : Node
  pub nodes : List Node
  pub is : cycle.nodes ≡ node ∷ nodes
  pub is_loop : IsLoop Has (node ∷ nodes)
  pub least_node : (other : Node) (others : List Node) → IsLoop Has (other ∷ others) → node_number node ≤ node_number other
  pub shortest : (others : List Node) → IsLoop Has (node ∷ others) → length nodes ≤ length others
  pub least : (others : List Node) → IsLoop Has (node ∷ others) → length nodes ≡ length others
      → IsAtMost (node ∷ nodes) (node ∷ others)

abbrev pub HasNoLoop : (Arc → Type 0) → Type 0
HasNoLoop Has = (nodes : List Node) → IsLoop Has nodes → ⊥

-- ---- conflicts

-- a pin is a clock source in the mode of one place, is none in the mode of another, and a clock arrives at it there
pub record IsConflict (analyses : List Analysis) (pin source_mode passing_mode : ℕ) : Type 0 where
  pub source : Analysis
  pub passing : Analysis
  pub clock : ℕ
  pub is_source_mode : slice_get analyses source_mode ≡ Some source
  pub is_passing_mode : slice_get analyses passing_mode ≡ Some passing
  pub is_source : IsSource source.mode.clocks (record { 0 = pin })
  pub is_none : IsSource passing.mode.clocks (record { 0 = pin }) → ⊥
  pub passes : ClockArrives (Alive passing) passing.mode.clocks clock (record { 0 = pin })

-- one conflict comes before another, or is it: by pin, then by source mode, then by passing mode
abbrev pub ConflictBefore : ℕ → ℕ → ℕ → ℕ → ℕ → ℕ → Type 0
ConflictBefore pin source_mode passing_mode other_pin other_source other_passing =
    (pin < other_pin) ⊎ ((pin ≡ other_pin) × ((source_mode < other_source)
    ⊎ ((source_mode ≡ other_source) × (passing_mode ≤ other_passing))))

-- the conflict that is answered
pub record IsAnsweredConflict (analyses : List Analysis) (pin source_mode passing_mode : ℕ) : Type 0 where
  pub is : IsConflict analyses pin source_mode passing_mode
  pub first : (other_pin other_source other_passing : ℕ) → IsConflict analyses other_pin other_source other_passing
      → ConflictBefore pin source_mode passing_mode other_pin other_source other_passing

abbrev pub HasNoConflict : List Analysis → Type 0
HasNoConflict analyses = (pin source_mode passing_mode : ℕ) → IsConflict analyses pin source_mode passing_mode → ⊥
