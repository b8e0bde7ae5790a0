-- The pools that classes are found over: where edges launch, the order of nodes, and the pool of one mode. This
-- project's own rule. It reads: an edge launches at a register's node where it arrives, and at both nodes of an input
-- port that has an input delay to it.
use Rattle.std.specs.Prelude.{◌≡◌, ◌<◌, ◌⊎◌, ◌↔◌, ℕ, Bool, List, [], ◌∷◌, Some, slice_get}
use Rattle.std.specs.List.{All, Contains}
use Rattle.timing_types.specs.declared.class_sets.Launched.{Launched}
use Rattle.timing_types.specs.declared.class_sets.Pool.{Pool}
use Rattle.timing_types.specs.declared.constraints.IoDelay.{IoDelay}
use Rattle.timing_types.specs.declared.graphs.Graph.{Graph}
use Rattle.pin_types.specs.declared.pins.Node.{Node}
use Rattle.timing_model.specs.AliveArcs.{HasAliveArc}
use Rattle.timing_model.specs.Analysis.{Analysis}
use Rattle.timing_model.specs.Arrival.{GoesOn, IsAmongArrivals}
use Rattle.timing_model.specs.Classes.{IsLaunchNode}
use Rattle.design_model.specs.DesignPins.{IsInputPort}

-- ---- starts

-- a delay of a port names a clock edge, whichever of its values are set
pub record IsDelayedTo (analysis : Analysis) (launched : Launched) : Type 0 where
  pub delay : IoDelay
  pub is : Contains analysis.mode.delays delay
  pub port : delay.port ≡ launched.start.pin
  pub clock : delay.clock ≡ launched.launch

-- an edge launches at a node in an analysis
abbrev pub IsLaunchedPair : Analysis → Launched → Type 0
IsLaunchedPair analysis launched =
    (IsLaunchNode analysis.graph launched.start × IsAmongArrivals analysis.arrivals launched.launch launched.start)
    ⊎ (IsInputPort analysis.design launched.start.pin.0 × IsDelayedTo analysis launched)

abbrev pub AreStarts : Analysis → List Launched → Type 0
AreStarts analysis starts = (launched : Launched) → Contains starts launched ↔ IsLaunchedPair analysis launched

-- ---- the order of nodes

-- every node of a graph once, each alive arc that launches nothing going forward
pub record IsOrder (graph : Graph) (alive : List Bool) (order : List Node) : Type 0 where
  pub every : (node : Node) → node.pin.0 < graph.pins → Contains order node
  pub within : All (λ (node : Node). node.pin.0 < graph.pins) order
  pub once : (i j : ℕ) (node : Node) → slice_get order i ≡ Some node → slice_get order j ≡ Some node → i ≡ j
  pub forward : (i j : ℕ) (from to : Node) → GoesOn (HasAliveArc graph alive) from to
      → slice_get order i ≡ Some from → slice_get order j ≡ Some to → i < j

-- ---- pools

-- the pool of one mode
pub record IsPoolOfMode (analysis : Analysis) (pool : Pool) : Type 0 where
  pub graph : pool.graph ≡ analysis.graph
  pub order : IsOrder pool.graph pool.alive pool.order
  pub alive : pool.alive ≡ analysis.alive
  pub modes : pool.modes ≡ analysis.alive ∷ []
  pub starts : AreStarts analysis pool.starts
  pub exceptions : pool.exceptions ≡ analysis.mode.exceptions
