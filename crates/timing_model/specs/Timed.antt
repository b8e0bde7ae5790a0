-- Which paths are timed in an analysis, on which side and with which limit. What launches and captures is SDC 2.1's;
-- that a side needs a check of that side, and each delay concerned a value for it, is this project's own rule.
-- It reads: a path is a candidate on a side where its arcs are alive, both clock edges are there on that side, and its
-- clocks are not exclusive. It is timed where it is a candidate and has a limit, which it has but under a false path.
use Rattle.std.specs.Prelude.{◌≡◌, ◌⊎◌, ℕ, ℤ, List, [], ◌∷◌, Option, Some}
use Rattle.std.specs.List.{Contains}
use Rattle.timing_types.specs.declared.constraints.IoDelay.{IoDelay}
use Rattle.timing_types.specs.declared.paths.Path.{Path}
use Rattle.pin_types.specs.declared.pins.ClockEdge.{ClockEdge}
use Rattle.pin_types.specs.declared.pins.Node.{Node}
use Rattle.pin_types.specs.declared.pins.Side.{Side}
use Rattle.timing_model.specs.Analysis.{Analysis, Alive}
use Rattle.timing_model.specs.Arrival.{IsAmongArrivals, Launches, GoesOn}
use Rattle.constraint_model.specs.ExclusivePairs.{pair_of}
use Rattle.timing_model.specs.Limit.{IsLimit, delay_value}
use Rattle.timing_model.specs.Matching.{MatchesAt}
use Rattle.design_model.specs.DesignPins.{IsInputPort, IsOutputPort}
use Rattle.timing_model.specs.TimingPath.{Ends, ends_of_path, IsJoined}

-- ---- ends that are there

-- a delay of the node's port names the clock edge, and has a value for the side and the node's transition
pub record HasDelay (analysis : Analysis) (side : Side) (node : Node) (edge : ClockEdge) : Type 0 where
  pub delay : IoDelay
  pub value : ℤ
  pub is : Contains analysis.mode.delays delay
  pub port : delay.port ≡ node.pin
  pub clock : delay.clock ≡ edge
  pub set : delay_value delay side node.edge ≡ Some value

-- the first arc of a path launched by an edge: a launch arc, where the edge arrives; or one that leaves an input port,
-- with an input delay to the edge
abbrev pub IsLaunchedBy : Analysis → Side → ClockEdge → Node → Node → Type 0
IsLaunchedBy analysis side edge start next =
    (Launches (Alive analysis) start next × IsAmongArrivals analysis.arrivals edge start)
    ⊎ (IsInputPort analysis.design start.pin.0 × GoesOn (Alive analysis) start next × HasDelay analysis side start edge)

-- the capture edge arrives at the clock node of a check of the end and the side; or the end is an output port, with an
-- output delay to it
abbrev pub IsCapturedBy : Analysis → Side → Node → ClockEdge → Type 0
IsCapturedBy analysis side last edge =
    ((clock : Node) × Contains analysis.graph.checks (record { end = last.pin; clock = clock; side = side })
    × IsAmongArrivals analysis.arrivals edge clock)
    ⊎ (IsOutputPort analysis.design last.pin.0 × HasDelay analysis side last edge)

-- a mode makes two clocks exclusive
abbrev pub AreExclusiveIn : Analysis → ℕ → ℕ → Type 0
AreExclusiveIn analysis clock other = Contains analysis.mode.exclusive (pair_of clock other)

-- ---- candidates and timed paths

-- the nodes of a path, the last one first, are joined by alive arcs from where an edge launches it
abbrev pub AreLaunched : Analysis → Side → ClockEdge → List Node → Type 0
AreLaunched analysis side edge [] = ⊥
AreLaunched analysis side edge (last ∷ before) =
    IsJoined (IsLaunchedBy analysis side edge) (GoesOn (Alive analysis)) last before

-- a path is a candidate on a side
pub record IsCandidate (analysis : Analysis) (path : Path) (side : Side) : Type 0 where
  pub ends : Ends
  pub are_ends : ends_of_path path ≡ Some ends
  pub launched : AreLaunched analysis side path.launch path.nodes
  pub captured : IsCapturedBy analysis side ends.last path.capture
  pub together : AreExclusiveIn analysis path.launch.clock path.capture.clock → ⊥

-- the limit of a path on a side, by the exceptions that match it; none under a false path
abbrev pub HasLimit : Analysis → Path → Side → Option ℤ → Type 0
HasLimit analysis path side limit =
    (ends : Ends) × (ends_of_path path ≡ Some ends)
    × IsLimit analysis.mode analysis.waves ends (MatchesAt analysis.mode.exceptions path) side limit

-- a path is timed on a side, with this limit
pub record IsTimed (analysis : Analysis) (path : Path) (side : Side) (limit : ℤ) : Type 0 where
  pub candidate : IsCandidate analysis path side
  pub is : HasLimit analysis path side (Some limit)
