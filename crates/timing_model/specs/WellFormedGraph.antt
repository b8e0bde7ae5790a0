-- Well-formed graphs, pools and views. This project's own.
-- It reads: pins are in range; arcs are in order, each once, and none but launch arcs leaves a launching or a checked
-- pin; a view's clock edges and waves are those of its mode, and no two of its clocks are one merged clock.
use Rattle.std.specs.Prelude.{◌≡◌, ◌<◌, ◌⊎◌, ℕ, Bool, List, length, Option, Some, Ok}
use Rattle.std.specs.List.{All, Contains}
use Rattle.timing_types.specs.declared.class_sets.Launched.{Launched}
use Rattle.timing_types.specs.declared.class_sets.Pool.{Pool}
use Rattle.timing_types.specs.declared.clocks.Wave.{Wave}
use Rattle.timing_types.specs.declared.constraints.Exception.{Exception}
use Rattle.timing_types.specs.declared.constraints.Points.{Points}
use Rattle.timing_types.specs.declared.constraints.Points.TheVariants as points
use Rattle.timing_types.specs.declared.constraints.Through.{Through}
use Rattle.timing_types.specs.declared.designs.Design.{Design}
use Rattle.timing_types.specs.declared.graphs.Arc.{Arc}
use Rattle.timing_types.specs.declared.graphs.ArcKind.TheVariants.{Launch}
use Rattle.timing_types.specs.declared.graphs.Check.{Check}
use Rattle.timing_types.specs.declared.graphs.Graph.{Graph}
use Rattle.pin_types.specs.declared.pins.ClockEdge.{ClockEdge}
use Rattle.pin_types.specs.declared.pins.Node.{Node}
use Rattle.pin_types.specs.declared.pins.Pin.{Pin}
use Rattle.timing_types.specs.declared.views.View.{View}
use Rattle.timing_model.specs.Arrival.{edges_at}
use Rattle.constraint_model.specs.ListOrder.{HasEachOnce}
use Rattle.timing_model.specs.GeneratedWaves.{waves_of}
use Rattle.timing_model.specs.Relation.{IsEdgeOf}
use Rattle.timing_model.specs.TimingGraph.{AreInOrder}
use Rattle.constraint_model.specs.WellFormedMode.{IsWellFormedMode}

-- ---- graphs

-- a launch arc leaves the pin, or the pin is checked
abbrev pub IsPathEnd : Graph → Pin → Type 0
IsPathEnd graph pin =
    ((arc : Arc) × Contains graph.arcs arc × (arc.from.pin ≡ pin) × (arc.kind ≡ Launch))
    ⊎ ((check : Check) × Contains graph.checks check × (check.end ≡ pin))

pub record IsWellFormedGraph (graph : Graph) : Type 0 where
  pub arcs : All (λ (arc : Arc). (arc.from.pin.0 < graph.pins) × (arc.to.pin.0 < graph.pins)) graph.arcs
  pub checks : All (λ (check : Check). (check.end.0 < graph.pins) × (check.clock.pin.0 < graph.pins)) graph.checks
  pub order : AreInOrder graph.arcs
  pub left_by_launches : (arc : Arc) → Contains graph.arcs arc → IsPathEnd graph arc.from.pin → arc.kind ≡ Launch

-- ---- pools

abbrev pub ArePinsWithin : ℕ → List Pin → Type 0
ArePinsWithin count pins = All (λ (pin : Pin). pin.0 < count) pins

abbrev pub ArePointsWithin : ℕ → Option Points → Type 0
ArePointsWithin count (Some (points.Pins edge pins)) = ArePinsWithin count pins
ArePointsWithin count _ = Unit {0}

abbrev pub IsExceptionWithin : ℕ → Exception → Type 0
IsExceptionWithin count exception =
    ArePointsWithin count exception.from × ArePointsWithin count exception.to
    × All (λ (list : Through). ArePinsWithin count list.pins) exception.through

-- one truth value an arc
abbrev pub IsByArc : Graph → List Bool → Type 0
IsByArc graph alive = length alive ≡ length graph.arcs

pub record IsWellFormedPool (pool : Pool) : Type 0 where
  pub graph : IsWellFormedGraph pool.graph
  pub order : All (λ (node : Node). node.pin.0 < pool.graph.pins) pool.order
  pub starts : All (λ (launched : Launched). launched.start.pin.0 < pool.graph.pins) pool.starts
  pub exceptions : All (IsExceptionWithin pool.graph.pins) pool.exceptions

-- its lists have one truth value an arc
pub record HasTruthsByArc (pool : Pool) : Type 0 where
  pub alive : IsByArc pool.graph pool.alive
  pub modes : All (IsByArc pool.graph) pool.modes

-- ---- views

-- both edges of a wave have relations
abbrev pub HasRelations : Wave → Type 0
HasRelations wave = IsEdgeOf wave.rise wave.period × IsEdgeOf wave.fall wave.period

pub record IsWellFormedView (design : Design) (view : View) : Type 0 where
  pub mode : IsWellFormedMode design view.mode
  pub clocks : (node : ℕ) → All (λ (edge : ClockEdge). edge.clock < length view.mode.clocks) (edges_at view.arrivals node)
  pub waves : (masters : List (Option ℕ)) × (waves_of view.mode view.arrivals ≡ Ok (record { waves = view.waves; masters = masters }))
  pub related : All HasRelations view.waves
  pub apart : HasEachOnce view.clock_map
