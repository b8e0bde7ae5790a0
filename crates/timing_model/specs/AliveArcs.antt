-- Which arcs of a timing graph are alive in a mode: those that no constant and no disable stops (SDC 2.1,
-- `set_case_analysis` and `set_disable_timing`). That a function may stop an arc is this project's own rule.
-- It reads: neither pin is constant or disabled, the pair of pins is not disabled, and inside a cell the function of
-- the output changes with the arc's input under some values of the inputs that are not known.
use Rattle.std.specs.Prelude.{◌≡◌, ◌≢◌, ◌==◌, ◌↔◌, ℕ, Bool, true, false, List, length, Option, Some, None, slice_get, if◌then◌else◌}
use Rattle.std.specs.List.{Contains}
use Rattle.timing_types.specs.declared.constraints.Disable.TheVariants as disable
use Rattle.timing_types.specs.declared.designs.CellInfo.{CellInfo}
use Rattle.timing_types.specs.declared.designs.Design.{Design}
use Rattle.pin_types.specs.declared.functions.Expr.{Expr}
use Rattle.timing_types.specs.declared.graphs.Arc.{Arc}
use Rattle.timing_types.specs.declared.graphs.ArcKind.{ArcKind}
use Rattle.timing_types.specs.declared.graphs.ArcKind.TheVariants.{Net, Cell, Launch}
use Rattle.timing_types.specs.declared.graphs.Graph.{Graph}
use Rattle.timing_types.specs.declared.modes.Mode.{Mode}
use Rattle.pin_types.specs.declared.pins.Node.{Node}
use Rattle.pin_types.specs.declared.pins.Pin.{Pin}
use Rattle.timing_model.specs.ConstantValues.{Values, value_at, cell_of, place_in_cell, function_of, IsCompletion}
use Rattle.function_model.specs.FunctionValue.{value_of}

abbrev pub IsPinDisabled : Mode → Pin → Type 0
IsPinDisabled mode pin = (line : ℕ) × Contains mode.disabled (disable.Pin line pin)

abbrev pub IsPairDisabled : Mode → Pin → Pin → Type 0
IsPairDisabled mode from to = (line : ℕ) × Contains mode.disabled (disable.Between line from to)

-- these values with another one at a place
abbrev pub with_input : ℕ → Bool → (ℕ → Bool) → ℕ → Bool
with_input place v inputs = λ other. if other == place then v else inputs other

-- some completion of the inputs that are not known makes the function change with the input of a pin
pub record ChangesWith (design : Design) (values : Values) (expr : Expr) (from : ℕ) : Type 0 where
  pub cell : CellInfo
  pub place : ℕ
  pub inputs : ℕ → Bool
  pub in_cell : cell_of design from ≡ Some cell
  pub at : place_in_cell design from ≡ Some place
  pub completion : IsCompletion values cell inputs
  pub changes : value_of (with_input place true inputs) expr ≢ value_of (with_input place false inputs) expr

-- an output without function depends on every input
abbrev pub DependsOn : Design → Values → Option Expr → ℕ → Type 0
DependsOn design values None from = Unit {0}
DependsOn design values (Some expr) from = ChangesWith design values expr from

abbrev pub PassesCell : Design → Values → ArcKind → Node → Node → Type 0
PassesCell design values Net from to = Unit {0}
PassesCell design values Cell from to = DependsOn design values (function_of design to.pin.0) from.pin.0
PassesCell design values Launch from to = DependsOn design values (function_of design to.pin.0) from.pin.0

-- an arc is alive in a mode over a design, where these values stand
pub record IsAlive (design : Design) (mode : Mode) (values : Values) (arc : Arc) : Type 0 where
  pub from_varies : value_at values arc.from.pin.0 ≡ None
  pub to_varies : value_at values arc.to.pin.0 ≡ None
  pub from_enabled : IsPinDisabled mode arc.from.pin → ⊥
  pub to_enabled : IsPinDisabled mode arc.to.pin → ⊥
  pub pair_enabled : IsPairDisabled mode arc.from.pin arc.to.pin → ⊥
  pub passes : PassesCell design values arc.kind arc.from arc.to

-- one truth value an arc of a graph: whether it is alive
pub record AreAlive (design : Design) (mode : Mode) (values : Values) (graph : Graph) (alive : List Bool) : Type 0 where
  pub arcs : length alive ≡ length graph.arcs
  pub each : (place : ℕ) (arc : Arc) → slice_get graph.arcs place ≡ Some arc
      → (slice_get alive place ≡ Some true) ↔ IsAlive design mode values arc

-- ---- arcs as steps

-- an arc of a graph; one of those that these truth values say are alive
abbrev pub HasArc : Graph → Arc → Type 0
HasArc graph arc = Contains graph.arcs arc

abbrev pub HasAliveArc : Graph → List Bool → Arc → Type 0
HasAliveArc graph alive arc = (place : ℕ) × (slice_get graph.arcs place ≡ Some arc) × (slice_get alive place ≡ Some true)
