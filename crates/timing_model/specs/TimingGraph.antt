-- The arcs and checks of a design's timing graph. Nodes and cell arcs are Liberty's (timing groups); which arcs are
-- passed over is this project's own rule.
-- It reads: a launching pin is one that a launch arc leaves. A net arc goes from a driver to a load; a cell arc follows
-- its library arc; neither leaves a launching or a checked pin, so that such pins stand at the ends of paths alone.
use Rattle.std.specs.Prelude.{◌≡◌, ◌<◌, ◌⊎◌, ◌↔◌, ℕ, true, false, List, length, Some, slice_get}
use Rattle.std.specs.List.{Contains}
use Rattle.timing_types.specs.declared.designs.Design.{Design}
use Rattle.timing_types.specs.declared.designs.Role.TheVariants.{CellOut}
use Rattle.timing_types.specs.declared.graphs.Arc.{Arc}
use Rattle.timing_types.specs.declared.graphs.ArcKind.{ArcKind}
use Rattle.timing_types.specs.declared.graphs.ArcKind.TheVariants.{Net, Cell, Launch}
use Rattle.timing_types.specs.declared.graphs.Check.{Check}
use Rattle.timing_types.specs.declared.graphs.Graph.{Graph}
use Rattle.pin_types.specs.declared.pins.Node.{Node}
use Rattle.pin_types.specs.Nodes.{node_number}
use Rattle.design_model.specs.DesignPins.{driver_of, role_of, IsInputPort, IsOther}
use Rattle.design_model.specs.LibraryArcs.{IsCheck, IsChecked, IsLaunching, IsLibraryArc}
use Rattle.timing_types.specs.declared.designs.Source.TheVariants as source

abbrev pub arc_of : Node → Node → ArcKind → Arc
arc_of from to kind = record { from = from; to = to; kind = kind }

-- ---- library arcs and checks of the design's cells

-- a launch arc ends at the pin
abbrev pub IsLaunched : Design → ℕ → Type 0
IsLaunched design pin = (from : Node) × (to : Node) × (to.pin.0 ≡ pin) × IsLibraryArc design true from to

-- ---- arcs

-- a launch arc: from the clock node of a register to an output
abbrev pub IsLaunchArc : Design → Node → Node → Type 0
IsLaunchArc design from to = IsLibraryArc design true from to

-- a cell arc: it is passed over where its output has a launch arc, or its source pin has one or a check
pub record IsCellArc (design : Design) (from to : Node) : Type 0 where
  pub library : IsLibraryArc design false from to
  pub output_not_launched : IsLaunched design to.pin.0 → ⊥
  pub source_not_launching : IsLaunching design from.pin.0 → ⊥
  pub source_not_checked : IsChecked design from.pin.0 → ⊥

-- a net arc: from a driving cell output or input port to a pin that it drives, each transition to the same one
pub record IsNetArc (design : Design) (from to : Node) : Type 0 where
  pub drives : driver_of design to.pin.0 ≡ Some (source.Pin from.pin)
  pub driver : (role_of design from.pin.0 ≡ Some CellOut) ⊎ IsInputPort design from.pin.0
  pub same_edge : from.edge ≡ to.edge
  pub load_has_arcs : IsOther design to.pin.0 → ⊥
  pub not_launching : IsLaunching design from.pin.0 → ⊥
  pub not_checked : IsChecked design from.pin.0 → ⊥

abbrev pub IsArcOf : Design → Node → Node → ArcKind → Type 0
IsArcOf design from to Net = IsNetArc design from to
IsArcOf design from to Cell = IsCellArc design from to
IsArcOf design from to Launch = IsLaunchArc design from to

abbrev pub IsArc : Design → Arc → Type 0
IsArc design arc = IsArcOf design arc.from arc.to arc.kind

-- ---- the graph as data

abbrev pub kind_number : ArcKind → ℕ
kind_number Net = 0
kind_number Cell = 1
kind_number Launch = 2

-- an arc stands before another: by where it comes from, then by where it goes, then by its kind
abbrev pub ArcStandsBefore : Arc → Arc → Type 0
ArcStandsBefore arc other =
    (node_number arc.from < node_number other.from)
    ⊎ ((arc.from ≡ other.from) × ((node_number arc.to < node_number other.to)
    ⊎ ((arc.to ≡ other.to) × (kind_number arc.kind < kind_number other.kind))))

abbrev pub AreInOrder : List Arc → Type 0
AreInOrder arcs = (i j : ℕ) (arc other : Arc) → i < j → slice_get arcs i ≡ Some arc → slice_get arcs j ≡ Some other
    → ArcStandsBefore arc other

-- a graph is that of a design: its arcs in order, each once, and its checks
pub record IsGraphOf (design : Design) (graph : Graph) : Type 0 where
  pub pins : graph.pins ≡ length design.pins
  pub arcs : (arc : Arc) → Contains graph.arcs arc ↔ IsArc design arc
  pub order : AreInOrder graph.arcs
  pub checks : (check : Check) → Contains graph.checks check ↔ IsCheck design check
  pub once : (i j : ℕ) (check : Check) → slice_get graph.checks i ≡ Some check → slice_get graph.checks j ≡ Some check → i ≡ j
