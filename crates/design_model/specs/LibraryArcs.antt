-- Library arcs and checks of the cells of a design (Liberty, timing groups), and the pins where paths begin and end.
-- It reads: a launching pin is one that a launch arc leaves, a checked pin is the constrained pin of a check.
use Rattle.std.specs.Prelude.{◌≡◌, ℕ, Bool, true}
use Rattle.std.specs.List.{Contains}
use Rattle.timing_types.specs.declared.designs.CellInfo.{CellInfo}
use Rattle.timing_types.specs.declared.designs.Design.{Design}
use Rattle.timing_types.specs.declared.graphs.Check.{Check}
use Rattle.pin_types.specs.declared.library_cells.LibArc.{LibArc}
use Rattle.pin_types.specs.declared.library_cells.LibCell.{LibCell}
use Rattle.pin_types.specs.declared.library_cells.LibCheck.{LibCheck}
use Rattle.pin_types.specs.declared.pins.Edge.{Edge}
use Rattle.pin_types.specs.declared.pins.Edge.TheVariants.{Rise, Fall}
use Rattle.pin_types.specs.declared.pins.Node.{Node}
use Rattle.design_model.specs.DesignPins.{IsOther, IsCell, cell_pin}

-- a library arc joins these transitions
abbrev pub joins : LibArc → Edge → Edge → Bool
joins arc Rise Rise = arc.rise_rise
joins arc Rise Fall = arc.rise_fall
joins arc Fall Rise = arc.fall_rise
joins arc Fall Fall = arc.fall_fall

-- a library arc of some cell joins two nodes, and is one that launches or not; neither pin is of another direction
pub record IsLibraryArc (design : Design) (launch : Bool) (from to : Node) : Type 0 where
  pub place : ℕ
  pub cell : CellInfo
  pub kind : LibCell
  pub arc : LibArc
  pub is_cell : IsCell design place cell kind
  pub is_arc : Contains kind.arcs arc
  pub is_launch : arc.launch ≡ launch
  pub from_pin : from.pin.0 ≡ cell_pin cell arc.from
  pub to_pin : to.pin.0 ≡ cell_pin cell arc.to
  pub edges : joins arc from.edge to.edge ≡ true
  pub from_has_arcs : IsOther design from.pin.0 → ⊥
  pub to_has_arcs : IsOther design to.pin.0 → ⊥

-- the check is one of some cell
pub record IsCheck (design : Design) (check : Check) : Type 0 where
  pub place : ℕ
  pub cell : CellInfo
  pub kind : LibCell
  pub rule : LibCheck
  pub is_cell : IsCell design place cell kind
  pub is_rule : Contains kind.checks rule
  pub end : check.end.0 ≡ cell_pin cell rule.pin
  pub clock_pin : check.clock.pin.0 ≡ cell_pin cell rule.clock
  pub clock_edge : check.clock.edge ≡ rule.clock_edge
  pub side : check.side ≡ rule.side

-- a launch arc leaves the pin
abbrev pub IsLaunching : Design → ℕ → Type 0
IsLaunching design pin = (from : Node) × (to : Node) × (from.pin.0 ≡ pin) × IsLibraryArc design true from to

-- the pin is checked
abbrev pub IsChecked : Design → ℕ → Type 0
IsChecked design pin = (check : Check) × (check.end.0 ≡ pin) × IsCheck design check
