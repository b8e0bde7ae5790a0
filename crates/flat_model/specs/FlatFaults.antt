-- The faults of a flat design, and the first of them. What is refused, the limits and the order are this project's own.
-- It reads: the first fault is at the first place that has one, and at that place of the kind that stands first; each
-- kind says when a net or a cell has it.
use Rattle.std.specs.Prelude.{◌≡◌, ◌+◌, ◌≤◌, ◌<◌, ◌||◌, ◌⊎◌, ℕ, Bool, true, false, List, [], length, map, take, slice_get, nat_lt, Some}
use Rattle.std.specs.List.{list_any}
use Rattle.sdc_base.specs.declared.memory.At.{At}
use Rattle.source_types.specs.declared.fault_kinds.DesignKind.{DesignKind}
use Rattle.source_types.specs.declared.fault_kinds.DesignKind.TheVariants as fault
use Rattle.source_types.specs.declared.libraries.Library.{Library}
use Rattle.pin_types.specs.declared.library_cells.LibPin.{LibPin}
use Rattle.source_types.specs.declared.netlists.Module.{Module}
use Rattle.flat_model.specs.Connections.{instance_fault}
use Rattle.flat_model.specs.FlatDesign.{ComesBack, Flat, FlatCell, FlatPin, pin_name}
use Rattle.flat_model.specs.FlatNets.{FlatNet, bit_of, net_name, sources}
use Rattle.flat_model.specs.Instances.{Placed, full_name, level}
use Rattle.text_model.specs.Names.{is_good_name}
use Rattle.text_model.specs.Words.{same_text}

-- ---- the first fault

-- the order of kinds at one place
abbrev pub rank : DesignKind → ℕ
rank fault.UnknownModule = 0
rank fault.ModuleCycle = 1
rank fault.UnsupportedCell = 2
rank fault.WidthMismatch = 3
rank fault.DoubleName = 4
rank fault.BadName = 5
rank fault.TwoDrivers = 6
rank fault.AssignCycle = 7
rank fault.TooMany = 8

-- one place and kind come before others, or are they
abbrev pub IsNoLater : ℕ → DesignKind → ℕ → DesignKind → Type 0
IsNoLater place kind other other_kind = (place < other) ⊎ ((place ≡ other) × (rank kind ≤ rank other_kind))

-- things have a first fault, where `Has place thing kind` says that the thing at the place has a fault of the kind
pub record IsFirstFault (Thing : Type 0) (Has : ℕ → Thing → DesignKind → Type 0) (line : Thing → ℕ) (things : List Thing) (first : At DesignKind) : Type 0 where
  pub place : ℕ
  pub thing : Thing
  pub is : slice_get things place ≡ Some thing
  pub has : Has place thing first.kind
  pub line_is : first.line ≡ line thing
  pub earliest : (other : ℕ) (other_thing : Thing) (kind : DesignKind) → slice_get things other ≡ Some other_thing
      → Has other other_thing kind → IsNoLater place first.kind other kind

abbrev pub HasNoFault : (Thing : Type 0) → (ℕ → Thing → DesignKind → Type 0) → List Thing → Type 0
HasNoFault Thing Has things =
    (place : ℕ) (thing : Thing) (kind : DesignKind) → slice_get things place ≡ Some thing → Has place thing kind → ⊥

-- ---- instances

abbrev pub InstanceHas : List Module → Library → ℕ → Placed → DesignKind → Type 0
InstanceHas modules library place placed kind = instance_fault modules library placed ≡ Some kind

abbrev pub instance_line : Placed → ℕ
instance_line placed = placed.instance.line

-- ---- limits

-- more than 1,000,000 pins, 4,000,000 instances at all levels or nets, or 100 levels
abbrev pub is_too_large : Flat → Bool
is_too_large f =
    nat_lt 1000000 (length f.pins)
    || (nat_lt 4000000 (length f.instances)
    || (nat_lt 4000000 (length f.nets)
    || list_any (λ (placed : Placed). nat_lt 100 (level placed)) f.instances))

-- ---- nets

abbrev pub is_among : List (List ℕ) → List ℕ → Bool
is_among names name = list_any (same_text name) names

-- an earlier net has the net's name; the name is bad; it has two or more sources; following sources can come back to it
abbrev pub NetHas : Flat → ℕ → FlatNet → DesignKind → Type 0
NetHas f place net fault.DoubleName = is_among (map net_name (take place f.nets)) (net_name net) ≡ true
NetHas f place net fault.BadName = is_good_name (net_name net) ≡ false
NetHas f place net fault.TwoDrivers = 2 ≤ length (sources f.drivers (bit_of net))
NetHas f place net fault.AssignCycle = ComesBack f.drivers (bit_of net)
NetHas f place net _ = ⊥

-- the line of a net's module
abbrev pub net_line : FlatNet → ℕ
net_line net = net.scope.body.line

-- ---- cells

abbrev pub cell_name : FlatCell → List ℕ
cell_name cell = full_name cell.is.placed

abbrev pub flat_pin_name : FlatPin → List ℕ
flat_pin_name pin = pin.name

abbrev pub cell_pin_name : FlatCell → LibPin → List ℕ
cell_pin_name cell pin = pin_name cell.is pin

-- a pin of the cell has the name of an earlier pin; ports count as pins
abbrev pub HasPinTwice : Flat → FlatCell → Type 0
HasPinTwice f cell = (at : ℕ) × (pin : LibPin) × (slice_get cell.is.kind.pins at ≡ Some pin)
    × (is_among (map flat_pin_name (take (cell.first + at) f.pins)) (cell_pin_name cell pin) ≡ true)

-- a pin of the cell has a bad name in the design, or an empty one in the library
abbrev pub HasBadPin : FlatCell → Type 0
HasBadPin cell = (at : ℕ) × (pin : LibPin) × (slice_get cell.is.kind.pins at ≡ Some pin)
    × ((is_good_name (cell_pin_name cell pin) ≡ false) ⊎ (pin.name ≡ []))

abbrev pub CellHas : Flat → ℕ → FlatCell → DesignKind → Type 0
CellHas f place cell fault.DoubleName =
    (is_among (map cell_name (take place f.cells)) (cell_name cell) ≡ true) ⊎ HasPinTwice f cell
CellHas f place cell fault.BadName = (is_good_name (cell_name cell) ≡ false) ⊎ HasBadPin cell
CellHas f place cell _ = ⊥

abbrev pub cell_line : FlatCell → ℕ
cell_line cell = instance_line cell.is.placed
