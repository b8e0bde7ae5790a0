-- The first fault of nets, then of cells. This project's own words.
-- It reads: at a place the kind that stands first counts, and among things the first place that has a fault.
use Rattle.std.specs.Prelude.{◌≡◌, ◌≤◌, ◌<◌, ◌+◌, ℕ, Bool, true, false, List, [], length, map, take, slice_get, Option, Some, None, Result, Ok, Err}
use Rattle.sdc_base.specs.declared.memory.At.{At}
use Rattle.source_types.specs.declared.fault_kinds.DesignKind.{DesignKind}
use Rattle.source_types.specs.declared.fault_kinds.DesignKind.TheVariants as fault
use Rattle.pin_types.specs.declared.library_cells.LibPin.{LibPin}
use Rattle.flat_model.specs.FlatDesign.{ComesBack, Flat, flat}
use Rattle.flat_model.specs.FlatFaults.{is_among, rank}
use Rattle.flat_model.specs.FlatNets.{NetBit, sources}
use Rattle.flat_model.specs.Flattening.{FirstOfCells, FirstOfNets, NoneOfCells, NoneOfNets}
use Rattle.text_model.specs.Names.{is_good_name}
use Rattle.flat_design.specs.declared.drivers.driver_edges.DriverEdge.{DriverEdge}
use Rattle.flat_design.specs.declared.elaborate.hierarchy.Hierarchy.{Hierarchy}
use Rattle.flat_design.specs.declared.names.name_marks.NameMarks.{NameMarks}
use Rattle.flat_design.specs.Hierarchy.{scopes_in}
use Rattle.flat_design.specs.NetNumbers.{IsNumber}
use Rattle.flat_design.specs.Repeats.{AreRepeats}
use Rattle.flat_design.specs.Sources.{Returns, driven_by, has_two}

abbrev pub flat_of : Hierarchy → Flat
flat_of design = flat design.modules.now design.library.now design.top.now

-- ---- tests

-- a test tells whether something holds
abbrev pub Tells : Bool → Type 0 → Type 0
Tells true Holds = Holds
Tells false Holds = Holds → ⊥

-- ---- the first fault

-- no kind of fault, or the one that stands first
abbrev pub IsFirstKind : (DesignKind → Type 0) → Option DesignKind → Type 0
IsFirstKind Has None = (kind : DesignKind) → Has kind → ⊥
IsFirstKind Has (Some kind) = Has kind × ((other : DesignKind) → Has other → rank kind ≤ rank other)

-- no thing before a place has a fault
abbrev pub HaveNoneBefore : (Thing : Type 0) → (ℕ → Thing → DesignKind → Type 0) → List Thing → ℕ → Type 0
HaveNoneBefore Thing Has things end =
    (place : ℕ) (thing : Thing) (kind : DesignKind) → place < end → slice_get things place ≡ Some thing → Has place thing kind → ⊥

-- no cell has a fault, or the first one has it
abbrev pub AreSoundCells : {T : Type 0} → Flat → Result T (At DesignKind) → Type 0
AreSoundCells f (Ok done) = NoneOfCells f
AreSoundCells f (Err first) = FirstOfCells f first

-- no net has a fault, or the first one has it
abbrev pub AreSoundNets : {T : Type 0} → Flat → Result T (At DesignKind) → Type 0
AreSoundNets f (Ok done) = NoneOfNets f
AreSoundNets f (Err first) = FirstOfNets f first

-- ---- names

-- of each name, whether an earlier one is the same, and whether it can be printed and read again
pub record AreMarks (names : List (List ℕ)) (marks : NameMarks) : Type 0 where
  pub repeats : AreRepeats names marks.repeats
  pub good : marks.good ≡ map is_good_name names

-- one of so many marks from a place on is this one
abbrev pub HasMark : List Bool → ℕ → ℕ → Bool → Type 0
HasMark marks first count mark = (at : ℕ) × (at < count) × (slice_get marks (first + at) ≡ Some mark)

-- the name of one of these pins is empty
abbrev pub HasUnnamed : List LibPin → Type 0
HasUnnamed pins = (at : ℕ) × (pin : LibPin) × (slice_get pins at ≡ Some pin) × (pin.name ≡ [])

-- ---- nets, by their numbers

-- an earlier net has the net's name; the name is bad; it has two sources; following sources can come back to it
abbrev pub NumberHas : List (List ℕ) → List DriverEdge → ℕ → List ℕ → DesignKind → Type 0
NumberHas names rows net name fault.DoubleName = is_among (take net names) name ≡ true
NumberHas names rows net name fault.BadName = is_good_name name ≡ false
NumberHas names rows net name fault.TwoDrivers = has_two rows net ≡ true
NumberHas names rows net name fault.AssignCycle = Returns rows net
NumberHas names rows net name _ = ⊥

-- rows say of each net what the drivers of a design say: how many sources it has, and whether following them can come
-- back
pub record AreSourcesOf (design : Hierarchy) (rows : List DriverEdge) : Type 0 where
  pub count : (net : ℕ) (bit : NetBit) → IsNumber (scopes_in design) net bit → length (sources (flat_of design).drivers bit) ≡ length (driven_by rows net)
  pub there : (net : ℕ) (bit : NetBit) → IsNumber (scopes_in design) net bit → Returns rows net → ComesBack (flat_of design).drivers bit
  pub back : (net : ℕ) (bit : NetBit) → IsNumber (scopes_in design) net bit → ComesBack (flat_of design).drivers bit → Returns rows net
