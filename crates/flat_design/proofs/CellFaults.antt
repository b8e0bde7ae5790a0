-- The faults of a cell by the marks of names.
use Rattle.std.proofs.Common.{◌≡◌, ◌+◌, ◌≤◌, ◌||◌, ◌⊎◌, inl, inr, ℕ, zero, suc, Bool, true, false, List, [], ◌∷◌, length, map, nat_eq, take, slice_get, Some, None, refl, sym, ◌∙◌, ap, subst, arith}
use Rattle.std.proofs.lemmas.Bool.Decides.{nat_tests}
use Rattle.std.proofs.lemmas.List.{take-map}
use Rattle.std.proofs.lemmas.Option.{slice_get_within}
use Rattle.std.specs.List.{list_any}
use Rattle.pin_types.specs.declared.library_cells.LibCell.{LibCell}
use Rattle.pin_types.specs.declared.library_cells.LibPin.{LibPin}
use Rattle.flat_model.specs.FlatDesign.{FlatCell, port_pins}
use Rattle.flat_model.specs.FlatFaults.{HasBadPin, HasPinTwice, cell_pin_name, flat_pin_name, is_among}
use Rattle.flat_model.specs.Instances.{PlacedCell}
use Rattle.text_model.specs.Names.{is_good_name}
use Rattle.text_model.proofs.ListFacts.{element_at}
use Rattle.flat_design.specs.declared.elaborate.hierarchy.Hierarchy.{Hierarchy}
use Rattle.flat_design.specs.declared.elaborate.elaboration.CellRow.{CellRow}
use Rattle.flat_design.specs.declared.names.name_marks.NameMarks.{NameMarks}
use Rattle.flat_design.specs.Hierarchy.{IsHierarchy, cell_name, cells_in, pins_of_design}
use Rattle.flat_design.specs.NamedFaults.{AreMarks, HasMark, HasUnnamed, Tells, flat_of}
use Rattle.flat_design.proofs.CellPlaces.{cell_back, names_before, pin_named_at, pins_fit, row_says}
use Rattle.flat_design.proofs.HierarchyFacts.{one_at}
use Rattle.flat_design.proofs.RangeFacts.{map_at}

-- ---- tests

-- what is after a test that failed
pub tells_after : (found : Bool) (First Rest : Type 0) → (First → ⊥) → Tells found Rest → Tells found (First ⊎ Rest)
tells_after true First Rest none has = inr has
tells_after false First Rest none has = λ either. elim either [ inl first ↦ none first | inr rest ↦ has rest ]

-- the same said in other words
pub tells_same : (found : Bool) (Said Meant : Type 0) → (Said → Meant) → (Meant → Said) → Tells found Said → Tells found Meant
tells_same true Said Meant to from has = to has
tells_same false Said Meant to from has = λ meant. has (from meant)

tells_either : (found later : Bool) (Here Later : Type 0) → Tells found Here → Tells later Later → Tells (found || later) (Here ⊎ Later)
tells_either true later Here Later here after = inl here
tells_either false later Here Later none after = tells_after later Here Later none after

tells_empty : (name : List ℕ) → Tells (nat_eq (length name) 0) (name ≡ [])
tells_empty [] = refl
tells_empty (byte ∷ name) =
    let no : nat_eq (length (byte ∷ name)) 0 ≡ false = grind (arith, nat_tests) in
    subst (λ (found : Bool). Tells found (byte ∷ name ≡ [])) (sym no) (λ same. let bad : byte ∷ name ≡ [] = same in cc)

-- an empty name is that of the first pin, or of one after it
unnamed_or : (pin : LibPin) (pins : List LibPin) → (pin.name ≡ []) ⊎ HasUnnamed pins → HasUnnamed (pin ∷ pins)
unnamed_or pin pins (inl here) = (0, pin, refl, here)
unnamed_or pin pins (inr later) = (suc later.0, later.1, later.2, later.3)

or_unnamed : (pin : LibPin) (pins : List LibPin) (at : ℕ) (one : LibPin) → slice_get (pin ∷ pins) at ≡ Some one → one.name ≡ [] → (pin.name ≡ []) ⊎ HasUnnamed pins
or_unnamed pin pins zero one is empty =
    let e : Some pin ≡ Some one = is in
    let same : pin ≡ one = cc in
    inl (ap (λ (p : LibPin). p.name) same ∙ empty)
or_unnamed pin pins (suc at) one is empty = inr (at, one, is, empty)

pub tells_unnamed : (pins : List LibPin) → Tells (list_any (λ (pin : LibPin). nat_eq (length pin.name) 0) pins) (HasUnnamed pins)
tells_unnamed [] = λ has. let bad : None ≡ Some has.1 = has.2 in cc
tells_unnamed (pin ∷ pins) =
    tells_same (nat_eq (length pin.name) 0 || list_any (λ (one : LibPin). nat_eq (length one.name) 0) pins) ((pin.name ≡ []) ⊎ HasUnnamed pins) (HasUnnamed (pin ∷ pins))
    (unnamed_or pin pins) (λ has. or_unnamed pin pins has.0 has.1 has.2 has.3)
    (tells_either (nat_eq (length pin.name) 0) (list_any (λ (one : LibPin). nat_eq (length one.name) 0) pins) (pin.name ≡ []) (HasUnnamed pins)
    (tells_empty pin.name) (tells_unnamed pins))

-- ---- marks

repeat_is : (names : List (List ℕ)) (marks : NameMarks) (n : ℕ) (name : List ℕ) → AreMarks names marks → slice_get names n ≡ Some name
    → slice_get marks.repeats n ≡ Some (is_among (take n names) name)
repeat_is names marks n name are at = are.repeats.each n name at

good_is : (names : List (List ℕ)) (marks : NameMarks) (n : ℕ) (name : List ℕ) → AreMarks names marks → slice_get names n ≡ Some name
    → slice_get marks.good n ≡ Some (is_good_name name)
good_is names marks n name are at = ap (λ (good : List Bool). slice_get good n) are.good ∙ map_at is_good_name names n name at

-- ---- the name of a cell

own_name : (design : Hierarchy) (n : ℕ) (cell : FlatCell) → slice_get (flat_of design).cells n ≡ Some cell
    → slice_get (map cell_name (cells_in design)) n ≡ Some (cell_name cell.is)
own_name design n cell at =
    map_at cell_name (cells_in design) n cell.is (cell_back (length (port_pins design.top.now)) (cells_in design) n cell at).0

pub own_repeat : (design : Hierarchy) (n : ℕ) (cell : FlatCell) (marks : NameMarks) (mark : Bool) → slice_get (flat_of design).cells n ≡ Some cell
    → AreMarks (map cell_name (cells_in design)) marks → slice_get marks.repeats n ≡ Some mark
    → is_among (map (λ (one : FlatCell). cell_name one.is) (take n (flat_of design).cells)) (cell_name cell.is) ≡ mark
own_repeat design n cell marks mark at are read =
    let names = map cell_name (cells_in design) in
    ap (λ (xs : List (List ℕ)). is_among xs (cell_name cell.is)) (names_before (length (port_pins design.top.now)) (cells_in design) n)
    ∙ one_at marks.repeats n (is_among (take n names) (cell_name cell.is)) mark (repeat_is names marks n (cell_name cell.is) are (own_name design n cell at)) read

pub own_good : (design : Hierarchy) (n : ℕ) (cell : FlatCell) (marks : NameMarks) (mark : Bool) → slice_get (flat_of design).cells n ≡ Some cell
    → AreMarks (map cell_name (cells_in design)) marks → slice_get marks.good n ≡ Some mark → is_good_name (cell_name cell.is) ≡ mark
own_good design n cell marks mark at are read =
    one_at marks.good n (is_good_name (cell_name cell.is)) mark
    (good_is (map cell_name (cells_in design)) marks n (cell_name cell.is) are (own_name design n cell at)) read

-- ---- the names of its pins

-- a pin of a cell by its name
pin_named : (design : Hierarchy) (n : ℕ) (cell : FlatCell) (at : ℕ) (pin : LibPin) → slice_get (flat_of design).cells n ≡ Some cell
    → slice_get cell.is.kind.pins at ≡ Some pin → slice_get (map flat_pin_name (pins_of_design design)) (cell.first + at) ≡ Some (cell_pin_name cell pin)
pin_named design n cell at pin cell_is pin_is =
    let own = cell_back (length (port_pins design.top.now)) (cells_in design) n cell cell_is in
    ap (λ (first : ℕ). slice_get (map flat_pin_name (pins_of_design design)) (first + at)) own.1 ∙ pin_named_at design n at cell.is pin own.0 pin_is

pin_repeat : (design : Hierarchy) (n : ℕ) (cell : FlatCell) (marks : NameMarks) (at : ℕ) (pin : LibPin) → slice_get (flat_of design).cells n ≡ Some cell
    → AreMarks (map flat_pin_name (pins_of_design design)) marks → slice_get cell.is.kind.pins at ≡ Some pin
    → slice_get marks.repeats (cell.first + at) ≡ Some (is_among (map flat_pin_name (take (cell.first + at) (pins_of_design design))) (cell_pin_name cell pin))
pin_repeat design n cell marks at pin cell_is are pin_is =
    repeat_is (map flat_pin_name (pins_of_design design)) marks (cell.first + at) (cell_pin_name cell pin) are (pin_named design n cell at pin cell_is pin_is)
    ∙ ap (λ (names : List (List ℕ)). Some (is_among names (cell_pin_name cell pin))) (take-map flat_pin_name (cell.first + at) (pins_of_design design))

pub twice_marked : (design : Hierarchy) (n : ℕ) (cell : FlatCell) (marks : NameMarks) → slice_get (flat_of design).cells n ≡ Some cell
    → AreMarks (map flat_pin_name (pins_of_design design)) marks → HasMark marks.repeats cell.first (length cell.is.kind.pins) true → HasPinTwice (flat_of design) cell
twice_marked design n cell marks cell_is are has =
    let pin = element_at cell.is.kind.pins has.0 has.1 in (
      has.0,
      pin.0,
      pin.1,
      one_at marks.repeats (cell.first + has.0)
          (is_among (map flat_pin_name (take (cell.first + has.0) (pins_of_design design))) (cell_pin_name cell pin.0)) true
          (pin_repeat design n cell marks has.0 pin.0 cell_is are pin.1) has.2,
    )

pub marked_twice : (design : Hierarchy) (n : ℕ) (cell : FlatCell) (marks : NameMarks) → slice_get (flat_of design).cells n ≡ Some cell
    → AreMarks (map flat_pin_name (pins_of_design design)) marks → HasPinTwice (flat_of design) cell → HasMark marks.repeats cell.first (length cell.is.kind.pins) true
marked_twice design n cell marks cell_is are has = (
  has.0,
  slice_get_within cell.is.kind.pins has.0 has.1 has.2,
  pin_repeat design n cell marks has.0 has.1 cell_is are has.2 ∙ ap (λ (mark : Bool). Some mark) has.3,
)

pin_good : (design : Hierarchy) (n : ℕ) (cell : FlatCell) (marks : NameMarks) (at : ℕ) (pin : LibPin) → slice_get (flat_of design).cells n ≡ Some cell
    → AreMarks (map flat_pin_name (pins_of_design design)) marks → slice_get cell.is.kind.pins at ≡ Some pin
    → slice_get marks.good (cell.first + at) ≡ Some (is_good_name (cell_pin_name cell pin))
pin_good design n cell marks at pin cell_is are pin_is =
    good_is (map flat_pin_name (pins_of_design design)) marks (cell.first + at) (cell_pin_name cell pin) are (pin_named design n cell at pin cell_is pin_is)

-- an empty name of a library pin, or a bad one in the design
pub bad_marked : (design : Hierarchy) (n : ℕ) (cell : FlatCell) (marks : NameMarks) → slice_get (flat_of design).cells n ≡ Some cell
    → AreMarks (map flat_pin_name (pins_of_design design)) marks
    → HasUnnamed cell.is.kind.pins ⊎ HasMark marks.good cell.first (length cell.is.kind.pins) false → HasBadPin cell
bad_marked design n cell marks cell_is are (inl has) = (has.0, has.1, has.2, inr has.3)
bad_marked design n cell marks cell_is are (inr has) =
    let pin = element_at cell.is.kind.pins has.0 has.1 in (
      has.0,
      pin.0,
      pin.1,
      inl (one_at marks.good (cell.first + has.0) (is_good_name (cell_pin_name cell pin.0)) false
          (pin_good design n cell marks has.0 pin.0 cell_is are pin.1) has.2),
    )

marked_one : (design : Hierarchy) (n : ℕ) (cell : FlatCell) (marks : NameMarks) (at : ℕ) (pin : LibPin) → slice_get (flat_of design).cells n ≡ Some cell
    → AreMarks (map flat_pin_name (pins_of_design design)) marks → slice_get cell.is.kind.pins at ≡ Some pin
    → (is_good_name (cell_pin_name cell pin) ≡ false) ⊎ (pin.name ≡ [])
    → HasUnnamed cell.is.kind.pins ⊎ HasMark marks.good cell.first (length cell.is.kind.pins) false
marked_one design n cell marks at pin cell_is are pin_is (inl bad) =
    inr (at, slice_get_within cell.is.kind.pins at pin pin_is, pin_good design n cell marks at pin cell_is are pin_is ∙ ap (λ (mark : Bool). Some mark) bad)
marked_one design n cell marks at pin cell_is are pin_is (inr empty) = inl (at, pin, pin_is, empty)

pub marked_bad : (design : Hierarchy) (n : ℕ) (cell : FlatCell) (marks : NameMarks) → slice_get (flat_of design).cells n ≡ Some cell
    → AreMarks (map flat_pin_name (pins_of_design design)) marks → HasBadPin cell
    → HasUnnamed cell.is.kind.pins ⊎ HasMark marks.good cell.first (length cell.is.kind.pins) false
marked_bad design n cell marks cell_is are has = marked_one design n cell marks has.0 has.1 cell_is are has.2 has.3

-- ---- what is told by the row of a cell

-- the marks of the pins of a cell are there
pub row_fits : (design : Hierarchy) (n : ℕ) (row : CellRow) (kind : LibCell) (marks : List Bool) → IsHierarchy design → slice_get design.elaboration.cells n ≡ Some row
    → ((cell : PlacedCell) → slice_get (cells_in design) n ≡ Some cell → kind ≡ cell.kind) → length marks ≡ length (map flat_pin_name (pins_of_design design))
    → row.first_pin + length kind.pins ≤ length marks
row_fits design n row kind marks is row_at kind_is count =
    let known = is.elaboration.cells n row row_at in
    let fit = pins_fit design n known.cell known.at in
    let own = ap (λ (one : LibCell). length one.pins) (kind_is known.cell known.at) in
    omega (arith, fit, own, known.first, count)

pub twice_told : (design : Hierarchy) (n : ℕ) (row : CellRow) (kind : LibCell) (cell : FlatCell) (marks : NameMarks) (found : Bool) → IsHierarchy design
    → slice_get design.elaboration.cells n ≡ Some row → ((one : PlacedCell) → slice_get (cells_in design) n ≡ Some one → kind ≡ one.kind)
    → AreMarks (map flat_pin_name (pins_of_design design)) marks → slice_get (flat_of design).cells n ≡ Some cell
    → Tells found (HasMark marks.repeats row.first_pin (length kind.pins) true) → Tells found (HasPinTwice (flat_of design) cell)
twice_told design n row kind cell marks found is row_at kind_is are at told =
    let says = row_says design n row cell is row_at at in
    let own : length kind.pins ≡ length cell.is.kind.pins = ap (λ (one : LibCell). length one.pins) (kind_is cell.is says.0) in
    tells_same found (HasMark marks.repeats cell.first (length cell.is.kind.pins) true) (HasPinTwice (flat_of design) cell)
    (twice_marked design n cell marks at are) (marked_twice design n cell marks at are)
    (subst (λ (first : ℕ). Tells found (HasMark marks.repeats first (length cell.is.kind.pins) true)) says.2
    (subst (λ (count : ℕ). Tells found (HasMark marks.repeats row.first_pin count true)) own told))

pub bad_told : (design : Hierarchy) (n : ℕ) (row : CellRow) (kind : LibCell) (cell : FlatCell) (marks : NameMarks) (found : Bool) → IsHierarchy design
    → slice_get design.elaboration.cells n ≡ Some row → ((one : PlacedCell) → slice_get (cells_in design) n ≡ Some one → kind ≡ one.kind)
    → AreMarks (map flat_pin_name (pins_of_design design)) marks → slice_get (flat_of design).cells n ≡ Some cell
    → Tells found (HasUnnamed kind.pins ⊎ HasMark marks.good row.first_pin (length kind.pins) false) → Tells found (HasBadPin cell)
bad_told design n row kind cell marks found is row_at kind_is are at told =
    let says = row_says design n row cell is row_at at in
    tells_same found (HasUnnamed cell.is.kind.pins ⊎ HasMark marks.good cell.first (length cell.is.kind.pins) false) (HasBadPin cell)
    (bad_marked design n cell marks at are) (marked_bad design n cell marks at are)
    (subst (λ (first : ℕ). Tells found (HasUnnamed cell.is.kind.pins ⊎ HasMark marks.good first (length cell.is.kind.pins) false)) says.2
    (subst (λ (one : LibCell). Tells found (HasUnnamed one.pins ⊎ HasMark marks.good row.first_pin (length one.pins) false)) (kind_is cell.is says.0) told))
