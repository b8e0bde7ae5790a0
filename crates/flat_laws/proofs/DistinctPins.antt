-- No two pins of a flat design have one place.
use Rattle.std.proofs.Common.{◌≡◌, ◌∙◌, ◌+◌, ◌-◌, ◌≤◌, ℕ, zero, suc, Bool, true, false, List, [], ◌∷◌, map, slice_get, nat_le, Option, Some, None, refl, sym, ap, subst, arith}
use Rattle.std.specs.Prelude.{if◌then◌else◌}
use Rattle.std.specs.List.{AllZip, enumerate_from, flat_map, zip}
use Rattle.std.proofs.lemmas.Option.{same_Some, slice_get-map, slice_get_within}
use Rattle.sdc_base.proofs.CaseFacts.{by_bool}
use Rattle.source_types.specs.declared.libraries.Library.{Library}
use Rattle.pin_types.specs.declared.library_cells.LibPin.{LibPin}
use Rattle.source_types.specs.declared.netlists.Bit.{Bit}
use Rattle.source_types.specs.declared.netlists.Module.{Module}
use Rattle.source_types.specs.declared.netlists.Port.{Port}
use Rattle.source_types.specs.declared.netlists.Range.{Range}
use Rattle.source_types.specs.declared.netlists.Wire.{Wire}
use Rattle.text_model.proofs.ListFacts.{front_at}
use Rattle.netlist_model.proofs.RangeFacts.{falling_length}
use Rattle.flat_model.specs.Connections.{connected, names_of, pins_of}
use Rattle.flat_model.specs.FlatDesign.{FlatPin, cell_pin, cell_pins, flat, pin_places, port_pin, port_pins}
use Rattle.flat_model.specs.FlatNets.{PinPlace, connected_pins, pin_of, port_bit}
use Rattle.flat_model.specs.Instances.{Meant, Placed, PlacedCell, a_cell, a_module, cell_at, cells_of, instances_of, meant, path_of, unknown}
use Rattle.netlist_model.specs.Ranges.{falling, from_to, indices, rising}
use Rattle.netlist_model.specs.WellFormedNetlist.{IsNetOfPort, IsWellFormedModule}
use Rattle.flat_laws.proofs.DistinctKeys.{IsKey, get_flat, get_map, key_append, key_cons, key_flat, key_kept, key_map, key_none}
use Rattle.flat_laws.proofs.DistinctPaths.{path_key}

-- ---- the indices of a range

rising_is : (n count i x : ℕ) → slice_get (rising n count) i ≡ Some x → x ≡ n + i
rising_is n zero i x at = cc
rising_is n (suc count) zero x at = let same : n ≡ x = cc in omega (arith, same)
rising_is n (suc count) (suc i) x at = let more = rising_is (n + 1) count i x at in omega (arith, more)

falling_is : (n count i x : ℕ) → slice_get (falling n count) i ≡ Some x → x ≡ n - i
falling_is n zero i x at = cc
falling_is n (suc count) zero x at = let same : n ≡ x = cc in omega (arith, same)
falling_is n (suc count) (suc i) x at = let more = falling_is (n - 1) count i x at in omega (arith, more)

abbrev itself : ℕ → ℕ
itself n = n

rising_key : (n count : ℕ) → IsKey itself (rising n count)
rising_key n count i j x y at_i at_j same =
    let a = rising_is n count i x at_i in
    let b = rising_is n count j y at_j in
    let e : x ≡ y = same in
    omega (arith, a, b, e)

falling_key : (n count : ℕ) → count ≤ n + 1 → IsKey itself (falling n count)
falling_key n count few i j x y at_i at_j same =
    let a = falling_is n count i x at_i in
    let b = falling_is n count j y at_j in
    let long = falling_length n count in
    let c = slice_get_within (falling n count) i x at_i in
    let d = slice_get_within (falling n count) j y at_j in
    let e : x ≡ y = same in
    omega (arith, a, b, c, d, e, few, long)

numbers_key : (left right : ℕ) → IsKey itself (from_to left right)
numbers_key left right =
    by_bool (λ b. IsKey itself (if b then rising left ((right - left) + 1) else falling left ((left - right) + 1))) (nat_le left right)
    (λ is. rising_key left ((right - left) + 1))
    (λ is. falling_key left ((left - right) + 1) (omega arith))

indices_key : (range : Option Range) → IsKey (λ (index : Option ℕ). index) (indices range)
indices_key None = key_cons (λ (index : Option ℕ). index) None [] (key_none (λ (index : Option ℕ). index)) (λ j y at same. let bad : None ≡ Some y = at in cc)
indices_key (Some range) =
    key_map (λ (i : ℕ). Some i) (λ (index : Option ℕ). index) (from_to range.left range.right)
    (λ i j x y at_i at_j same. numbers_key range.left range.right i j x y at_i at_j (same_Some x y same))

-- ---- ports

place_of : FlatPin → PinPlace
place_of pin = pin.place

zip_at : {A B : Type 0} (R : A → B → Type 0) (xs : List A) (ys : List B) → AllZip R xs ys → (i : ℕ) (x : A) → slice_get xs i ≡ Some x
    → (y : B) × (slice_get ys i ≡ Some y) × R x y
zip_at R [] ys all i x at = cc
zip_at R (w ∷ xs) [] all i x at = absurd all
zip_at R (w ∷ xs) (z ∷ ys) all zero x at = let one : w ≡ x = cc in (z, refl, subst (λ v. R v z) one all.0)
zip_at R (w ∷ xs) (z ∷ ys) all (suc i) x at = zip_at R xs ys all.1 i x at

-- the net of a port stands where the port does
net_name_at : (m : Module) → IsWellFormedModule m → (i : ℕ) (port : Port) → slice_get m.ports i ≡ Some port
    → slice_get (map (λ (net : Wire). net.name) m.nets) i ≡ Some port.name
net_name_at m well i port at =
    let own = well.ports in
    let wire = zip_at IsNetOfPort m.ports own.0 own.3 i port at in
    let net : slice_get m.nets i ≡ Some wire.0 = ap (λ (nets : List Wire). slice_get nets i) own.2 ∙ front_at own.0 own.1 i wire.0 wire.1 in
    rw (slice_get-map (λ (net : Wire). net.name) m.nets i, net, wire.2.0) refl

port_key : (m : Module) → IsWellFormedModule m → IsKey (λ (port : Port). port.name) m.ports
port_key m well i j p q at_i at_j same =
    well.names i j p.name (net_name_at m well i p at_i) (net_name_at m well j q at_j ∙ ap (λ (name : List ℕ). Some name) (sym same))

name_in : PinPlace → List ℕ
name_in (port_bit name index) = name
name_in (pin_of path pin) = path

index_in : PinPlace → Option ℕ
index_in (port_bit name index) = index
index_in (pin_of path pin) = Some pin

ports_key : (m : Module) → IsWellFormedModule m → IsKey place_of (port_pins m)
unfolding place_of name_in index_in
ports_key m well =
    key_flat (λ (port : Port). map (port_pin port) (indices port.range)) (λ (port : Port). port.name) place_of m.ports (port_key m well)
    (λ k port at. key_map (port_pin port) place_of (indices port.range)
    (λ i j x y at_i at_j same. indices_key port.range i j x y at_i at_j (ap index_in same)))
    (λ k l p q at_k at_l i j y z at_i at_j same.
    let a = get_map (port_pin p) (indices p.range) i y at_i in
    let b = get_map (port_pin q) (indices q.range) j z at_j in
    ap name_in (sym (ap place_of a.2) ∙ (same ∙ ap place_of b.2)))

-- ---- cells

cell_is : (placed : Placed) (what : Meant) (cell : PlacedCell)
    → (elim what [ a_module m ↦ None | a_cell kind ↦ Some (record { placed = placed; kind = kind }) | unknown ↦ None ]) ≡ Some cell → cell.placed ≡ placed
cell_is placed (a_module m) cell e = cc
cell_is placed (a_cell kind) cell e =
    let some : Some (record { placed = placed; kind = kind }) ≡ Some cell = e in
    let same : record { placed = placed; kind = kind } ≡ cell = cc in
    sym (ap (λ (c : PlacedCell). c.placed) same)
cell_is placed unknown cell e = cc

pub cell_placed : (modules : List Module) (library : Library) (placed : Placed) (cell : PlacedCell) → cell_at modules library placed ≡ Some cell → cell.placed ≡ placed
cell_placed modules library placed cell e = cell_is placed (meant modules library placed.instance.kind) cell e

abbrev cell_path : PlacedCell → List ℕ
cell_path cell = path_of cell.placed

cells_key : (modules : List Module) (library : Library) (top : Module) → IsKey cell_path (cells_of modules library top)
cells_key modules library top =
    key_kept (cell_at modules library) path_of cell_path (instances_of modules top)
    (λ placed cell e. ap path_of (cell_placed modules library placed cell e)) (path_key modules top)

numbered : {A : Type 0} (n : ℕ) (xs : List A) (i : ℕ) (item : ℕ × A) → slice_get (enumerate_from n xs) i ≡ Some item → (item.0 ≡ n + i) × (slice_get xs i ≡ Some item.1)
numbered n [] i item at = cc
numbered n (x ∷ xs) zero item at =
    let same : (n, x) ≡ item = cc in
    let plus : n ≡ n + 0 = omega arith in
    (sym (ap (λ (it : ℕ × _). it.0) same) ∙ plus, ap (λ (it : ℕ × _). Some it.1) same)
numbered n (x ∷ xs) (suc i) item at = let more = numbered (n + 1) xs i item at in (omega (arith, more.0), more.1)

numbered_key : (modules : List Module) (library : Library) (top : Module) → IsKey (λ (item : ℕ × PlacedCell). cell_path item.1) (enumerate_from 0 (cells_of modules library top))
numbered_key modules library top i j x y at_i at_j same =
    cells_key modules library top i j x.1 y.1 (numbered 0 (cells_of modules library top) i x at_i).1 (numbered 0 (cells_of modules library top) j y at_j).1 same

zip_first : {A B : Type 0} (xs : List A) (ys : List B) (i : ℕ) (pair : A × B) → slice_get (zip xs ys) i ≡ Some pair → slice_get xs i ≡ Some pair.0
zip_first [] ys i pair at = cc
zip_first (x ∷ xs) [] i pair at = cc
zip_first (x ∷ xs) (y ∷ ys) zero pair at = let same : (x, y) ≡ pair = cc in ap (λ (p : _ × _). Some p.0) same
zip_first (x ∷ xs) (y ∷ ys) (suc i) pair at = zip_first xs ys i pair at

abbrev pin_number : (ℕ × LibPin) × List Bit → ℕ
pin_number pin = pin.0.0

connected_key : (cell : PlacedCell) → IsKey pin_number (connected_pins cell)
connected_key cell i j x y at_i at_j same =
    let bits = connected (names_of (pins_of cell.kind)) cell.placed.instance.links in
    let a = (numbered 0 cell.kind.pins i x.0 (zip_first (enumerate_from 0 cell.kind.pins) bits i x at_i)).0 in
    let b = (numbered 0 cell.kind.pins j y.0 (zip_first (enumerate_from 0 cell.kind.pins) bits j y at_j)).0 in
    let e : x.0.0 ≡ y.0.0 = same in
    omega (arith, a, b, e)

number_in : Option ℕ → ℕ
number_in None = 0
number_in (Some n) = n

cell_pins_key : (item : ℕ × PlacedCell) → IsKey place_of (cell_pins item)
unfolding place_of index_in number_in
cell_pins_key item =
    key_map (cell_pin item.0 item.1) place_of (connected_pins item.1)
    (λ i j x y at_i at_j same. connected_key item.1 i j x y at_i at_j (ap (λ place. number_in (index_in place)) same))

inner_key : (modules : List Module) (library : Library) (top : Module) → IsKey place_of (flat_map cell_pins (enumerate_from 0 (cells_of modules library top)))
unfolding place_of name_in
inner_key modules library top =
    key_flat cell_pins (λ (item : ℕ × PlacedCell). cell_path item.1) place_of (enumerate_from 0 (cells_of modules library top)) (numbered_key modules library top)
    (λ k item at. cell_pins_key item)
    (λ k l p q at_k at_l i j y z at_i at_j same.
    let a = get_map (cell_pin p.0 p.1) (connected_pins p.1) i y at_i in
    let b = get_map (cell_pin q.0 q.1) (connected_pins q.1) j z at_j in
    ap name_in (sym (ap place_of a.2) ∙ (same ∙ ap place_of b.2)))

-- ---- all pins

is_port : PinPlace → Bool
is_port (port_bit name index) = true
is_port (pin_of path pin) = false

port_is : (m : Module) (i : ℕ) (pin : FlatPin) → slice_get (port_pins m) i ≡ Some pin → is_port pin.place ≡ true
unfolding is_port
port_is m i pin at =
    let part = get_flat (λ (port : Port). map (port_pin port) (indices port.range)) m.ports i pin at in
    let own = get_map (port_pin part.1) (indices part.1.range) part.2 pin part.4 in
    ap (λ (p : FlatPin). is_port p.place) own.2

inner_is : (cells : List (ℕ × PlacedCell)) (i : ℕ) (pin : FlatPin) → slice_get (flat_map cell_pins cells) i ≡ Some pin → is_port pin.place ≡ false
unfolding is_port
inner_is cells i pin at =
    let part = get_flat cell_pins cells i pin at in
    let own = get_map (cell_pin part.1.0 part.1.1) (connected_pins part.1.1) part.2 pin part.4 in
    ap (λ (p : FlatPin). is_port p.place) own.2

pin_key : (modules : List Module) (library : Library) (top : Module) → IsWellFormedModule top → IsKey place_of (flat modules library top).pins
unfolding place_of
pin_key modules library top well =
    key_append place_of (port_pins top) (flat_map cell_pins (enumerate_from 0 (cells_of modules library top))) (ports_key top well) (inner_key modules library top)
    (λ i j x y at_i at_j same.
    let yes = port_is top i x at_i in
    let no = inner_is (enumerate_from 0 (cells_of modules library top)) j y at_j in
    let bad : true ≡ false = sym yes ∙ (ap is_port same ∙ no) in
    cc)

-- so a place has one number
pub place_once : (modules : List Module) (library : Library) (top : Module) → IsWellFormedModule top → (i j : ℕ) (place : PinPlace)
    → slice_get (pin_places (flat modules library top)) i ≡ Some place → slice_get (pin_places (flat modules library top)) j ≡ Some place → i ≡ j
unfolding place_of
place_once modules library top well i j place at_i at_j =
    let pins = (flat modules library top).pins in
    let a = get_map (λ (pin : FlatPin). pin.place) pins i place at_i in
    let b = get_map (λ (pin : FlatPin). pin.place) pins j place at_j in
    pin_key modules library top well i j a.0 b.0 a.1 b.1 (sym a.2 ∙ b.2)
