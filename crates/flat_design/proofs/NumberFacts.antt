-- The number of a net bit: the first net of its module instance, its net in the module, and its place in the
-- net.
use Rattle.std.proofs.Common.{◌≡◌, ◌+◌, ◌-◌, ◌<◌, ◌≤◌, ℕ, zero, suc, min, Bool, true, false, cond, List, [], ◌∷◌, ◌++◌, map, length, take, slice_get, Option, Some, None, refl, sym, ◌∙◌, ap, subst, arith}
use Rattle.std.proofs.lemmas.Bool.{cond-false, cond-true, le-leb, lt-leb}
use Rattle.std.proofs.lemmas.List.{length-append, length-map}
use Rattle.std.proofs.lemmas.List.Concat.{length-flat_map}
use Rattle.std.proofs.lemmas.List.Sums.{sum_by-cons, sum_by-take-le}
use Rattle.std.proofs.lemmas.Option.{slice_get_within}
use Rattle.std.proofs.lemmas.Slice.Eq.{bytes_eq-Decides}
use Rattle.std.specs.List.{flat_map, sum_by}
use Rattle.source_types.specs.declared.netlists.Wire.{Wire}
use Rattle.flat_model.specs.FlatNets.{NetBit, bit_of, net_bit, nets_in, wire_nets}
use Rattle.flat_model.specs.Instances.{ModuleInstance}
use Rattle.netlist_model.specs.Ranges.{from_to, indices, span, width}
use Rattle.text_model.specs.Names.{AreDistinct}
use Rattle.netlist_model.specs.WellFormedNetlist.{IsNetBit, Selects}
use Rattle.text_model.specs.Words.{same_text}
use Rattle.text_model.proofs.ListFacts.{front_at}
use Rattle.netlist_model.proofs.RangeFacts.{indices_length}
use Rattle.flat_design.specs.Elaboration.{capped, nets_of}
use Rattle.flat_design.specs.Names.{next_place, place_of}
use Rattle.flat_design.specs.NetNumbers.{IsNumber, net_names, net_starts}
use Rattle.flat_design.proofs.DistinctBits.{net_of}
use Rattle.flat_design.proofs.CountFacts.{nets_length, same_sum}
use Rattle.flat_design.proofs.InstanceFaults.{found_at}
use Rattle.flat_design.proofs.PlaceFacts.{place_in}
use Rattle.flat_design.proofs.RangeFacts.{down_at, map_at, up_at}

-- ---- parts that are joined

pub after_at : {Y : Type 0} (front ys : List Y) (n : ℕ) (y : Y) → slice_get ys n ≡ Some y → slice_get (front ++ ys) (length front + n) ≡ Some y
after_at [] ys n y at = let e : 0 + n ≡ n = omega arith in ap (slice_get ys) e ∙ at
after_at (z ∷ front) ys n y at =
    let e : length (z ∷ front) + n ≡ suc (length front + n) = omega arith in
    ap (slice_get (z ∷ (front ++ ys))) e ∙ after_at front ys n y at

-- a thing of a part stands after all parts before it
pub flat_at : {X Y : Type 0} (f : X → List Y) (xs : List X) (i j : ℕ) (x : X) (y : Y) → slice_get xs i ≡ Some x → slice_get (f x) j ≡ Some y
    → slice_get (flat_map f xs) (length (flat_map f (take i xs)) + j) ≡ Some y
flat_at f [] i j x y at inner = let bad : None ≡ Some x = at in cc
flat_at f (z ∷ xs) zero j x y at inner =
    let e : Some z ≡ Some x = at in
    let same : x ≡ z = cc in
    let none : 0 + j ≡ j = omega arith in
    ap (slice_get (f z ++ flat_map f xs)) none ∙ front_at (f z) (flat_map f xs) j y (ap (λ w. slice_get (f w) j) (sym same) ∙ inner)
flat_at f (z ∷ xs) (suc i) j x y at inner =
    let a = length-append (f z) (flat_map f (take i xs)) in
    let e : length (f z ++ flat_map f (take i xs)) + j ≡ length (f z) + (length (flat_map f (take i xs)) + j) = omega (arith, a) in
    ap (slice_get (f z ++ flat_map f xs)) e
    ∙ after_at (f z) (flat_map f xs) (length (flat_map f (take i xs)) + j) y (flat_at f xs i j x y at inner)

-- ---- the first bits of the nets of a module

abbrev pub bits_before : List Wire → ℕ
bits_before nets = sum_by (λ (net : Wire). width net.range) nets

pub start_is : (start : ℕ) (nets : List Wire) (k s : ℕ) → start ≤ 4000002 → slice_get (net_starts start nets) k ≡ Some s → s ≡ min (start + bits_before (take k nets)) 4000002
start_is start [] k s low at = let bad : None ≡ Some s = at in cc
start_is start (net ∷ nets) zero s low at =
    let e : Some start ≡ Some s = at in
    let same : s ≡ start = cc in
    let none : bits_before [] ≡ 0 = refl in
    omega (arith, same, none, low)
start_is start (net ∷ nets) (suc k) s low at =
    let rest = start_is (capped start (width net.range)) nets k s (omega arith) at in
    let more = sum_by-cons (λ (one : Wire). width one.range) net (take k nets) in
    omega (arith, rest, more)

-- ---- the net of a name

named_step : {X : Type 0} (name : X → List ℕ) (z : X) (xs : List X) (q : List ℕ) (p : ℕ) (x : X) (t : Bool) (later : Option ℕ) → same_text (name z) q ≡ t
    → ((k : ℕ) → later ≡ Some k → slice_get xs k ≡ Some x → name x ≡ q)
    → cond t (Some 0) (next_place later) ≡ Some p → slice_get (z ∷ xs) p ≡ Some x → name x ≡ q
named_step name z xs q p x true later is rest at found =
    let e : Some 0 ≡ Some p = at in
    let zero_is : p ≡ 0 = cc in
    let there : Some z ≡ Some x = sym (ap (slice_get (z ∷ xs)) zero_is) ∙ found in
    let same : z ≡ x = cc in
    sym (ap name same) ∙ (bytes_eq-Decides (name z) q).0 is
named_step name z xs q p x false None is rest at found = let bad : None ≡ Some p = at in cc
named_step name z xs q p x false (Some k) is rest at found =
    let e : Some (suc k) ≡ Some p = at in
    let next : p ≡ suc k = cc in
    rest k refl (sym (ap (slice_get (z ∷ xs)) next) ∙ found)

found_name : {X : Type 0} (name : X → List ℕ) (xs : List X) (q : List ℕ) (p : ℕ) (x : X) → place_of (map name xs) q ≡ Some p → slice_get xs p ≡ Some x → name x ≡ q
found_name name [] q p x at found = let bad : None ≡ Some x = found in cc
found_name name (z ∷ xs) q p x at found =
    named_step name z xs q p x (same_text (name z) q) (place_of (map name xs) q) refl (λ k e there. found_name name xs q k x e there) at found

-- a name that stands somewhere has a place
missing_step : (first q : List ℕ) (t : Bool) (later : Option ℕ) → cond t (Some 0) (next_place later) ≡ None → (t ≡ false) × (later ≡ None)
missing_step first q true later e = let bad : Some 0 ≡ None = e in cc
missing_step first q false None e = (refl, refl)
missing_step first q false (Some k) e = let bad : Some (suc k) ≡ None = e in cc

missing : (names : List (List ℕ)) (q : List ℕ) (k : ℕ) → place_of names q ≡ None → slice_get names k ≡ Some q → ⊥
missing [] q k none at = let bad : None ≡ Some q = at in cc
missing (first ∷ rest) q zero none at =
    let parts = missing_step first q (same_text first q) (place_of rest q) none in
    let e : Some first ≡ Some q = at in
    let same : first ≡ q = cc in
    let yes : same_text first q ≡ true = (bytes_eq-Decides first q).1 same in
    let bad : true ≡ false = sym yes ∙ parts.0 in
    cc
missing (first ∷ rest) q (suc k) none at =
    missing rest q k (missing_step first q (same_text first q) (place_of rest q) none).1 at

pub has_place : (nets : List Wire) (name : List ℕ) (index : Option ℕ) → IsNetBit nets name index → place_of (net_names nets) name ≡ None → ⊥
has_place nets name index is none =
    let at = place_in nets is.0 is.1 in
    missing (net_names nets) name at.0 none (map_at (λ (net : Wire). net.name) nets at.0 is.0 at.1 ∙ ap (λ (n : List ℕ). Some n) is.2)

-- the net at the place of a name is the one that has it
pub net_there : (nets : List Wire) (name : List ℕ) (index : Option ℕ) (w : ℕ) → AreDistinct (net_names nets) → (is : IsNetBit nets name index)
    → place_of (net_names nets) name ≡ Some w → slice_get nets w ≡ Some is.0
net_there nets name index w distinct is at =
    let here = place_in nets is.0 is.1 in
    let found = found_at (λ (net : Wire). net.name) nets name w at in
    let named : found.0.name ≡ name = found_name (λ (net : Wire). net.name) nets name w found.0 at found.1 in
    let a : slice_get (net_names nets) w ≡ Some name = map_at (λ (net : Wire). net.name) nets w found.0 found.1 ∙ ap (λ (n : List ℕ). Some n) named in
    let b : slice_get (net_names nets) here.0 ≡ Some name = map_at (λ (net : Wire). net.name) nets here.0 is.0 here.1 ∙ ap (λ (n : List ℕ). Some n) is.2 in
    let same : w ≡ here.0 = distinct w here.0 name a b in
    ap (slice_get nets) same ∙ here.1

-- ---- the number

bits_le : (nets : List Wire) (k : ℕ) → bits_before (take k nets) ≤ bits_before nets
bits_le nets k = sum_by-take-le (λ (net : Wire). width net.range) nets k

-- a module has no more nets than the design
pub module_nets_le : (scopes : List ModuleInstance) (k : ℕ) (scope : ModuleInstance) → slice_get scopes k ≡ Some scope → length (nets_in scope) ≤ nets_of scopes
module_nets_le [] k scope at = let bad : None ≡ Some scope = at in cc
module_nets_le (s ∷ scopes) zero scope at =
    let e : Some s ≡ Some scope = at in
    let same : s ≡ scope = cc in
    let one = ap (λ (x : ModuleInstance). length (nets_in x)) same in
    let a = length-append (nets_in s) (flat_map nets_in scopes) in
    omega (arith, one, a)
module_nets_le (s ∷ scopes) (suc k) scope at =
    let rest = module_nets_le scopes k scope at in
    let a = length-append (nets_in s) (flat_map nets_in scopes) in
    omega (arith, rest, a)

wire_length : (scope : ModuleInstance) (net : Wire) → length (wire_nets scope net) ≡ width net.range
wire_length scope net = length-map (indices net.range) (net_of scope net) ∙ indices_length net.range

wires_before : (scope : ModuleInstance) (k : ℕ) → length (flat_map (wire_nets scope) (take k scope.body.nets)) ≡ bits_before (take k scope.body.nets)
wires_before scope k =
    length-flat_map (wire_nets scope) (take k scope.body.nets)
    ∙ same_sum (λ (net : Wire). length (wire_nets scope net)) (λ (net : Wire). width net.range)
    (λ net. wire_length scope net) (take k scope.body.nets)

-- where a bit of a net stands among those of its module
in_module : (scope : ModuleInstance) (w : ℕ) (net : Wire) (off : ℕ) (index : Option ℕ) → slice_get scope.body.nets w ≡ Some net → slice_get (indices net.range) off ≡ Some index
    → slice_get (nets_in scope) (length (flat_map (wire_nets scope) (take w scope.body.nets)) + off) ≡ Some (net_of scope net index)
in_module scope w net off index at found =
    flat_at (wire_nets scope) scope.body.nets w off net (net_of scope net index) at (map_at (net_of scope net) (indices net.range) off index found)

pub number_is : (scopes : List ModuleInstance) (k : ℕ) (scope : ModuleInstance) (w : ℕ) (name : List ℕ) (index : Option ℕ) (first start off : ℕ) → slice_get scopes k ≡ Some scope
    → (is : IsNetBit scope.body.nets name index) → slice_get scope.body.nets w ≡ Some is.0 → nets_of scopes ≤ 4000000
    → first ≡ nets_of (take k scopes) → slice_get (net_starts 0 scope.body.nets) w ≡ Some start → slice_get (indices is.0.range) off ≡ Some index
    → IsNumber scopes (first + start + off) (net_bit scope.path name index)
number_is scopes k scope w name index first start off at is net_at few first_is start_at found =
    let bits = start_is 0 scope.body.nets w start (omega arith) start_at in
    let before = wires_before scope w in
    let low = bits_le scope.body.nets w in
    let own = nets_length scope in
    let fewer = module_nets_le scopes k scope at in
    let here : slice_get (flat_map nets_in scopes) (length (flat_map nets_in (take k scopes)) + (length (flat_map (wire_nets scope) (take w scope.body.nets)) + off))
    ≡ Some (net_of scope is.0 index) =
    flat_at nets_in scopes k (length (flat_map (wire_nets scope) (take w scope.body.nets)) + off) scope (net_of scope is.0 index) at
    (in_module scope w is.0 off index net_at found) in
    let same : first + start + off ≡ length (flat_map nets_in (take k scopes)) + (length (flat_map (wire_nets scope) (take w scope.body.nets)) + off) =
    omega (arith, bits, before, low, own, fewer, few, first_is) in
    map_at bit_of (flat_map nets_in scopes) (first + start + off) (net_of scope is.0 index) (ap (slice_get (flat_map nets_in scopes)) same ∙ here)
    ∙ ap (λ (n : List ℕ). Some (net_bit scope.path n index)) is.2

-- ---- the place of an index

pub up_index : (left right i : ℕ) → left ≤ right → left ≤ i → i ≤ right → slice_get (from_to left right) (i - left) ≡ Some i
up_index left right i low first last =
    let within : i - left < span left right = subst (λ (n : ℕ). i - left < n) (sym (cond-true _ _ _ (le-leb left right low))) (omega (arith, first, last)) in
    let same : left + (i - left) ≡ i = omega (arith, first) in
    up_at left right (i - left) low within ∙ ap (λ (n : ℕ). Some n) same

pub down_index : (left right i : ℕ) → right < left → right ≤ i → i ≤ left → slice_get (from_to left right) (left - i) ≡ Some i
down_index left right i low first last =
    let within : left - i < span left right = subst (λ (n : ℕ). left - i < n) (sym (cond-false _ _ _ (lt-leb left right low))) (omega (arith, first, last)) in
    let same : left - (left - i) ≡ i = omega (arith, last) in
    down_at left right (left - i) low within ∙ ap (λ (n : ℕ). Some n) same

pub scalar_index : (index : Option ℕ) → Selects index None → slice_get (indices None) 0 ≡ Some index
scalar_index None is = refl
scalar_index (Some i) is = absurd is

-- ---- that the number is one

pub number_small : (scopes : List ModuleInstance) (number : ℕ) (bit : NetBit) → nets_of scopes ≤ 4000000 → IsNumber scopes number bit → number < 4000000
number_small scopes number bit few is =
    let low = slice_get_within (map bit_of (flat_map nets_in scopes)) number bit is in
    let count : length (map bit_of (flat_map nets_in scopes)) ≡ nets_of scopes = length-map (flat_map nets_in scopes) bit_of in
    omega (arith, low, count, few)

pub starts_length : (start : ℕ) (nets : List Wire) → length (net_starts start nets) ≡ length nets
starts_length start [] = refl
starts_length start (net ∷ nets) = let e = starts_length (capped start (width net.range)) nets in omega (arith, e)

pub nets_before_le : (scopes : List ModuleInstance) (k : ℕ) → nets_of (take k scopes) ≤ nets_of scopes
nets_before_le scopes k =
    let a = length-flat_map nets_in (take k scopes) in
    let b = length-flat_map nets_in scopes in
    let c = sum_by-take-le (λ (scope : ModuleInstance). length (nets_in scope)) scopes k in
    omega (arith, a, b, c)
