-- Whatever is driven in a flat design is one of its nets.
use Rattle.std.proofs.Common.{◌≡◌, ◌⊎◌, ◌∙◌, ◌+◌, ◌-◌, ◌<◌, ◌≤◌, inl, inr, ℕ, zero, suc, Bool, true, false, List, [], ◌∷◌, ◌++◌, length, map, nat_le, Option, Some, None, refl, sym, ap, subst, arith}
use Rattle.std.specs.Prelude.{if◌then◌else◌}
use Rattle.std.specs.List.{All, AllZip, Contains, cons_option, enumerate_from, filter_map, find, flat_map, list_any, zip}
use Rattle.std.proofs.lemmas.Bool.{leb-false, leb-true}
use Rattle.sdc_base.proofs.CaseFacts.{by_bool}
use Rattle.source_types.specs.declared.libraries.Library.{Library}
use Rattle.pin_types.specs.declared.library_cells.Direction.{Direction}
use Rattle.pin_types.specs.declared.library_cells.Direction.TheVariants as direction
use Rattle.pin_types.specs.declared.library_cells.LibPin.{LibPin}
use Rattle.source_types.specs.declared.netlists.Assign.{Assign}
use Rattle.source_types.specs.declared.netlists.Bit.{Bit}
use Rattle.source_types.specs.declared.netlists.Bit.TheVariants as bits
use Rattle.source_types.specs.declared.netlists.Instance.{Instance}
use Rattle.source_types.specs.declared.netlists.Link.{Link}
use Rattle.source_types.specs.declared.netlists.Links.{Links}
use Rattle.source_types.specs.declared.netlists.Links.TheVariants as links
use Rattle.source_types.specs.declared.netlists.Module.{Module}
use Rattle.source_types.specs.declared.netlists.Port.{Port}
use Rattle.source_types.specs.declared.netlists.Range.{Range}
use Rattle.source_types.specs.declared.netlists.Wire.{Wire}
use Rattle.flat_model.specs.Connections.{bits_named, connected, named_bits, names_of, ordered_bits, pins_of, ports_of}
use Rattle.flat_model.specs.FlatNets.{NetDriver, FlatNet, NetBit, Origin, across, assign_drivers, bit_of, boundary_drivers, cell_drivers, connected_pins, drive, drivers_of, from_pin, from_value, net_at, net_bit, nets_in, origin_at, output_drivers, pin_of, port_bit, port_bits, port_drivers, scope_drivers, tie_drivers, top_port_drivers, wire_nets}
use Rattle.flat_model.specs.Instances.{Placed, PlacedCell, ModuleInstance, below, cell_at, cells_of, entered, instances_of, module_named, path_of, placed_in, scope_for, scopes_of, top_scope}
use Rattle.netlist_model.specs.Ranges.{falling, from_to, indices, rising}
use Rattle.netlist_model.specs.WellFormedNetlist.{IsAssignOf, IsBitOf, IsDriven, IsNetBit, IsNetOfPort, IsWellFormedModule, Selects, linked}
use Rattle.text_model.specs.Words.{same_text}
use Rattle.flat_laws.proofs.DistinctPaths.{entered_parts, listed}
use Rattle.flat_laws.proofs.DistinctPins.{cell_placed}
use Rattle.text_model.proofs.Members.{In, find_in, from_map, in_either, in_flat, in_left, in_map, in_right}

-- ---- what is in lists that are made of others

pub from_contains : {A : Type 0} (xs : List A) (x : A) → Contains xs x → In x xs
from_contains [] x has = absurd (omega (arith, has.1))
from_contains (y ∷ xs) x (zero, within, is) = inl (sym is)
from_contains (y ∷ xs) x (suc n, within, is) = inr (from_contains xs x (n, omega (arith, within), is))

pub each_in : {A : Type 0} (P : A → Type 0) (xs : List A) (x : A) → All P xs → In x xs → P x
each_in P [] x all at = absurd at
each_in P (y ∷ xs) x all (inl e) = subst P (sym e) (all 0 y (omega arith))
each_in P (y ∷ xs) x all (inr at) = each_in P xs x (λ n d within. all (suc n) d (omega (arith, within))) at

from_flat : {A B : Type 0} (f : A → List B) (y : B) (xs : List A) → In y (flat_map f xs) → (x : A) × In x xs × In y (f x)
from_flat f y [] h = absurd h
from_flat f y (x ∷ xs) h =
    elim (in_either y (f x) (flat_map f xs) h) [
      | inl here ↦ (x, inl refl, here)
      | inr more ↦ let r = from_flat f y xs more in (r.0, inr r.1, r.2)
    ]

kept_step : {A B : Type 0} (f : A → Option B) (y : B) (x : A) (xs : List A) (o : Option B) → f x ≡ o
    → (In y (filter_map f xs) → (z : A) × In z xs × (f z ≡ Some y)) → In y (cons_option o (filter_map f xs)) → (z : A) × In z (x ∷ xs) × (f z ≡ Some y)
kept_step f y x xs None is rest h = let r = rest h in (r.0, inr r.1, r.2)
kept_step f y x xs (Some w) is rest (inl e) = (x, inl refl, is ∙ ap (λ v. Some v) (sym e))
kept_step f y x xs (Some w) is rest (inr h) = let r = rest h in (r.0, inr r.1, r.2)

from_kept : {A B : Type 0} (f : A → Option B) (y : B) (xs : List A) → In y (filter_map f xs) → (x : A) × In x xs × (f x ≡ Some y)
from_kept f y [] h = absurd h
from_kept f y (x ∷ xs) h = kept_step f y x xs (f x) refl (from_kept f y xs) h

from_zip : {A B : Type 0} (pair : A × B) (xs : List A) (ys : List B) → In pair (zip xs ys) → In pair.0 xs × In pair.1 ys
from_zip pair [] ys h = absurd h
from_zip pair (x ∷ xs) [] h = absurd h
from_zip pair (x ∷ xs) (y ∷ ys) (inl e) = (inl (ap (λ (p : _ × _). p.0) e), inl (ap (λ (p : _ × _). p.1) e))
from_zip pair (x ∷ xs) (y ∷ ys) (inr h) = let r = from_zip pair xs ys h in (inr r.0, inr r.1)

-- ---- nets of a module where it stands

rising_has : (n count i : ℕ) → n ≤ i → i < n + count → In i (rising n count)
rising_has n zero i low high = absurd (omega (arith, low, high))
rising_has n (suc count) i low high =
    by_bool (λ b. In i (n ∷ rising (n + 1) count)) (nat_le i n)
    (λ is. let e = leb-true i n is in inl (omega (arith, e, low)))
    (λ is. let e = leb-false i n is in inr (rising_has (n + 1) count i (omega (arith, e)) (omega (arith, high))))

falling_has : (n count i : ℕ) → i ≤ n → n < i + count → In i (falling n count)
falling_has n zero i low high = absurd (omega (arith, low, high))
falling_has n (suc count) i low high =
    by_bool (λ b. In i (n ∷ falling (n - 1) count)) (nat_le n i)
    (λ is. let e = leb-true n i is in inl (omega (arith, e, low)))
    (λ is. let e = leb-false n i is in inr (falling_has (n - 1) count i (omega (arith, e)) (omega (arith, high, e))))

between_has : (left right i : ℕ) → ((left ≤ i) × (i ≤ right)) ⊎ ((right ≤ i) × (i ≤ left)) → In i (from_to left right)
between_has left right i (inl is) =
    by_bool (λ b. In i (if b then rising left ((right - left) + 1) else falling left ((left - right) + 1))) (nat_le left right)
    (λ up. rising_has left ((right - left) + 1) i is.0 (omega (arith, is.0, is.1)))
    (λ down. let e = leb-false left right down in absurd (omega (arith, e, is.0, is.1)))
between_has left right i (inr is) =
    by_bool (λ b. In i (if b then rising left ((right - left) + 1) else falling left ((left - right) + 1))) (nat_le left right)
    (λ up. let e = leb-true left right up in rising_has left ((right - left) + 1) i (omega (arith, e, is.0, is.1)) (omega (arith, e, is.0, is.1)))
    (λ down. falling_has left ((left - right) + 1) i is.1 (omega (arith, is.0, is.1)))

selected : (index : Option ℕ) (range : Option Range) → Selects index range → In index (indices range)
selected None None is = inl refl
selected (Some i) (Some range) is = in_map (λ (n : ℕ). Some n) i (from_to range.left range.right) (between_has range.left range.right i is)
selected None (Some range) is = absurd is
selected (Some i) None is = absurd is

-- a net of a design, as it is listed
abbrev pub IsListed : List Module → Module → NetBit → Type 0
IsListed modules top bit = (net : FlatNet) × In net (flat_map nets_in (scopes_of modules top)) × (bit_of net ≡ bit)

abbrev net_of : ModuleInstance → Wire → Option ℕ → FlatNet
net_of scope wire index = record { scope = scope; wire = wire; index = index }

wire_listed : (modules : List Module) (top : Module) (scope : ModuleInstance) (wire : Wire) (index : Option ℕ) → In scope (scopes_of modules top) → In wire scope.body.nets
    → In index (indices wire.range) → IsListed modules top (net_bit scope.path wire.name index)
wire_listed modules top scope wire index at has among = (
  net_of scope wire index,
  in_flat nets_in (scopes_of modules top) scope (net_of scope wire index) at
      (in_flat (wire_nets scope) scope.body.nets wire (net_of scope wire index) has (in_map (net_of scope wire) index (indices wire.range) among)),
  refl,
)

net_listed : (modules : List Module) (top : Module) (scope : ModuleInstance) (name : List ℕ) (index : Option ℕ) → In scope (scopes_of modules top)
    → IsNetBit scope.body.nets name index → IsListed modules top (net_bit scope.path name index)
net_listed modules top scope name index at (wire, has, named, selects) =
    subst (λ (n : List ℕ). IsListed modules top (net_bit scope.path n index)) named
    (wire_listed modules top scope wire index at (from_contains scope.body.nets wire has) (selected index wire.range selects))

bit_listed : (modules : List Module) (top : Module) (scope : ModuleInstance) (bit : Bit) (to : NetBit) → In scope (scopes_of modules top)
    → IsBitOf scope.body.nets bit → net_at scope.path bit ≡ Some to → IsListed modules top to
bit_listed modules top scope (bits.Net name index) to at is e =
    let same : net_bit scope.path name index ≡ to = cc in
    subst (IsListed modules top) same (net_listed modules top scope name index at is)
bit_listed modules top scope (bits.Constant value) to at is e = cc

-- ---- ports

port_wire : (ports : List Port) (own : List Wire) (port : Port) → AllZip IsNetOfPort ports own → In port ports → (wire : Wire) × In wire own × IsNetOfPort port wire
port_wire [] own port all at = absurd at
port_wire (p ∷ ports) [] port all at = absurd all
port_wire (p ∷ ports) (w ∷ own) port all (inl e) = (w, inl refl, subst (λ (q : Port). IsNetOfPort q w) (sym e) all.0)
port_wire (p ∷ ports) (w ∷ own) port all (inr at) = let r = port_wire ports own port all.1 at in (r.0, inr r.1, r.2)

port_listed : (modules : List Module) (top : Module) (scope : ModuleInstance) (port : Port) (index : Option ℕ) → In scope (scopes_of modules top) → IsWellFormedModule scope.body
    → In port scope.body.ports → In index (indices port.range) → IsListed modules top (net_bit scope.path port.name index)
port_listed modules top scope port index at well has among =
    let own = well.ports in
    let wire = port_wire scope.body.ports own.0 port own.3 has in
    let net : In wire.0 scope.body.nets = subst (In wire.0) (sym own.2) (in_left wire.0 own.0 own.1 wire.1) in
    subst (λ (n : List ℕ). IsListed modules top (net_bit scope.path n index)) wire.2.0
    (wire_listed modules top scope wire.0 index at net (subst (λ (r : Option Range). In index (indices r)) (sym wire.2.1) among))

port_bit_listed : (modules : List Module) (top : Module) (scope : ModuleInstance) (port : Port) (bit : Bit) (to : NetBit) → In scope (scopes_of modules top) → IsWellFormedModule scope.body
    → In port scope.body.ports → In bit (port_bits port) → net_at scope.path bit ≡ Some to → IsListed modules top to
port_bit_listed modules top scope port bit to at well has among e =
    let r = from_map (λ index. bits.Net port.name index) bit (indices port.range) among in
    let net : Some (net_bit scope.path port.name r.0) ≡ Some to = ap (net_at scope.path) r.2 ∙ e in
    let same : net_bit scope.path port.name r.0 ≡ to = cc in
    subst (IsListed modules top) same (port_listed modules top scope port r.0 at well has r.1)

-- ---- what is connected is among what is linked

ordered_in : (names : List (List ℕ)) (cs : List (List Bit)) (own : List Bit) (bit : Bit) → In own (ordered_bits names cs) → In bit own → In bit (flat_map (λ (c : List Bit). c) cs)
ordered_in [] cs own bit at h = absurd at
ordered_in (name ∷ names) [] own bit (inl e) h = absurd (subst (In bit) e h)
ordered_in (name ∷ names) [] own bit (inr at) h = ordered_in names [] own bit at h
ordered_in (name ∷ names) (c ∷ cs) own bit (inl e) h = in_left bit c (flat_map (λ (c : List Bit). c) cs) (subst (In bit) e h)
ordered_in (name ∷ names) (c ∷ cs) own bit (inr at) h = in_right bit c (flat_map (λ (c : List Bit). c) cs) (ordered_in names cs own bit at h)

found_bits : (all : List Link) (bit : Bit) (test : Link → Bool) (o : Option Link) → find test all ≡ o → In bit (elim o [ None ↦ [] | Some link ↦ link.bits ])
    → In bit (flat_map (λ (link : Link). link.bits) all)
found_bits all bit test None is h = absurd h
found_bits all bit test (Some link) is h = in_flat (λ (l : Link). l.bits) all link bit (find_in test all link is).0 h

first_bits : (all : List Link) (bit : Bit) (name : List ℕ) (second : Bool) → In bit (if second then [] else bits_named all name) → In bit (flat_map (λ (link : Link). link.bits) all)
first_bits all bit name true h = absurd h
first_bits all bit name false h =
    found_bits all bit (λ (link : Link). same_text link.port name) (find (λ (link : Link). same_text link.port name) all) refl h

named_in : (before names : List (List ℕ)) (all : List Link) (own : List Bit) (bit : Bit) → In own (named_bits before names all) → In bit own → In bit (flat_map (λ (link : Link). link.bits) all)
named_in before [] all own bit at h = absurd at
named_in before (name ∷ names) all own bit (inl e) h = first_bits all bit name (list_any (same_text name) before) (subst (In bit) e h)
named_in before (name ∷ names) all own bit (inr at) h = named_in (name ∷ before) names all own bit at h

connected_in : (names : List (List ℕ)) (all : Links) (own : List Bit) (bit : Bit) → In own (connected names all) → In bit own → In bit (linked all)
connected_in names (links.Ordered cs) own bit at h = ordered_in names cs own bit at h
connected_in names (links.Named all) own bit at h = named_in [] names all own bit at h

-- ---- where modules and instances stand

-- modules of a netlist are well-formed, and so is each where it stands
body_formed : (modules : List Module) (top : Module) (name : List ℕ) (scope : ModuleInstance) → All IsWellFormedModule modules → module_named modules name ≡ Some top
    → In scope (scopes_of modules top) → IsWellFormedModule scope.body
body_formed modules top name scope well named (inl e) =
    subst (λ (s : ModuleInstance). IsWellFormedModule s.body) (sym e)
    (each_in IsWellFormedModule modules top well (find_in (λ (m : Module). same_text m.name name) modules top named).0)
body_formed modules top name scope well named (inr at) =
    let r = from_kept (entered modules) scope (instances_of modules top) at in
    let parts = entered_parts modules r.0 scope r.2 in
    subst (λ (s : ModuleInstance). IsWellFormedModule s.body) (sym parts.2)
    (each_in IsWellFormedModule modules parts.0 well (find_in (λ (m : Module). same_text m.name r.0.instance.kind) modules parts.0 parts.1).0)

-- an instance stands in its module
placed_one : (scope : ModuleInstance) (n : ℕ) (rest : List Instance) (placed : Placed)
    → In placed (map (λ (item : ℕ × Instance). record { scope = scope; place = item.0; instance = item.1 }) (enumerate_from n rest))
    → (placed.scope ≡ scope) × In placed.instance rest
placed_one scope n [] placed at = absurd at
placed_one scope n (one ∷ rest) placed (inl e) = (ap (λ (p : Placed). p.scope) e, inl (ap (λ (p : Placed). p.instance) e))
placed_one scope n (one ∷ rest) placed (inr at) = let r = placed_one scope (n + 1) rest placed at in (r.0, inr r.1)

-- it is one of those of a module, and that is the given one, or opened by another instance
abbrev StandsIn : List Module → List Placed → ModuleInstance → Placed → Type 0
StandsIn modules all scope placed =
    ((placed.scope ≡ scope) ⊎ In placed.scope (filter_map (entered modules) all)) × In placed.instance placed.scope.body.instances

in_kept_step : {B : Type 0} (y : B) (ys : List B) (o : Option B) → In y ys → In y (cons_option o ys)
in_kept_step y ys None at = at
in_kept_step y ys (Some w) at = inr at

in_kept : {A B : Type 0} (f : A → Option B) (x : A) (y : B) (xs : List A) → In x xs → f x ≡ Some y → In y (filter_map f xs)
in_kept f x y [] at e = absurd at
in_kept f x y (z ∷ xs) (inl same) e = let o : f z ≡ Some y = ap f (sym same) ∙ e in rw o (inl refl)
in_kept f x y (z ∷ xs) (inr at) e = in_kept_step y (filter_map f xs) (f z) (in_kept f x y xs at e)

-- what stands in a module that an instance opens stands below the module of the instance
in_below : (modules : List Module) (levels : ℕ) (scope inner : ModuleInstance) (p q : Placed) → In p (placed_in scope) → entered modules p ≡ Some inner
    → In q (below modules levels inner) → In q (below modules (suc levels) scope)
in_below modules levels scope inner p q at e has =
    in_flat (listed modules levels) (placed_in scope) p q at (inr (rw e has))

stands_here : (modules : List Module) (all : List Placed) (scope : ModuleInstance) (p placed : Placed) → placed ≡ p → (p.scope ≡ scope) × In p.instance scope.body.instances
    → StandsIn modules all scope placed
stands_here modules all scope p placed same own =
    subst (StandsIn modules all scope) (sym same) (inl own.0, subst (λ (s : ModuleInstance). In p.instance s.body.instances) (sym own.0) own.1)

stands_deeper : (modules : List Module) (levels : ℕ) (scope inner : ModuleInstance) (p placed : Placed) → In p (placed_in scope) → entered modules p ≡ Some inner
    → StandsIn modules (below modules levels inner) inner placed → StandsIn modules (below modules (suc levels) scope) scope placed
stands_deeper modules levels scope inner p placed at e (inl same, has) =
    let here : In p (below modules (suc levels) scope) = in_flat (listed modules levels) (placed_in scope) p p at (inl refl) in
    (inr (in_kept (entered modules) p placed.scope (below modules (suc levels) scope) here (e ∙ ap (λ (s : ModuleInstance). Some s) (sym same))), has)
stands_deeper modules levels scope inner p placed at e (inr opened, has) =
    let r = from_kept (entered modules) placed.scope (below modules levels inner) opened in
    (inr (in_kept (entered modules) r.0 placed.scope (below modules (suc levels) scope) (in_below modules levels scope inner p r.0 at e r.1) r.2), has)

stands_listed : (modules : List Module) (levels : ℕ) (scope : ModuleInstance) (p placed : Placed) → In p (placed_in scope)
    → ((inner : ModuleInstance) → In placed (below modules levels inner) → StandsIn modules (below modules levels inner) inner placed)
    → (o : Option ModuleInstance) → entered modules p ≡ o → In placed (p ∷ elim o [ None ↦ [] | Some inner ↦ below modules levels inner ])
    → StandsIn modules (below modules (suc levels) scope) scope placed
stands_listed modules levels scope p placed at deeper o is (inl same) =
    stands_here modules (below modules (suc levels) scope) scope p placed same (placed_one scope 0 scope.body.instances p at)
stands_listed modules levels scope p placed at deeper None is (inr has) = absurd has
stands_listed modules levels scope p placed at deeper (Some inner) is (inr has) =
    stands_deeper modules levels scope inner p placed at is (deeper inner has)

stands : (modules : List Module) (levels : ℕ) (scope : ModuleInstance) (placed : Placed) → In placed (below modules levels scope) → StandsIn modules (below modules levels scope) scope placed
stands modules zero scope placed at = absurd at
stands modules (suc levels) scope placed at =
    let r = from_flat (listed modules levels) placed (placed_in scope) at in
    stands_listed modules levels scope r.0 placed r.1 (λ inner has. stands modules levels inner placed has) (entered modules r.0) refl r.2

-- the module of an instance is one of the design's, and has it
placed_spot : (modules : List Module) (top : Module) (placed : Placed) → In placed (instances_of modules top)
    → In placed.scope (scopes_of modules top) × In placed.instance placed.scope.body.instances
placed_spot modules top placed at =
    let r = stands modules (length modules) (top_scope top) placed at in
    (r.0, r.1)

-- a bit that an instance connects, in its module
linked_listed : (modules : List Module) (top : Module) (name : List ℕ) (placed : Placed) (names : List (List ℕ)) (own : List Bit) (bit : Bit) (to : NetBit)
    → All IsWellFormedModule modules → module_named modules name ≡ Some top → In placed (instances_of modules top)
    → In own (connected names placed.instance.links) → In bit own → net_at placed.scope.path bit ≡ Some to → IsListed modules top to
linked_listed modules top name placed names own bit to well named at among has e =
    let own_spot = placed_spot modules top placed at in
    let formed = body_formed modules top name placed.scope well named own_spot.0 in
    let each = each_in (λ (i : Instance). All (IsBitOf placed.scope.body.nets) (linked i.links)) placed.scope.body.instances placed.instance formed.instances own_spot.1 in
    bit_listed modules top placed.scope bit to own_spot.0
    (each_in (IsBitOf placed.scope.body.nets) (linked placed.instance.links) bit each (connected_in names placed.instance.links own bit among has)) e

-- ---- what is driven

driven_net : (to : Option NetBit) (from : Option Origin) (one : NetDriver) → drive to from ≡ Some one → to ≡ Some one.to
driven_net None from one e = cc
driven_net (Some net) None one e = cc
driven_net (Some net) (Some origin) one e =
    let same : record { to = net; from = origin } ≡ one = cc in ap (λ (f : NetDriver). Some f.to) same

-- on the left of an assignment there is no constant
driven_bit : (nets : List Wire) (bit : Bit) → IsDriven nets bit → IsBitOf nets bit
driven_bit nets (bits.Net name index) is = is
driven_bit nets (bits.Constant value) is = tt

assign_driven : (modules : List Module) (top : Module) (scope : ModuleInstance) (assign : Assign) (one : NetDriver) → In scope (scopes_of modules top)
    → IsAssignOf scope.body.nets assign → In one (assign_drivers scope.path assign) → IsListed modules top one.to
assign_driven modules top scope assign one at is has =
    let r = from_kept (λ (pair : Bit × Bit). drive (net_at scope.path pair.0) (origin_at scope.path pair.1)) one (zip assign.left assign.right) has in
    let left = (from_zip r.0 assign.left assign.right r.1).0 in
    bit_listed modules top scope r.0.0 one.to at (driven_bit scope.body.nets r.0.0 (each_in (IsDriven scope.body.nets) assign.left r.0.0 is.1 left))
    (driven_net (net_at scope.path r.0.0) (origin_at scope.path r.0.1) one r.2)

tie_driven : (modules : List Module) (top : Module) (scope : ModuleInstance) (wire : Wire) (one : NetDriver) → In scope (scopes_of modules top) → In wire scope.body.nets
    → In one (tie_drivers scope.path wire) → IsListed modules top one.to
tie_driven modules top scope wire one at has among = tied wire.tie among where
  tied : (tie : Option Bool) → In one (elim tie [ None ↦ [] | Some v ↦ map (λ index. record { to = net_bit scope.path wire.name index; from = from_value v }) (indices wire.range) ])
      → IsListed modules top one.to
  tied None h = absurd h
  tied (Some v) h =
      let r = from_map (λ index. record { to = net_bit scope.path wire.name index; from = from_value v }) one (indices wire.range) h in
      subst (λ (f : NetDriver). IsListed modules top f.to) r.2 (wire_listed modules top scope wire r.0 at has r.1)

-- ---- ports

top_driven : (modules : List Module) (top : Module) (port : Port) (one : NetDriver) → IsWellFormedModule top → In port top.ports → In one (top_port_drivers port) → IsListed modules top one.to
top_driven modules top port one well has among = by_direction port.direction among where
  by_direction : (d : Direction) → In one (elim d [
    | direction.Input ↦ map (λ index. record { to = net_bit [] port.name index; from = from_pin (port_bit port.name index) }) (indices port.range)
    | direction.Output ↦ []
    | direction.Other ↦ []
  ]) → IsListed modules top one.to
  by_direction direction.Input h =
      let r = from_map (λ index. record { to = net_bit [] port.name index; from = from_pin (port_bit port.name index) }) one (indices port.range) h in
      subst (λ (f : NetDriver). IsListed modules top f.to) r.2 (port_listed modules top (top_scope top) port r.0 (inl refl) well has r.1)
  by_direction direction.Output h = absurd h
  by_direction direction.Other h = absurd h

-- a port of an inner module: the net inside, or the one outside
across_driven : (modules : List Module) (top : Module) (inside outside : List ℕ) (inner outer : Bit) (one : NetDriver)
    → (net_at inside inner ≡ Some one.to → IsListed modules top one.to) → (net_at outside outer ≡ Some one.to → IsListed modules top one.to)
    → (d : Direction) → across d inside outside inner outer ≡ Some one → IsListed modules top one.to
across_driven modules top inside outside inner outer one h k direction.Input e = h (driven_net (net_at inside inner) (origin_at outside outer) one e)
across_driven modules top inside outside inner outer one h k direction.Output e = k (driven_net (net_at outside outer) (origin_at inside inner) one e)
across_driven modules top inside outside inner outer one h k direction.Other e = cc

port_driven : (modules : List Module) (top : Module) (name : List ℕ) (placed : Placed) (m : Module) (pair : Port × List Bit) (one : NetDriver)
    → All IsWellFormedModule modules → module_named modules name ≡ Some top → In placed (instances_of modules top) → In (scope_for placed m) (scopes_of modules top)
    → In pair (zip m.ports (connected (names_of (ports_of m)) placed.instance.links)) → In one (port_drivers (path_of placed) placed.scope.path pair) → IsListed modules top one.to
port_driven modules top name placed m pair one well named at opened among has =
    let scope = scope_for placed m in
    let formed = body_formed modules top name scope well named opened in
    let parts = from_zip pair m.ports (connected (names_of (ports_of m)) placed.instance.links) among in
    let r = from_kept (λ (p : Bit × Bit). across pair.0.direction (path_of placed) placed.scope.path p.0 p.1) one (zip (port_bits pair.0) pair.1) has in
    let sides = from_zip r.0 (port_bits pair.0) pair.1 r.1 in
    across_driven modules top (path_of placed) placed.scope.path r.0.0 r.0.1 one
    (λ e. port_bit_listed modules top scope pair.0 r.0.0 one.to opened formed parts.0 sides.0 e)
    (λ e. linked_listed modules top name placed (names_of (ports_of m)) pair.1 r.0.1 one.to well named at parts.1 sides.1 e)
    pair.0.direction r.2

boundary_driven : (modules : List Module) (top : Module) (name : List ℕ) (scope : ModuleInstance) (one : NetDriver) → All IsWellFormedModule modules → module_named modules name ≡ Some top
    → In scope (scopes_of modules top) → In one (boundary_drivers scope) → IsListed modules top one.to
boundary_driven modules top name scope one well named (inl e) has =
    let here = subst (λ (s : ModuleInstance). In one (boundary_drivers s)) e has in
    let r = from_flat top_port_drivers one top.ports here in
    top_driven modules top r.0 one (body_formed modules top name (top_scope top) well named (inl refl)) r.1 r.2
boundary_driven modules top name scope one well named (inr at) has =
    let r = from_kept (entered modules) scope (instances_of modules top) at in
    let parts = entered_parts modules r.0 scope r.2 in
    let placed = r.0 in
    let m = parts.0 in
    let here = subst (λ (s : ModuleInstance). In one (boundary_drivers s)) parts.2 has in
    let opened = subst (λ (s : ModuleInstance). In s (scopes_of modules top)) parts.2 (inr at) in
    let q = from_flat (port_drivers (path_of placed) placed.scope.path) one (zip m.ports (connected (names_of (ports_of m)) placed.instance.links)) here in
    port_driven modules top name placed m q.0 one well named r.1 opened q.1 q.2

-- ---- cells

output_driven : (modules : List Module) (top : Module) (name : List ℕ) (cell : PlacedCell) (pin : (ℕ × LibPin) × List Bit) (one : NetDriver) → All IsWellFormedModule modules
    → module_named modules name ≡ Some top → In cell.placed (instances_of modules top) → In pin (connected_pins cell) → In one (output_drivers cell pin) → IsListed modules top one.to
output_driven modules top name cell pin one well named at among has = by_direction pin.0.1.direction has where
  by_direction : (d : Direction) → In one (elim d [
    | direction.Input ↦ []
    | direction.Output ↦ filter_map (λ bit. drive (net_at cell.placed.scope.path bit) (Some (from_pin (pin_of (path_of cell.placed) pin.0.0)))) pin.1
    | direction.Other ↦ []
  ]) → IsListed modules top one.to
  by_direction direction.Input h = absurd h
  by_direction direction.Output h =
      let r = from_kept (λ bit. drive (net_at cell.placed.scope.path bit) (Some (from_pin (pin_of (path_of cell.placed) pin.0.0)))) one pin.1 h in
      let own = (from_zip pin (enumerate_from 0 cell.kind.pins) (connected (names_of (pins_of cell.kind)) cell.placed.instance.links) among).1 in
      linked_listed modules top name cell.placed (names_of (pins_of cell.kind)) pin.1 r.0 one.to well named at own r.1
      (driven_net (net_at cell.placed.scope.path r.0) (Some (from_pin (pin_of (path_of cell.placed) pin.0.0))) one r.2)
  by_direction direction.Other h = absurd h

cell_driven : (modules : List Module) (library : Library) (top : Module) (name : List ℕ) (cell : PlacedCell) (one : NetDriver) → All IsWellFormedModule modules
    → module_named modules name ≡ Some top → In cell (cells_of modules library top) → In one (cell_drivers cell) → IsListed modules top one.to
cell_driven modules library top name cell one well named at has =
    let r = from_kept (cell_at modules library) cell (instances_of modules top) at in
    let placed : In cell.placed (instances_of modules top) = subst (λ (p : Placed). In p (instances_of modules top)) (sym (cell_placed modules library r.0 cell r.2)) r.1 in
    let q = from_flat (output_drivers cell) one (connected_pins cell) has in
    output_driven modules top name cell q.0 one well named placed q.1 q.2

-- ---- all of them

spot_driven : (modules : List Module) (top : Module) (name : List ℕ) (scope : ModuleInstance) (one : NetDriver) → All IsWellFormedModule modules → module_named modules name ≡ Some top
    → In scope (scopes_of modules top) → In one (scope_drivers scope) → IsListed modules top one.to
spot_driven modules top name scope one well named at has =
    let formed = body_formed modules top name scope well named at in
    let ties = flat_map (tie_drivers scope.path) scope.body.nets in
    let assigns = flat_map (assign_drivers scope.path) scope.body.assigns in
    elim (in_either one (boundary_drivers scope) (ties ++ assigns) has) [
      | inl boundary ↦ boundary_driven modules top name scope one well named at boundary
      | inr inner ↦ elim (in_either one ties assigns inner) [
        | inl tie ↦
            let r = from_flat (tie_drivers scope.path) one scope.body.nets tie in
            tie_driven modules top scope r.0 one at r.1 r.2
        | inr assign ↦
            let r = from_flat (assign_drivers scope.path) one scope.body.assigns assign in
            assign_driven modules top scope r.0 one at (each_in (IsAssignOf scope.body.nets) scope.body.assigns r.0 formed.assigns r.1) r.2
      ]
    ]

pub driven_listed : (modules : List Module) (library : Library) (top : Module) (name : List ℕ) (one : NetDriver) → All IsWellFormedModule modules
    → module_named modules name ≡ Some top → In one (drivers_of modules library top) → IsListed modules top one.to
driven_listed modules library top name one well named has =
    elim (in_either one (flat_map scope_drivers (scopes_of modules top)) (flat_map cell_drivers (cells_of modules library top)) has) [
      | inl scopes ↦
          let r = from_flat scope_drivers one (scopes_of modules top) scopes in
          spot_driven modules top name r.0 one well named r.1 r.2
      | inr cells ↦
          let r = from_flat cell_drivers one (cells_of modules library top) cells in
          cell_driven modules library top name r.0 one well named r.1 r.2
    ]
