-- Following sources from a net of a design without faults has one end.
use Rattle.std.proofs.Common.{◌≡◌, ◌∙◌, ◌&&◌, ◌≤◌, inl, inr, ℕ, suc, Bool, true, false, List, [], ◌∷◌, filter, length, slice_get, Option, Some, None, refl, sym, ap, subst, arith, eqb-true}
use Rattle.std.specs.Prelude.{if◌then◌else◌}
use Rattle.std.specs.List.{All, Contains, flat_map}
use Rattle.std.proofs.lemmas.Bool.{and_parts}
use Rattle.timing_types.specs.declared.designs.Source.{Source}
use Rattle.timing_types.specs.declared.designs.Source.TheVariants as source
use Rattle.source_types.specs.declared.fault_kinds.DesignKind.TheVariants as fault
use Rattle.source_types.specs.declared.libraries.Library.{Library}
use Rattle.source_types.specs.declared.netlists.Module.{Module}
use Rattle.pin_types.specs.declared.pins.Pin.{Pin}
use Rattle.flat_model.specs.FlatDesign.{EndsIn, IsDriverOf, IsSourceOf, Leads, Reaches, flat, pin_places}
use Rattle.flat_model.specs.FlatNets.{NetDriver, NetBit, Origin, PinPlace, bit_of, from_net, from_pin, from_value, nets_in, same_index, same_net, sources}
use Rattle.flat_model.specs.Flattening.{NoneOfNets}
use Rattle.flat_model.specs.Instances.{module_named, scopes_of}
use Rattle.netlist_model.specs.WellFormedNetlist.{IsWellFormedModule}
use Rattle.text_model.specs.Words.{same_text}
use Rattle.flat_laws.proofs.DistinctPins.{place_once}
use Rattle.flat_laws.proofs.DrivenNets.{driven_listed, each_in, from_contains}
use Rattle.text_model.proofs.Members.{In, find_in, from_map}
use Rattle.text_model.proofs.SameTexts.{same_is}

-- ---- sources of one net

-- a net has no two sources
abbrev HasOne : List NetDriver → Type 0
HasOne drivers = (net : NetBit) (x y : Origin) → In x (sources drivers net) → In y (sources drivers net) → x ≡ y

-- a place has one number
abbrev AreNumbered : List PinPlace → Type 0
AreNumbered pins = (i j : ℕ) (place : PinPlace) → slice_get pins i ≡ Some place → slice_get pins j ≡ Some place → i ≡ j

-- no source leads on
abbrev Stops : List NetDriver → NetBit → Type 0
Stops drivers end = (next : NetBit) → In (from_net next) (sources drivers end) → ⊥

ends_stop : (pins : List PinPlace) (drivers : List NetDriver) (end : NetBit) (found : Source) → HasOne drivers → EndsIn pins drivers end found → Stops drivers end
ends_stop pins drivers end source.Nothing one ends next at = subst (In (from_net next)) ends at
ends_stop pins drivers end source.Zero one ends next at =
    let bad = one end (from_value false) (from_net next) (from_contains (sources drivers end) (from_value false) ends) at in absurd cc
ends_stop pins drivers end source.One one ends next at =
    let bad = one end (from_value true) (from_net next) (from_contains (sources drivers end) (from_value true) ends) at in absurd cc
ends_stop pins drivers end (source.Pin pin) one ends next at =
    let bad = one end (from_pin ends.0) (from_net next) (from_contains (sources drivers end) (from_pin ends.0) ends.2) at in absurd cc

-- ---- along sources

net_same : (a b : NetBit) → from_net a ≡ from_net b → a ≡ b
net_same a b e = cc

leads_first : (drivers : List NetDriver) (net : NetBit) (nets : List NetBit) (end : NetBit) → Leads drivers net nets end → (next : NetBit) × In (from_net next) (sources drivers net)
leads_first drivers net [] end leads = (end, from_contains (sources drivers net) (from_net end) leads)
leads_first drivers net (next ∷ nets) end leads = (next, from_contains (sources drivers net) (from_net next) leads.0)

-- nothing leads on from an end
past_end : (drivers : List NetDriver) (a next : NetBit) (nets : List NetBit) (end : NetBit) → Stops drivers a → a ≡ next → Leads drivers next nets end → ⊥
past_end drivers a next nets end stops same leads =
    let first = leads_first drivers next nets end leads in
    stops first.0 (subst (λ (n : NetBit). In (from_net first.0) (sources drivers n)) (sym same) first.1)

leads_once : (drivers : List NetDriver) (net : NetBit) (nets others : List NetBit) (a b : NetBit) → HasOne drivers → Stops drivers a → Stops drivers b
    → Leads drivers net nets a → Leads drivers net others b → a ≡ b
leads_once drivers net [] [] a b one sa sb l m =
    net_same a b (one net (from_net a) (from_net b) (from_contains (sources drivers net) (from_net a) l) (from_contains (sources drivers net) (from_net b) m))
leads_once drivers net [] (next ∷ others) a b one sa sb l m =
    let same = net_same a next (one net (from_net a) (from_net next) (from_contains (sources drivers net) (from_net a) l) (from_contains (sources drivers net) (from_net next) m.0)) in
    absurd (past_end drivers a next others b sa same m.1)
leads_once drivers net (next ∷ nets) [] a b one sa sb l m =
    let same = net_same b next (one net (from_net b) (from_net next) (from_contains (sources drivers net) (from_net b) m) (from_contains (sources drivers net) (from_net next) l.0)) in
    absurd (past_end drivers b next nets a sb same l.1)
leads_once drivers net (next ∷ nets) (other ∷ others) a b one sa sb l m =
    let same = net_same other next (one net (from_net other) (from_net next) (from_contains (sources drivers net) (from_net other) m.0) (from_contains (sources drivers net) (from_net next) l.0)) in
    leads_once drivers next nets others a b one sa sb l.1 (subst (λ (n : NetBit). Leads drivers n others b) same m.1)

reaches_once : (drivers : List NetDriver) (net a b : NetBit) → HasOne drivers → Stops drivers a → Stops drivers b → Reaches drivers net a → Reaches drivers net b → a ≡ b
reaches_once drivers net a b one sa sb (inl e) (inl f) = sym e ∙ f
reaches_once drivers net a b one sa sb (inl e) (inr m) = absurd (past_end drivers a net m.0 b sa (sym e) m.1)
reaches_once drivers net a b one sa sb (inr l) (inl f) = absurd (past_end drivers b net l.0 a sb (sym f) l.1)
reaches_once drivers net a b one sa sb (inr l) (inr m) = leads_once drivers net l.0 m.0 a b one sa sb l.1 m.1

-- ---- where it ends

-- no source, and one
none_and_one : (drivers : List NetDriver) (end : NetBit) (x : Origin) → sources drivers end ≡ [] → Contains (sources drivers end) x → ⊥
none_and_one drivers end x none has = subst (In x) none (from_contains (sources drivers end) x has)

two : (drivers : List NetDriver) (end : NetBit) (x y : Origin) → HasOne drivers → Contains (sources drivers end) x → Contains (sources drivers end) y → x ≡ y
two drivers end x y one has other = one end x y (from_contains (sources drivers end) x has) (from_contains (sources drivers end) y other)

pin_same : (a b : Pin) → a.0 ≡ b.0 → source.Pin a ≡ source.Pin b
pin_same a b e = ap (λ (n : ℕ). source.Pin (record { 0 = n })) e

ends_once : (pins : List PinPlace) (drivers : List NetDriver) (end : NetBit) (found other : Source) → HasOne drivers → AreNumbered pins
    → EndsIn pins drivers end found → EndsIn pins drivers end other → found ≡ other
ends_once pins drivers end source.Nothing source.Nothing one numbered h k = refl
ends_once pins drivers end source.Nothing source.Zero one numbered h k = absurd (none_and_one drivers end (from_value false) h k)
ends_once pins drivers end source.Nothing source.One one numbered h k = absurd (none_and_one drivers end (from_value true) h k)
ends_once pins drivers end source.Nothing (source.Pin q) one numbered h k = absurd (none_and_one drivers end (from_pin k.0) h k.2)
ends_once pins drivers end source.Zero source.Nothing one numbered h k = absurd (none_and_one drivers end (from_value false) k h)
ends_once pins drivers end source.Zero source.Zero one numbered h k = refl
ends_once pins drivers end source.Zero source.One one numbered h k = let bad = two drivers end (from_value false) (from_value true) one h k in absurd cc
ends_once pins drivers end source.Zero (source.Pin q) one numbered h k = let bad = two drivers end (from_value false) (from_pin k.0) one h k.2 in absurd cc
ends_once pins drivers end source.One source.Nothing one numbered h k = absurd (none_and_one drivers end (from_value true) k h)
ends_once pins drivers end source.One source.Zero one numbered h k = let bad = two drivers end (from_value true) (from_value false) one h k in absurd cc
ends_once pins drivers end source.One source.One one numbered h k = refl
ends_once pins drivers end source.One (source.Pin q) one numbered h k = let bad = two drivers end (from_value true) (from_pin k.0) one h k.2 in absurd cc
ends_once pins drivers end (source.Pin p) source.Nothing one numbered h k = absurd (none_and_one drivers end (from_pin h.0) k h.2)
ends_once pins drivers end (source.Pin p) source.Zero one numbered h k = let bad = two drivers end (from_pin h.0) (from_value false) one h.2 k in absurd cc
ends_once pins drivers end (source.Pin p) source.One one numbered h k = let bad = two drivers end (from_pin h.0) (from_value true) one h.2 k in absurd cc
ends_once pins drivers end (source.Pin p) (source.Pin q) one numbered h k =
    let e = two drivers end (from_pin h.0) (from_pin k.0) one h.2 k.2 in
    let same : k.0 ≡ h.0 = cc in
    pin_same p q (numbered p.0 q.0 h.0 h.1 (k.1 ∙ ap (λ place. Some place) same))

found_once : (pins : List PinPlace) (drivers : List NetDriver) (net : NetBit) (found other : Source) → HasOne drivers → AreNumbered pins
    → IsSourceOf pins drivers net found → IsSourceOf pins drivers net other → found ≡ other
found_once pins drivers net found other one numbered h k =
    let same = reaches_once drivers net h.0 k.0 one (ends_stop pins drivers h.0 found one h.2) (ends_stop pins drivers k.0 other one k.2) h.1 k.1 in
    ends_once pins drivers h.0 found other one numbered h.2 (subst (λ (end : NetBit). EndsIn pins drivers end other) (sym same) k.2)

-- ---- in a design without faults, each net has at most one source

index_is : (a b : Option ℕ) → same_index a b ≡ true → a ≡ b
index_is None None e = refl
index_is None (Some j) e = cc
index_is (Some i) None e = cc
index_is (Some i) (Some j) e = ap (λ (n : ℕ). Some n) (eqb-true i j e)

net_is : (a b : NetBit) → same_net a b ≡ true → a ≡ b
net_is a b e =
    let outer = and_parts (same_text a.path b.path) (same_text a.name b.name && same_index a.index b.index) e in
    let inner = and_parts (same_text a.name b.name) (same_index a.index b.index) outer.1 in
    let path = same_is a.path b.path outer.0 in
    let name = same_is a.name b.name inner.0 in
    let index = index_is a.index b.index inner.1 in
    λ i. record { path = path i; name = name i; index = index i }

from_filter_step : {A : Type 0} (test : A → Bool) (x y : A) (xs : List A) (t : Bool) → test y ≡ t → (In x (filter test xs) → In x xs × (test x ≡ true))
    → In x (if t then y ∷ filter test xs else filter test xs) → In x (y ∷ xs) × (test x ≡ true)
from_filter_step test x y xs true is rest (inl e) = (inl e, ap test e ∙ is)
from_filter_step test x y xs true is rest (inr h) = let r = rest h in (inr r.0, r.1)
from_filter_step test x y xs false is rest h = let r = rest h in (inr r.0, r.1)

from_filter : {A : Type 0} (test : A → Bool) (x : A) (xs : List A) → In x (filter test xs) → In x xs × (test x ≡ true)
from_filter test x [] h = absurd h
from_filter test x (y ∷ xs) h = from_filter_step test x y xs (test y) refl (from_filter test x xs) h

in_place : {A : Type 0} (x : A) (xs : List A) → In x xs → (n : ℕ) × (slice_get xs n ≡ Some x)
in_place x [] at = absurd at
in_place x (y ∷ xs) (inl e) = (0, ap (λ z. Some z) (sym e))
in_place x (y ∷ xs) (inr at) = let r = in_place x xs at in (suc r.0, r.1)

few_same : {A : Type 0} (xs : List A) (x y : A) → (2 ≤ length xs → ⊥) → In x xs → In y xs → x ≡ y
few_same [] x y few h k = absurd h
few_same (z ∷ []) x y few (inl e) (inl f) = e ∙ sym f
few_same (z ∷ []) x y few (inl e) (inr k) = absurd k
few_same (z ∷ []) x y few (inr h) k = absurd h
few_same (z ∷ w ∷ xs) x y few h k = absurd (few (omega arith))

has_one : (modules : List Module) (library : Library) (name : List ℕ) (top : Module) → All IsWellFormedModule modules → module_named modules name ≡ Some top
    → NoneOfNets (flat modules library top) → HasOne (flat modules library top).drivers
has_one modules library name top well named none net x y at other =
    let f = flat modules library top in
    let drives = from_map (λ (one : NetDriver). one.from) x (filter (λ (one : NetDriver). same_net one.to net) f.drivers) at in
    let kept = from_filter (λ (one : NetDriver). same_net one.to net) drives.0 f.drivers drives.1 in
    let listed = driven_listed modules library top name drives.0 well named kept.0 in
    let here : bit_of listed.0 ≡ net = listed.2 ∙ net_is drives.0.to net kept.1 in
    let place = in_place listed.0 (flat_map nets_in (scopes_of modules top)) listed.1 in
    few_same (sources f.drivers net) x y
    (λ more. none place.0 listed.0 fault.TwoDrivers place.1 (subst (λ (n : NetBit). 2 ≤ length (sources f.drivers n)) (sym here) more)) at other

pub source_once : (modules : List Module) (library : Library) (name : List ℕ) (top : Module) (net : NetBit) (found other : Source) → All IsWellFormedModule modules
    → module_named modules name ≡ Some top → NoneOfNets (flat modules library top)
    → IsSourceOf (pin_places (flat modules library top)) (flat modules library top).drivers net found
    → IsSourceOf (pin_places (flat modules library top)) (flat modules library top).drivers net other → found ≡ other
source_once modules library name top net found other well named none h k =
    let f = flat modules library top in
    let formed = each_in IsWellFormedModule modules top well (find_in (λ (m : Module). same_text m.name name) modules top named).0 in
    found_once (pin_places f) f.drivers net found other (has_one modules library name top well named none) (place_once modules library top formed) h k

-- and so a load has one driver
pub driver_once : (modules : List Module) (library : Library) (name : List ℕ) (top : Module) (load : Option Origin) (found other : Source) → All IsWellFormedModule modules
    → module_named modules name ≡ Some top → NoneOfNets (flat modules library top)
    → IsDriverOf (flat modules library top) load found → IsDriverOf (flat modules library top) load other → found ≡ other
driver_once modules library name top None found other well named none h k = h ∙ sym k
driver_once modules library name top (Some (from_net net)) found other well named none h k = source_once modules library name top net found other well named none h k
driver_once modules library name top (Some (from_value false)) found other well named none h k = h ∙ sym k
driver_once modules library name top (Some (from_value true)) found other well named none h k = h ∙ sym k
driver_once modules library name top (Some (from_pin place)) found other well named none h k = absurd h
