-- The faults of a net by its number.
use Rattle.std.proofs.Common.{◌≡◌, ◌+◌, ◌≤◌, ◌<◌, ℕ, List, length, map, take, slice_get, Option, Some, None, sym, ◌∙◌, ap, subst, arith}
use Rattle.std.proofs.lemmas.Bool.{lt-ltb, ltb-true}
use Rattle.std.proofs.lemmas.List.{length-map, take-map}
use Rattle.source_types.specs.declared.fault_kinds.DesignKind.{DesignKind}
use Rattle.source_types.specs.declared.fault_kinds.DesignKind.TheVariants as fault
use Rattle.flat_model.specs.FlatFaults.{NetHas, is_among, net_line}
use Rattle.flat_model.specs.FlatNets.{FlatNet, bit_of, net_name}
use Rattle.flat_model.specs.Flattening.{FirstOfNets, NoneOfNets, fault_of}
use Rattle.text_model.proofs.ListFacts.{element_at}
use Rattle.flat_design.specs.declared.drivers.driver_edges.DriverEdge.{DriverEdge}
use Rattle.flat_design.specs.declared.elaborate.hierarchy.Hierarchy.{Hierarchy}
use Rattle.flat_design.specs.NamedFaults.{AreSourcesOf, HaveNoneBefore, IsFirstKind, NumberHas, flat_of}
use Rattle.flat_design.specs.Sources.{driven_by}
use Rattle.flat_design.proofs.FirstFaults.{first_here, none_all, none_more}
use Rattle.flat_design.proofs.RangeFacts.{map_at}

-- what a net's number has is what the net has, and back
to_net : (design : Hierarchy) (names : List (List ℕ)) (rows : List DriverEdge) (n : ℕ) (net : FlatNet) → names ≡ map net_name (flat_of design).nets
    → AreSourcesOf design rows → slice_get (flat_of design).nets n ≡ Some net → (kind : DesignKind)
    → NumberHas names rows n (net_name net) kind → NetHas (flat_of design) n net kind
to_net design names rows n net named are at fault.DoubleName has =
    ap (λ (before : List (List ℕ)). is_among before (net_name net)) (sym (ap (take n) named ∙ take-map net_name n (flat_of design).nets)) ∙ has
to_net design names rows n net named are at fault.BadName has = has
to_net design names rows n net named are at fault.TwoDrivers has =
    let count = are.count n (bit_of net) (map_at bit_of (flat_of design).nets n net at) in
    let two = ltb-true 1 (length (driven_by rows n)) has in
    omega (arith, two, count)
to_net design names rows n net named are at fault.AssignCycle has = are.there n (bit_of net) (map_at bit_of (flat_of design).nets n net at) has
to_net design names rows n net named are at _ has = has

to_number : (design : Hierarchy) (names : List (List ℕ)) (rows : List DriverEdge) (n : ℕ) (net : FlatNet) → names ≡ map net_name (flat_of design).nets
    → AreSourcesOf design rows → slice_get (flat_of design).nets n ≡ Some net → (kind : DesignKind)
    → NetHas (flat_of design) n net kind → NumberHas names rows n (net_name net) kind
to_number design names rows n net named are at fault.DoubleName has =
    ap (λ (before : List (List ℕ)). is_among before (net_name net)) (ap (take n) named ∙ take-map net_name n (flat_of design).nets) ∙ has
to_number design names rows n net named are at fault.BadName has = has
to_number design names rows n net named are at fault.TwoDrivers has =
    let count = are.count n (bit_of net) (map_at bit_of (flat_of design).nets n net at) in
    lt-ltb 1 (length (driven_by rows n)) (omega (arith, has, count))
to_number design names rows n net named are at fault.AssignCycle has = are.back n (bit_of net) (map_at bit_of (flat_of design).nets n net at) has
to_number design names rows n net named are at _ has = has

-- so the first kind is the same
first_same : (Said Meant : DesignKind → Type 0) → ((kind : DesignKind) → Said kind → Meant kind) → ((kind : DesignKind) → Meant kind → Said kind)
    → (found : Option DesignKind) → IsFirstKind Said found → IsFirstKind Meant found
first_same Said Meant to from None none = λ kind has. none kind (from kind has)
first_same Said Meant to from (Some kind) first = (to kind first.0, λ other has. first.1 other (from other has))

net_first : (design : Hierarchy) (names : List (List ℕ)) (rows : List DriverEdge) (n : ℕ) (net : FlatNet) (found : Option DesignKind)
    → names ≡ map net_name (flat_of design).nets → AreSourcesOf design rows → slice_get (flat_of design).nets n ≡ Some net
    → IsFirstKind (NumberHas names rows n (net_name net)) found → IsFirstKind (NetHas (flat_of design) n net) found
net_first design names rows n net found named are at first =
    first_same (NumberHas names rows n (net_name net)) (NetHas (flat_of design) n net) (to_net design names rows n net named are at)
    (to_number design names rows n net named are at) found first

-- what the number of a net says, its net has
said_of_net : (design : Hierarchy) (names : List (List ℕ)) (rows : List DriverEdge) (n : ℕ) (net : FlatNet) (found : Option DesignKind)
    → names ≡ map net_name (flat_of design).nets → AreSourcesOf design rows → slice_get (flat_of design).nets n ≡ Some net
    → ((name : List ℕ) → slice_get names n ≡ Some name → IsFirstKind (NumberHas names rows n name) found) → IsFirstKind (NetHas (flat_of design) n net) found
said_of_net design names rows n net found named are at says =
    net_first design names rows n net found named are at
    (says (net_name net) (ap (λ (all : List (List ℕ)). slice_get all n) named ∙ map_at net_name (flat_of design).nets n net at))

net_there : (design : Hierarchy) (names : List (List ℕ)) (n : ℕ) → names ≡ map net_name (flat_of design).nets → n < length names
    → (net : FlatNet) × (slice_get (flat_of design).nets n ≡ Some net)
net_there design names n named low =
    let count = length-map (flat_of design).nets net_name in
    let same = ap length named in
    element_at (flat_of design).nets n (omega (arith, low, same, count))

-- the first net that has a fault
pub net_fails : (design : Hierarchy) (names : List (List ℕ)) (rows : List DriverEdge) (n line : ℕ) (kind : DesignKind) (found : Option DesignKind)
    → names ≡ map net_name (flat_of design).nets → AreSourcesOf design rows → n < length names → found ≡ Some kind
    → ((name : List ℕ) → slice_get names n ≡ Some name → IsFirstKind (NumberHas names rows n name) found)
    → ((net : FlatNet) → slice_get (flat_of design).nets n ≡ Some net → line ≡ net_line net)
    → HaveNoneBefore FlatNet (NetHas (flat_of design)) (flat_of design).nets n → FirstOfNets (flat_of design) (fault_of line kind)
net_fails design names rows n line kind found named are low is says line_is before =
    let net = net_there design names n named low in
    first_here FlatNet (NetHas (flat_of design)) net_line (flat_of design).nets n net.0 (fault_of line kind) net.1 (line_is net.0 net.1)
    (subst (IsFirstKind (NetHas (flat_of design) n net.0)) is (said_of_net design names rows n net.0 found named are net.1 says)) before

-- one more net without a fault
pub net_passes : (design : Hierarchy) (names : List (List ℕ)) (rows : List DriverEdge) (n : ℕ) (found : Option DesignKind)
    → names ≡ map net_name (flat_of design).nets → AreSourcesOf design rows → n < length names → found ≡ None
    → ((name : List ℕ) → slice_get names n ≡ Some name → IsFirstKind (NumberHas names rows n name) found)
    → HaveNoneBefore FlatNet (NetHas (flat_of design)) (flat_of design).nets n
    → HaveNoneBefore FlatNet (NetHas (flat_of design)) (flat_of design).nets (n + 1)
net_passes design names rows n found named are low is says before =
    let net = net_there design names n named low in
    none_more FlatNet (NetHas (flat_of design)) (flat_of design).nets n net.0 net.1
    (subst (IsFirstKind (NetHas (flat_of design) n net.0)) is (said_of_net design names rows n net.0 found named are net.1 says)) before

-- no net has a fault
pub nets_pass : (design : Hierarchy) (names : List (List ℕ)) (n : ℕ) → names ≡ map net_name (flat_of design).nets → length names ≤ n
    → HaveNoneBefore FlatNet (NetHas (flat_of design)) (flat_of design).nets n → NoneOfNets (flat_of design)
nets_pass design names n named all before =
    let count = length-map (flat_of design).nets net_name in
    let same = ap length named in
    none_all FlatNet (NetHas (flat_of design)) (flat_of design).nets n (omega (arith, all, same, count)) before
