-- The bits that instances connect, and the ports of modules that stand for instances.
use Rattle.std.proofs.Common.{◌≡◌, ◌+◌, ◌≤◌, ℕ, zero, suc, Bool, true, false, cond, List, [], ◌∷◌, length, map, take, slice_get, Option, Some, None, refl, sym, ◌∙◌, ap, subst, arith}
use Rattle.std.proofs.lemmas.List.Elements.{All-nil, All-weaker}
use Rattle.std.proofs.lemmas.List.Folds.{find_at}
use Rattle.std.proofs.lemmas.Slice.Zip.{length-zip}
use Rattle.std.specs.List.{All, AllZip, filter_map, find, flat_map, list_any, position_or_len, zip}
use Rattle.source_types.specs.declared.netlists.Bit.{Bit}
use Rattle.source_types.specs.declared.netlists.Instance.{Instance}
use Rattle.source_types.specs.declared.netlists.Link.{Link}
use Rattle.source_types.specs.declared.netlists.Links.{Links}
use Rattle.source_types.specs.declared.netlists.Links.TheVariants as links
use Rattle.source_types.specs.declared.netlists.Module.{Module}
use Rattle.source_types.specs.declared.netlists.Port.{Port}
use Rattle.source_types.specs.declared.netlists.Wire.{Wire}
use Rattle.flat_model.specs.Connections.{bits_named, connected, named_bits, names_of, ordered_bits, ports_of}
use Rattle.flat_model.specs.FlatNets.{port_bits, port_drivers}
use Rattle.flat_model.specs.Instances.{Placed, ModuleInstance}
use Rattle.netlist_model.specs.WellFormedNetlist.{IsBitOf, IsNetOfPort, IsWellFormedModule, linked}
use Rattle.netlist_model.specs.Ranges.{width}
use Rattle.text_model.specs.Words.{same_text}
use Rattle.text_model.proofs.ListFacts.{all_at, contains_at, front_at}
use Rattle.flat_design.specs.declared.drivers.driver_edges.DriverEdge.{DriverEdge}
use Rattle.flat_design.specs.declared.elaborate.hierarchy.Hierarchy.{Hierarchy}
use Rattle.flat_design.specs.declared.elaborate.elaboration.Outer.{Outer}
use Rattle.flat_design.specs.Drivers.{Adds, HasBit, HasPort, IsDriverEdge}
use Rattle.flat_design.specs.Hierarchy.{IsHierarchy, scopes_in}
use Rattle.flat_design.specs.declared.elaborate.terminals.Terminals.{Terminals}
use Rattle.flat_design.specs.Elaboration.{IsPlaced}
use Rattle.flat_design.specs.Tables.{IsTerminals}
use Rattle.flat_design.proofs.HierarchyFacts.{one_at}
use Rattle.flat_design.proofs.NumberFacts.{flat_at}
use Rattle.flat_design.proofs.PlaceFacts.{all_from}
use Rattle.flat_design.proofs.PortFacts.{pair_across}
use Rattle.flat_design.proofs.RowFacts.{rows_none}
use Rattle.flat_design.proofs.TerminalFacts.{zip_at}

-- ---- nothing is connected

abbrev none_of_bits : List Bit
none_of_bits = []

zip_none : (xs : List Bit) → zip xs none_of_bits ≡ []
zip_none [] = refl
zip_none (x ∷ xs) = refl

pub no_drivers : (design : Hierarchy) (inside outside : List ℕ) (port : Port) (rows : List DriverEdge) → Adds design (port_drivers inside outside (port, [])) rows rows
no_drivers design inside outside port rows =
    subst (λ pairs. Adds design (filter_map (pair_across port inside outside) pairs) rows rows) (sym (zip_none (port_bits port))) (rows_none (IsDriverEdge design) rows)

-- ---- what is connected is among what is linked

flat_each : {X Y : Type 0} (P : Y → Type 0) (f : X → List Y) (xs : List X) (i : ℕ) (x : X) → All P (flat_map f xs) → slice_get xs i ≡ Some x → All P (f x)
flat_each P f xs i x all at =
    all_from P (f x) (λ j y found. all_at P (flat_map f xs) (length (flat_map f (take i xs)) + j) y all (flat_at f xs i j x y at found))

ordered_all : (P : Bit → Type 0) (names : List (List ℕ)) (cs : List (List Bit)) → ((k : ℕ) (one : List Bit) → slice_get cs k ≡ Some one → All P one)
    → (n : ℕ) (own : List Bit) → slice_get (ordered_bits names cs) n ≡ Some own → All P own
ordered_all P [] cs each n own at = let bad : None ≡ Some own = at in cc
ordered_all P (name ∷ names) [] each zero own at =
    let e : Some [] ≡ Some own = at in
    let same : [] ≡ own = cc in
    subst (All P) same (All-nil P)
ordered_all P (name ∷ names) [] each (suc n) own at = ordered_all P names [] each n own at
ordered_all P (name ∷ names) (c ∷ cs) each zero own at = each 0 own at
ordered_all P (name ∷ names) (c ∷ cs) each (suc n) own at = ordered_all P names cs (λ k one found. each (suc k) one found) n own at

either_all : (P : Bit → Type 0) (t : Bool) (some own : List Bit) → All P some → Some (cond t [] some) ≡ Some own → All P own
either_all P true some own all at = let same : [] ≡ own = cc in subst (All P) same (All-nil P)
either_all P false some own all at = let same : some ≡ own = cc in subst (All P) same all

named_all : (P : Bit → Type 0) (before names : List (List ℕ)) (all : List Link) → ((name : List ℕ) → All P (bits_named all name))
    → (n : ℕ) (own : List Bit) → slice_get (named_bits before names all) n ≡ Some own → All P own
named_all P before [] all each n own at = let bad : None ≡ Some own = at in cc
named_all P before (name ∷ names) all each zero own at = either_all P (list_any (same_text name) before) (bits_named all name) own (each name) at
named_all P before (name ∷ names) all each (suc n) own at = named_all P (name ∷ before) names all each n own at

find_in : (p : Link → Bool) (xs : List Link) (link : Link) → find p xs ≡ Some link → (k : ℕ) × (slice_get xs k ≡ Some link)
find_in p xs link at = (position_or_len p xs, sym (find_at p xs) ∙ at)

bits_named_all : (P : Bit → Type 0) (all : List Link) (name : List ℕ) → All P (flat_map (λ (link : Link). link.bits) all)
    → (o : Option Link) → find (λ (link : Link). same_text link.port name) all ≡ o → All P (bits_named all name)
bits_named_all P all name each None is = rw (bits_named, is) (All-nil P)
bits_named_all P all name each (Some link) is =
    let at = find_in (λ (one : Link). same_text one.port name) all link is in
    rw (bits_named, is) (flat_each P (λ (one : Link). one.bits) all at.0 link each at.1)

connected_all : (P : Bit → Type 0) (names : List (List ℕ)) (all : Links) → All P (linked all) → (n : ℕ) (own : List Bit)
    → slice_get (connected names all) n ≡ Some own → All P own
connected_all P names (links.Ordered cs) each n own at =
    ordered_all P names cs (λ k one found. flat_each P (λ (connection : List Bit). connection) cs k one each found) n own at
connected_all P names (links.Named all) each n own at =
    named_all P [] names all (λ name. bits_named_all P all name each (find (λ (link : Link). same_text link.port name) all) refl) n own at

-- each bit that is connected is one of the module around
pub bits_there : (design : Hierarchy) (at : Outer) (placed : Placed) (names : List (List ℕ)) (n : ℕ) (own : List Bit) → IsHierarchy design
    → IsPlaced (scopes_in design) placed at → slice_get (connected names placed.instance.links) n ≡ Some own → All (HasBit design at.scope) own
bits_there design at placed names n own is there found =
    let formed : IsWellFormedModule placed.scope.body = is.formed at.scope placed.scope there.scope in
    let each : All (IsBitOf placed.scope.body.nets) (linked placed.instance.links) =
    all_at (λ (i : Instance). All (IsBitOf placed.scope.body.nets) (linked i.links)) placed.scope.body.instances at.instance placed.instance formed.instances there.instance in
    All-weaker (IsBitOf placed.scope.body.nets) (HasBit design at.scope) (λ bit of. (placed.scope, there.scope, of)) own
    (connected_all (IsBitOf placed.scope.body.nets) names placed.instance.links each n own found)

-- a port of a module instance at a place is one of its nets
pub port_there : (design : Hierarchy) (place n : ℕ) (scope : ModuleInstance) (port : Port) → IsHierarchy design → slice_get (scopes_in design) place ≡ Some scope
    → slice_get scope.body.ports n ≡ Some port → HasPort design place port
port_there design place n scope port is at found =
    let formed : IsWellFormedModule scope.body = is.formed place scope at in
    let own = formed.ports in
    let wire = zip_at IsNetOfPort scope.body.ports own.0 own.3 n port found in
    let net_at : slice_get scope.body.nets n ≡ Some wire.0 = ap (λ (nets : List Wire). slice_get nets n) own.2 ∙ front_at own.0 own.1 n wire.0 wire.1 in
    (scope, at, (wire.0, contains_at scope.body.nets n wire.0 net_at, wire.2.0, wire.2.1))

-- ---- terminals by place

pub terminals_known : (modules : List Module) (tables : List Terminals) (n : ℕ) (body : Module) (table : Terminals)
    → AllZip (λ (m : Module) found. IsTerminals (ports_of m) found) modules tables → slice_get modules n ≡ Some body → slice_get tables n ≡ Some table
    → IsTerminals (ports_of body) table
terminals_known modules tables n body table all at found =
    let own = zip_at (λ (m : Module) one. IsTerminals (ports_of m) one) modules tables all n body at in
    subst (IsTerminals (ports_of body)) (one_at tables n own.0 table own.1 found) own.2

pub port_named : (ports : List Port) (n : ℕ) (port : Port) → slice_get ports n ≡ Some port
    → slice_get (names_of (map (λ (one : Port). record { name = one.name; width = width one.range }) ports)) n ≡ Some port.name
port_named [] n port at = let bad : None ≡ Some port = at in cc
port_named (p ∷ ports) zero port at = let e : Some p ≡ Some port = at in let same : p ≡ port = cc in ap (λ (one : Port). Some one.name) same
port_named (p ∷ ports) (suc n) port at = port_named ports n port at

pub pairs_few : (ports : List Port) (bits : List (List Bit)) → length (zip ports bits) ≤ length ports
pairs_few ports bits = let e = length-zip ports bits in omega (arith, e)
