-- The sources of a net, and what drives it by its number: one for one, since a net has one number.
use Rattle.std.proofs.Common.{◌≡◌, ◌&&◌, ℕ, Bool, true, false, true≢false, cond, Decides, List, [], ◌∷◌, filter, length, map, nat_eq, Option, Some, None, refl, sym, ◌∙◌, ap, subst, eqb-true, eq-eqb}
use Rattle.std.proofs.lemmas.Bool.Decides.{Decides-and, Decides-eqb, Decides-like, same_from_decides}
use Rattle.std.proofs.lemmas.Option.{none-some, same_Some}
use Rattle.std.proofs.lemmas.Slice.Eq.{bytes_eq-Decides}
use Rattle.std.proofs.lemmas.Slice.Zip.{AllZip-long}
use Rattle.std.specs.List.{AllZip, Contains, flat_map}
use Rattle.flat_model.specs.FlatNets.{NetDriver, NetBit, Origin, bit_of, net_bit, nets_in, same_index, same_net, sources}
use Rattle.text_model.specs.Words.{same_text}
use Rattle.text_model.proofs.ListFacts.{contains_at}
use Rattle.flat_design.specs.declared.drivers.driver_edges.DriverEdge.{DriverEdge}
use Rattle.flat_design.specs.declared.drivers.driver_edges.Driver.{Driver}
use Rattle.flat_design.specs.declared.elaborate.hierarchy.Hierarchy.{Hierarchy}
use Rattle.flat_design.specs.Drivers.{IsDriverEdge, IsDriverByNumber}
use Rattle.flat_design.specs.Hierarchy.{IsHierarchy, scopes_in}
use Rattle.flat_design.specs.NetNumbers.{IsNumber}
use Rattle.flat_design.specs.Sources.{driven_by}
use Rattle.flat_design.proofs.DistinctBits.{number_once}
use Rattle.flat_design.proofs.HierarchyFacts.{one_at}
use Rattle.flat_design.proofs.PlaceFacts.{place_in}
use Rattle.flat_design.proofs.TerminalFacts.{zip_at}
use Rattle.flat_design.proofs.WellFormedLists.{zip_back}

-- ---- nets are distinct by path, name and index

index_decides : (a b : Option ℕ) → Decides (same_index a b) (a ≡ b)
index_decides None None = (λ e. refl, λ e. refl)
index_decides (Some i) (Some j) = (λ e. ap (λ (n : ℕ). Some n) (eqb-true i j e), λ e. eq-eqb i j (same_Some i j e))
index_decides None (Some j) = (λ e. absurd (true≢false (sym e)), λ e. absurd (none-some j e))
index_decides (Some i) None = (λ e. absurd (true≢false (sym e)), λ e. absurd (none-some i (sym e)))

one_net : (a b : NetBit) → a.path ≡ b.path → a.name ≡ b.name → a.index ≡ b.index → a ≡ b
one_net a b path name index =
    ap (λ (p : List ℕ). net_bit p a.name a.index) path ∙ (ap (λ (n : List ℕ). net_bit b.path n a.index) name ∙ ap (net_bit b.path b.name) index)

net_decides : (a b : NetBit) → Decides (same_net a b) (a ≡ b)
net_decides a b =
    let inner = Decides-and (same_text a.name b.name) (same_index a.index b.index) (bytes_eq-Decides a.name b.name) (index_decides a.index b.index) in
    let whole = Decides-and (same_text a.path b.path) (same_text a.name b.name && same_index a.index b.index) (bytes_eq-Decides a.path b.path) inner in (
      λ e. let h = whole.0 e in one_net a b h.0 h.1.0 h.1.1,
      λ e. whole.1 (ap (λ (n : NetBit). n.path) e, (ap (λ (n : NetBit). n.name) e, ap (λ (n : NetBit). n.index) e)),
    )

-- ---- and so by their numbers

pub bit_once : (design : Hierarchy) (n : ℕ) (a b : NetBit) → IsNumber (scopes_in design) n a → IsNumber (scopes_in design) n b → a ≡ b
bit_once design n a b at other = one_at (map bit_of (flat_map nets_in (scopes_in design))) n a b at other

pub numbered_once : (design : Hierarchy) (n m : ℕ) (bit : NetBit) → IsHierarchy design → IsNumber (scopes_in design) n bit → IsNumber (scopes_in design) m bit → n ≡ m
numbered_once design n m bit is at other = number_once design.modules.now design.top.now is.distinct bit n m at other

same_number : (design : Hierarchy) (n m : ℕ) (a b : NetBit) → IsHierarchy design → IsNumber (scopes_in design) n a → IsNumber (scopes_in design) m b
    → same_net a b ≡ nat_eq n m
same_number design n m a b is at other =
    same_from_decides (same_net a b) (nat_eq n m) (net_decides a b)
    (Decides-like (nat_eq n m) (λ e. bit_once design m a b (subst (λ (k : ℕ). IsNumber (scopes_in design) k a) e at) other)
    (λ e. numbered_once design n m b is (subst (IsNumber (scopes_in design) n) e at) other) (Decides-eqb n m))

-- ---- sources, one for one

kept : (design : Hierarchy) (t : Bool) (one : NetDriver) (row : DriverEdge) (drivers : List NetDriver) (rows : List DriverEdge) → IsDriverEdge design one row
    → AllZip (IsDriverByNumber design) (map (λ (f : NetDriver). f.from) drivers) (map (λ (r : DriverEdge). r.from) rows)
    → AllZip (IsDriverByNumber design) (map (λ (f : NetDriver). f.from) (cond t (one ∷ drivers) drivers)) (map (λ (r : DriverEdge). r.from) (cond t (row ∷ rows) rows))
kept design true one row drivers rows is all = (is.origin, all)
kept design false one row drivers rows is all = all

pub sources_driven : (design : Hierarchy) (drivers : List NetDriver) (rows : List DriverEdge) (n : ℕ) (bit : NetBit) → IsHierarchy design → AllZip (IsDriverEdge design) drivers rows
    → IsNumber (scopes_in design) n bit → AllZip (IsDriverByNumber design) (sources drivers bit) (driven_by rows n)
sources_driven design [] [] n bit is all at = tt
sources_driven design [] (row ∷ rows) n bit is all at = absurd all
sources_driven design (one ∷ drivers) [] n bit is all at = absurd all
sources_driven design (one ∷ drivers) (row ∷ rows) n bit is all at =
    let front : List NetDriver = filter (λ (f : NetDriver). same_net f.to bit) drivers in
    let after : List DriverEdge = filter (λ (r : DriverEdge). nat_eq r.to n) rows in
    let same : same_net one.to bit ≡ nat_eq row.to n = same_number design row.to n one.to bit is all.0.net at in
    subst (λ (t : Bool). AllZip (IsDriverByNumber design) (map (λ (f : NetDriver). f.from) (cond t (one ∷ front) front)) (driven_by (row ∷ rows) n)) (sym same)
    (kept design (nat_eq row.to n) one row front after all.0 (sources_driven design drivers rows n bit is all.1 at))

pub sources_count : (design : Hierarchy) (drivers : List NetDriver) (rows : List DriverEdge) (n : ℕ) (bit : NetBit) → IsHierarchy design → AllZip (IsDriverEdge design) drivers rows
    → IsNumber (scopes_in design) n bit → length (sources drivers bit) ≡ length (driven_by rows n)
sources_count design drivers rows n bit is all at =
    sym (AllZip-long (IsDriverByNumber design) (sources drivers bit) (driven_by rows n) (sources_driven design drivers rows n bit is all at))

-- ---- a source among those of a net

-- each source is one by its number
pub driven_there : (design : Hierarchy) (drivers : List NetDriver) (rows : List DriverEdge) (n : ℕ) (bit : NetBit) (origin : Origin) → IsHierarchy design
    → AllZip (IsDriverEdge design) drivers rows → IsNumber (scopes_in design) n bit → Contains (sources drivers bit) origin
    → (own : Driver) × Contains (driven_by rows n) own × IsDriverByNumber design origin own
driven_there design drivers rows n bit origin is all at has =
    let here = place_in (sources drivers bit) origin has in
    let found = zip_at (IsDriverByNumber design) (sources drivers bit) (driven_by rows n) (sources_driven design drivers rows n bit is all at) here.0 origin here.1 in
    (found.0, contains_at (driven_by rows n) here.0 found.0 found.1, found.2)

-- each one by number is a source
pub source_there : (design : Hierarchy) (drivers : List NetDriver) (rows : List DriverEdge) (n : ℕ) (bit : NetBit) (own : Driver) → IsHierarchy design
    → AllZip (IsDriverEdge design) drivers rows → IsNumber (scopes_in design) n bit → Contains (driven_by rows n) own
    → (origin : Origin) × Contains (sources drivers bit) origin × IsDriverByNumber design origin own
source_there design drivers rows n bit own is all at has =
    let here = place_in (driven_by rows n) own has in
    let found = zip_back (IsDriverByNumber design) (sources drivers bit) (driven_by rows n) (sources_driven design drivers rows n bit is all at) here.0 own here.1 in
    (found.0, contains_at (sources drivers bit) here.0 found.0 found.1, found.2)
