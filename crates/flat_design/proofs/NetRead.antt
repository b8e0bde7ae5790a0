-- What is known where the number of a net bit is put together.
use Rattle.std.proofs.Common.{◌≡◌, ◌+◌, ◌<◌, ◌≤◌, ℕ, List, length, take, slice_get, Option, Some, None, sym, ◌∙◌, ap, subst, arith}
use Rattle.std.proofs.lemmas.Option.{slice_get_within}
use Rattle.std.specs.List.{AllZip}
use Rattle.source_types.specs.declared.netlists.Module.{Module}
use Rattle.source_types.specs.declared.netlists.Wire.{Wire}
use Rattle.flat_model.specs.FlatNets.{net_bit}
use Rattle.flat_model.specs.Instances.{ModuleInstance}
use Rattle.netlist_model.specs.Ranges.{indices}
use Rattle.text_model.specs.Names.{AreDistinct}
use Rattle.netlist_model.specs.WellFormedNetlist.{IsNetBit, Selects}
use Rattle.flat_design.specs.declared.elaborate.hierarchy.Hierarchy.{Hierarchy}
use Rattle.flat_design.specs.declared.elaborate.elaboration.ModuleInstanceRow.{ModuleInstanceRow}
use Rattle.flat_design.specs.declared.drivers.net_numbers.NetTable.{NetTable}
use Rattle.flat_design.specs.Hierarchy.{IsHierarchy, scopes_in}
use Rattle.flat_design.specs.Elaboration.{IsModuleInstance, nets_of}
use Rattle.flat_design.specs.Names.{place_of}
use Rattle.flat_design.specs.NetNumbers.{IsNetTable, IsNumber, net_names}
use Rattle.flat_design.proofs.HierarchyFacts.{one_at}
use Rattle.flat_design.proofs.NumberFacts.{has_place, net_there, nets_before_le, number_is, start_is, starts_length}
use Rattle.flat_design.proofs.TerminalFacts.{zip_at}

-- a bit of the module at a place, the row there, the module and the table of its nets
pub record Known (design : Hierarchy) (place : ℕ) (name : List ℕ) (index : Option ℕ) (row : ModuleInstanceRow) (body : Module) (table : NetTable) : Type 0 where
  pub scope : ModuleInstance
  pub at : slice_get (scopes_in design) place ≡ Some scope
  pub bit : IsNetBit scope.body.nets name index
  pub first : row.first_net ≡ nets_of (take place (scopes_in design))
  pub own : body ≡ scope.body
  pub is : IsNetTable scope.body.nets table
  pub distinct : AreDistinct (net_names scope.body.nets)
  pub few : nets_of (scopes_in design) ≤ 4000000

pub known : (design : Hierarchy) (tables : List NetTable) (place : ℕ) (name : List ℕ) (index : Option ℕ) (row : ModuleInstanceRow) (body : Module) (table : NetTable)
    → IsHierarchy design → AllZip (λ (m : Module) found. IsNetTable m.nets found) design.modules.now tables
    → ((scope : ModuleInstance) × (slice_get (scopes_in design) place ≡ Some scope) × IsNetBit scope.body.nets name index)
    → slice_get design.elaboration.scopes place ≡ Some row → slice_get design.modules.now row.body ≡ Some body → slice_get tables row.body ≡ Some table
    → Known design place name index row body table
known design tables place name index row body table is all there row_at body_at table_at =
    let here : IsModuleInstance design.modules.now (scopes_in design) place row = is.elaboration.scopes place row row_at in
    let same : here.scope ≡ there.0 = one_at (scopes_in design) place here.scope there.0 here.at there.1 in
    let own : body ≡ here.scope.body = one_at design.modules.now row.body body here.scope.body body_at here.body in
    let found = zip_at (λ (m : Module) one. IsNetTable m.nets one) design.modules.now tables all row.body here.scope.body here.body in
    let table_is : found.0 ≡ table = one_at tables row.body found.0 table found.1 table_at in
    let nets = is.elaboration.nets in
    let few = is.elaboration.few_nets in
    record {
      scope = there.0;
      at = there.1;
      bit = there.2;
      first = here.first;
      own = own ∙ ap (λ (s : ModuleInstance). s.body) same;
      is = subst (λ (s : ModuleInstance). IsNetTable s.body.nets table) same (subst (IsNetTable here.scope.body.nets) table_is found.2);
      distinct = is.distinct place there.0 there.1;
      few = omega (arith, nets, few);
    }

pub no_place : (design : Hierarchy) (place : ℕ) (name : List ℕ) (index : Option ℕ) (row : ModuleInstanceRow) (body : Module) (table : NetTable)
    → (k : Known design place name index row body table) → place_of (net_names k.scope.body.nets) name ≡ None → ⊥
no_place design place name index row body table k none = has_place k.scope.body.nets name index k.bit none

-- the net at the place of its name
pub wire_known : (design : Hierarchy) (place : ℕ) (name : List ℕ) (index : Option ℕ) (row : ModuleInstanceRow) (body : Module) (table : NetTable) (w : ℕ)
    → (k : Known design place name index row body table) → place_of (net_names k.scope.body.nets) name ≡ Some w
    → slice_get body.nets w ≡ Some k.bit.0
wire_known design place name index row body table w k at =
    ap (λ (m : Module). slice_get m.nets w) k.own ∙ net_there k.scope.body.nets name index w k.distinct k.bit at

pub net_within : (design : Hierarchy) (place : ℕ) (name : List ℕ) (index : Option ℕ) (row : ModuleInstanceRow) (body : Module) (table : NetTable) (w : ℕ)
    → (k : Known design place name index row body table) → place_of (net_names k.scope.body.nets) name ≡ Some w → w < length body.nets
net_within design place name index row body table w k at =
    slice_get_within body.nets w k.bit.0 (wire_known design place name index row body table w k at)

pub start_within : (design : Hierarchy) (place : ℕ) (name : List ℕ) (index : Option ℕ) (row : ModuleInstanceRow) (body : Module) (table : NetTable) (w : ℕ)
    → (k : Known design place name index row body table) → place_of (net_names k.scope.body.nets) name ≡ Some w → w < length table.starts
start_within design place name index row body table w k at =
    let low = net_within design place name index row body table w k at in
    let own = ap (λ (m : Module). length m.nets) k.own in
    let same = ap length k.is.starts in
    let count = starts_length 0 k.scope.body.nets in
    omega (arith, low, own, same, count)

-- the index selects a bit of the net
pub index_known : (design : Hierarchy) (place : ℕ) (name : List ℕ) (index : Option ℕ) (row : ModuleInstanceRow) (body : Module) (table : NetTable) (w : ℕ) (wire : Wire)
    → (k : Known design place name index row body table) → place_of (net_names k.scope.body.nets) name ≡ Some w → slice_get body.nets w ≡ Some wire
    → Selects index wire.range
index_known design place name index row body table w wire k at found =
    let same : k.bit.0 ≡ wire = one_at body.nets w k.bit.0 wire (wire_known design place name index row body table w k at) found in
    subst (λ (one : Wire). Selects index one.range) same k.bit.3

-- the first two parts of a number are small
pub parts_fit : (design : Hierarchy) (place : ℕ) (name : List ℕ) (index : Option ℕ) (row : ModuleInstanceRow) (body : Module) (table : NetTable) (w start : ℕ)
    → (k : Known design place name index row body table) → slice_get table.starts w ≡ Some start → row.first_net + start ≤ 8000002
parts_fit design place name index row body table w start k found =
    let begun = start_is 0 k.scope.body.nets w start (omega arith) (ap (λ (xs : List ℕ). slice_get xs w) (sym k.is.starts) ∙ found) in
    let before = nets_before_le (scopes_in design) place in
    omega (arith, begun, before, k.first, k.few)

pub number_of : (design : Hierarchy) (place : ℕ) (name : List ℕ) (index : Option ℕ) (row : ModuleInstanceRow) (body : Module) (table : NetTable) (w start off : ℕ) (wire : Wire)
    → (k : Known design place name index row body table) → place_of (net_names k.scope.body.nets) name ≡ Some w → slice_get table.starts w ≡ Some start
    → slice_get body.nets w ≡ Some wire → slice_get (indices wire.range) off ≡ Some index
    → IsNumber (scopes_in design) (row.first_net + start + off) (net_bit k.scope.path name index)
number_of design place name index row body table w start off wire k at start_at wire_at found =
    let same : wire ≡ k.bit.0 = one_at body.nets w wire k.bit.0 wire_at (wire_known design place name index row body table w k at) in
    number_is (scopes_in design) place k.scope w name index row.first_net start off k.at k.bit (net_there k.scope.body.nets name index w k.distinct k.bit at) k.few k.first
    (ap (λ (xs : List ℕ). slice_get xs w) (sym k.is.starts) ∙ start_at)
    (ap (λ (one : Wire). slice_get (indices one.range) off) (sym same) ∙ found)
