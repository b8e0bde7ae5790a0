use Rattle.std.proofs.Common.{◌≡◌, ◌+◌, List, ℕ, length, slice_get, Some, sym, ◌∙◌, ap, subst, arith}
use Rattle.std.proofs.lemmas.Slice.Zip.{AllZip-long}
use Rattle.source_types.specs.declared.netlists.Module.{Module}
use Rattle.source_types.specs.declared.netlists.Wire.{Wire}
use Rattle.flat_model.specs.FlatNets.{net_bit}
use Rattle.flat_model.specs.Instances.{ModuleInstance}
use Rattle.flat_design.specs.declared.elaborate.elaboration.ModuleInstanceRow.{ModuleInstanceRow}
use Rattle.flat_design.specs.Hierarchy.{scopes_in}
use Rattle.flat_design.specs.Elaboration.{IsModuleInstance}
use Rattle.flat_design.specs.Names.{place_of}
use Rattle.flat_design.specs.NetNumbers.{IsNetTable, IsNumber, net_names}
use Rattle.flat_design.proofs.HierarchyFacts.{body_within, one_at, scope_within}
use Rattle.flat_design.proofs.NetRead.{Known, index_known, known, net_within, no_place, number_of, parts_fit, start_within}
use Rattle.flat_design.proofs.NumberFacts.{number_small}
use Rattle.flat_design.proofs.TableFacts.{table_gives}
use Rattle.flat_design.proofs.drivers.net_numbers.net_number.Goals as goal

pub item_at-row-requires : goal.item_at-row-requires
item_at-row-requires c =
    let design = c.args.design.now in
    let low = scope_within (scopes_in design) design.elaboration.scopes c.args.scope c.requires.there.0 c.requires.is.elaboration.scope_count c.requires.there.1 in
    let same = ap length c.as_slice.ensures in
    omega (arith, low, same)

pub item_at-body-requires : goal.item_at-body-requires
item_at-body-requires c =
    let design = c.args.design.now in
    let row = c.item_at-row.result.now in
    let is : IsModuleInstance design.modules.now (scopes_in design) c.args.scope row =
    c.requires.is.elaboration.scopes c.args.scope row (ap (λ (xs : List ModuleInstanceRow). slice_get xs c.args.scope) (sym c.as_slice.ensures) ∙ c.item_at-row.ensures) in
    body_within design.modules.now (scopes_in design) c.args.scope row is

pub item_at-known-requires : goal.item_at-known-requires
item_at-known-requires c =
    let design = c.args.design.now in
    let row = c.item_at-row.result.now in
    let is : IsModuleInstance design.modules.now (scopes_in design) c.args.scope row =
    c.requires.is.elaboration.scopes c.args.scope row (ap (λ (xs : List ModuleInstanceRow). slice_get xs c.args.scope) (sym c.as_slice.ensures) ∙ c.item_at-row.ensures) in
    let low = body_within design.modules.now (scopes_in design) c.args.scope row is in
    let count = AllZip-long (λ (m : Module) found. IsNetTable m.nets found) design.modules.now c.args.tables.now c.requires.tables in
    omega (arith, low, count)

pub item_at-start-requires : goal.item_at-start-requires
item_at-start-requires c =
    let design = c.args.design.now in
    let row = c.item_at-row.result.now in
    let body = c.item_at-body.result.now in
    let table = c.item_at-known.result.now in
    let k : Known design c.args.scope c.args.name.now c.args.index row body table =
    known design c.args.tables.now c.args.scope c.args.name.now c.args.index row body table c.requires.is c.requires.tables c.requires.there
    (ap (λ (xs : List ModuleInstanceRow). slice_get xs c.args.scope) (sym c.as_slice.ensures) ∙ c.item_at-row.ensures) c.item_at-body.ensures c.item_at-known.ensures in
    let at : place_of (net_names k.scope.body.nets) c.args.name.now ≡ Some c.in-Some.net =
    sym (table_gives table.places (net_names k.scope.body.nets) c.place.result c.as_str.result.now c.args.name.now k.is.places c.place.ensures c.as_str.ensures) ∙ c.in-Some.is in
    let low = start_within design c.args.scope c.args.name.now c.args.index row body table c.in-Some.net k at in
    let same = ap length c.as_slice-in-Some.ensures in
    omega (arith, low, same)

pub item_at-wire-requires : goal.item_at-wire-requires
item_at-wire-requires c =
    let design = c.args.design.now in
    let row = c.item_at-row.result.now in
    let body = c.item_at-body.result.now in
    let table = c.item_at-known.result.now in
    let k : Known design c.args.scope c.args.name.now c.args.index row body table =
    known design c.args.tables.now c.args.scope c.args.name.now c.args.index row body table c.requires.is c.requires.tables c.requires.there
    (ap (λ (xs : List ModuleInstanceRow). slice_get xs c.args.scope) (sym c.as_slice.ensures) ∙ c.item_at-row.ensures) c.item_at-body.ensures c.item_at-known.ensures in
    let at : place_of (net_names k.scope.body.nets) c.args.name.now ≡ Some c.in-Some.net =
    sym (table_gives table.places (net_names k.scope.body.nets) c.place.result c.as_str.result.now c.args.name.now k.is.places c.place.ensures c.as_str.ensures) ∙ c.in-Some.is in
    let low = net_within design c.args.scope c.args.name.now c.args.index row body table c.in-Some.net k at in
    let same = ap length c.as_slice-in-Some-2.ensures in
    omega (arith, low, same)

pub offset-requires : goal.offset-requires
offset-requires c =
    let design = c.args.design.now in
    let row = c.item_at-row.result.now in
    let body = c.item_at-body.result.now in
    let table = c.item_at-known.result.now in
    let k : Known design c.args.scope c.args.name.now c.args.index row body table =
    known design c.args.tables.now c.args.scope c.args.name.now c.args.index row body table c.requires.is c.requires.tables c.requires.there
    (ap (λ (xs : List ModuleInstanceRow). slice_get xs c.args.scope) (sym c.as_slice.ensures) ∙ c.item_at-row.ensures) c.item_at-body.ensures c.item_at-known.ensures in
    let at : place_of (net_names k.scope.body.nets) c.args.name.now ≡ Some c.in-Some.net =
    sym (table_gives table.places (net_names k.scope.body.nets) c.place.result c.as_str.result.now c.args.name.now k.is.places c.place.ensures c.as_str.ensures) ∙ c.in-Some.is in
    let wire : slice_get body.nets c.in-Some.net ≡ Some c.item_at-wire.result.now =
    ap (λ (xs : List Wire). slice_get xs c.in-Some.net) (sym c.as_slice-in-Some-2.ensures) ∙ c.item_at-wire.ensures in
    index_known design c.args.scope c.args.name.now c.args.index row body table c.in-Some.net c.item_at-wire.result.now k at wire

pub overflow_add-result : goal.overflow_add-result
overflow_add-result c =
    let design = c.args.design.now in
    let row = c.item_at-row.result.now in
    let body = c.item_at-body.result.now in
    let table = c.item_at-known.result.now in
    let k : Known design c.args.scope c.args.name.now c.args.index row body table =
    known design c.args.tables.now c.args.scope c.args.name.now c.args.index row body table c.requires.is c.requires.tables c.requires.there
    (ap (λ (xs : List ModuleInstanceRow). slice_get xs c.args.scope) (sym c.as_slice.ensures) ∙ c.item_at-row.ensures) c.item_at-body.ensures c.item_at-known.ensures in
    let at : place_of (net_names k.scope.body.nets) c.args.name.now ≡ Some c.in-Some.net =
    sym (table_gives table.places (net_names k.scope.body.nets) c.place.result c.as_str.result.now c.args.name.now k.is.places c.place.ensures c.as_str.ensures) ∙ c.in-Some.is in
    let start : slice_get table.starts c.in-Some.net ≡ Some c.item_at-start.result.now =
    ap (λ (xs : List ℕ). slice_get xs c.in-Some.net) (sym c.as_slice-in-Some.ensures) ∙ c.item_at-start.ensures in
    let low = parts_fit design c.args.scope c.args.name.now c.args.index row body table c.in-Some.net c.item_at-start.result.now k start in
    omega (arith, low)

pub overflow_add-result-in-Some : goal.overflow_add-result-in-Some
overflow_add-result-in-Some c =
    let design = c.args.design.now in
    let row = c.item_at-row.result.now in
    let body = c.item_at-body.result.now in
    let table = c.item_at-known.result.now in
    let k : Known design c.args.scope c.args.name.now c.args.index row body table =
    known design c.args.tables.now c.args.scope c.args.name.now c.args.index row body table c.requires.is c.requires.tables c.requires.there
    (ap (λ (xs : List ModuleInstanceRow). slice_get xs c.args.scope) (sym c.as_slice.ensures) ∙ c.item_at-row.ensures) c.item_at-body.ensures c.item_at-known.ensures in
    let at : place_of (net_names k.scope.body.nets) c.args.name.now ≡ Some c.in-Some.net =
    sym (table_gives table.places (net_names k.scope.body.nets) c.place.result c.as_str.result.now c.args.name.now k.is.places c.place.ensures c.as_str.ensures) ∙ c.in-Some.is in
    let start : slice_get table.starts c.in-Some.net ≡ Some c.item_at-start.result.now =
    ap (λ (xs : List ℕ). slice_get xs c.in-Some.net) (sym c.as_slice-in-Some.ensures) ∙ c.item_at-start.ensures in
    let wire : slice_get body.nets c.in-Some.net ≡ Some c.item_at-wire.result.now =
    ap (λ (xs : List Wire). slice_get xs c.in-Some.net) (sym c.as_slice-in-Some-2.ensures) ∙ c.item_at-wire.ensures in
    let low = number_small (scopes_in design) (row.first_net + c.item_at-start.result.now + c.offset.result) (net_bit k.scope.path c.args.name.now c.args.index) k.few
    (number_of design c.args.scope c.args.name.now c.args.index row body table c.in-Some.net c.item_at-start.result.now c.offset.result c.item_at-wire.result.now k at start wire c.offset.ensures) in
    omega (arith, low)

pub returns-in-Some : goal.returns-in-Some
returns-in-Some c = λ found found_at bit.
    let design = c.args.design.now in
    let row = c.item_at-row.result.now in
    let body = c.item_at-body.result.now in
    let table = c.item_at-known.result.now in
    let k : Known design c.args.scope c.args.name.now c.args.index row body table =
    known design c.args.tables.now c.args.scope c.args.name.now c.args.index row body table c.requires.is c.requires.tables c.requires.there
    (ap (λ (xs : List ModuleInstanceRow). slice_get xs c.args.scope) (sym c.as_slice.ensures) ∙ c.item_at-row.ensures) c.item_at-body.ensures c.item_at-known.ensures in
    let at : place_of (net_names k.scope.body.nets) c.args.name.now ≡ Some c.in-Some.net =
    sym (table_gives table.places (net_names k.scope.body.nets) c.place.result c.as_str.result.now c.args.name.now k.is.places c.place.ensures c.as_str.ensures) ∙ c.in-Some.is in
    let start : slice_get table.starts c.in-Some.net ≡ Some c.item_at-start.result.now =
    ap (λ (xs : List ℕ). slice_get xs c.in-Some.net) (sym c.as_slice-in-Some.ensures) ∙ c.item_at-start.ensures in
    let wire : slice_get body.nets c.in-Some.net ≡ Some c.item_at-wire.result.now =
    ap (λ (xs : List Wire). slice_get xs c.in-Some.net) (sym c.as_slice-in-Some-2.ensures) ∙ c.item_at-wire.ensures in
    subst (λ (s : ModuleInstance). IsNumber (scopes_in design) (row.first_net + c.item_at-start.result.now + c.offset.result) (net_bit s.path c.args.name.now c.args.index))
    (one_at (scopes_in design) c.args.scope k.scope found k.at found_at)
    (number_of design c.args.scope c.args.name.now c.args.index row body table c.in-Some.net c.item_at-start.result.now c.offset.result c.item_at-wire.result.now k at start wire c.offset.ensures)

pub returns-in-None : goal.returns-in-None
returns-in-None c = λ found found_at bit.
    let design = c.args.design.now in
    let row = c.item_at-row.result.now in
    let body = c.item_at-body.result.now in
    let table = c.item_at-known.result.now in
    let k : Known design c.args.scope c.args.name.now c.args.index row body table =
    known design c.args.tables.now c.args.scope c.args.name.now c.args.index row body table c.requires.is c.requires.tables c.requires.there
    (ap (λ (xs : List ModuleInstanceRow). slice_get xs c.args.scope) (sym c.as_slice.ensures) ∙ c.item_at-row.ensures) c.item_at-body.ensures c.item_at-known.ensures in
    absurd (no_place design c.args.scope c.args.name.now c.args.index row body table k
    (sym (table_gives table.places (net_names k.scope.body.nets) c.place.result c.as_str.result.now c.args.name.now k.is.places c.place.ensures c.as_str.ensures) ∙ c.in-None.is))
