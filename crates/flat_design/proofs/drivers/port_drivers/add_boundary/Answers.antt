use Rattle.std.proofs.Common.{◌≡◌, ◌≤◌, List, ℕ, length, slice_get, Some, sym, ◌∙◌, ap, subst, arith}
use Rattle.std.proofs.lemmas.List.{take_all}
use Rattle.std.proofs.lemmas.Slice.Zip.{AllZip-long}
use Rattle.std.specs.List.{flat_map, zip}
use Rattle.source_types.specs.declared.netlists.Bit.{Bit}
use Rattle.source_types.specs.declared.netlists.Instance.{Instance}
use Rattle.source_types.specs.declared.netlists.Links.{Links}
use Rattle.source_types.specs.declared.netlists.Module.{Module}
use Rattle.source_types.specs.declared.netlists.Port.{Port}
use Rattle.flat_model.specs.Connections.{connected, names_of, ports_of}
use Rattle.flat_model.specs.FlatNets.{port_drivers}
use Rattle.flat_model.specs.Instances.{ModuleInstance}
use Rattle.flat_design.specs.declared.elaborate.elaboration.ModuleInstanceRow.{ModuleInstanceRow}
use Rattle.flat_design.specs.Connected.{shown}
use Rattle.flat_design.specs.Drivers.{Adds, IsDriverEdge}
use Rattle.flat_design.specs.Hierarchy.{scopes_in}
use Rattle.flat_design.specs.Elaboration.{IsModuleInstance}
use Rattle.flat_design.specs.Tables.{IsTerminals}
use Rattle.flat_design.proofs.AddedDrivers.{zip_get}
use Rattle.flat_design.proofs.BoundaryFacts.{bits_there, pairs_few, port_named, port_there, terminals_known}
use Rattle.flat_design.proofs.HierarchyFacts.{body_within, one_at, scope_within}
use Rattle.flat_design.proofs.RowFacts.{rows_flat}
use Rattle.flat_design.proofs.drivers.port_drivers.add_boundary.Goals as goal

pub item_at-row-requires : goal.item_at-row-requires
item_at-row-requires c =
    let low = scope_within (scopes_in c.args.design.now) c.args.design.now.elaboration.scopes c.args.inside c.requires.inner.0 c.requires.is.elaboration.scope_count c.requires.inner.1 in
    let same = ap length c.as_slice.ensures in
    omega (arith, low, same)

pub item_at-body-requires : goal.item_at-body-requires
item_at-body-requires c =
    let design = c.args.design.now in
    let scopes = scopes_in design in
    let row = c.item_at-row.result.now in
    let inner = c.requires.inner.0 in
    let is : IsModuleInstance design.modules.now scopes c.args.inside row =
    c.requires.is.elaboration.scopes c.args.inside row (ap (λ (xs : List ModuleInstanceRow). slice_get xs c.args.inside) (sym c.as_slice.ensures) ∙ c.item_at-row.ensures) in
    body_within design.modules.now scopes c.args.inside row is

pub item_at-known-requires : goal.item_at-known-requires
item_at-known-requires c =
    let design = c.args.design.now in
    let scopes = scopes_in design in
    let row = c.item_at-row.result.now in
    let inner = c.requires.inner.0 in
    let is : IsModuleInstance design.modules.now scopes c.args.inside row =
    c.requires.is.elaboration.scopes c.args.inside row (ap (λ (xs : List ModuleInstanceRow). slice_get xs c.args.inside) (sym c.as_slice.ensures) ∙ c.item_at-row.ensures) in
    let low = body_within design.modules.now scopes c.args.inside row is in
    let count = AllZip-long (λ (m : Module) found. IsTerminals (ports_of m) found) design.modules.now c.args.ports.now c.requires.ports in
    omega (arith, low, count)

pub add_connection-requires-clause-port : goal.add_connection-requires-clause-port
add_connection-requires-clause-port c =
    let design = c.args.design.now in
    let scopes = scopes_in design in
    let row = c.item_at-row.result.now in
    let inner = c.requires.inner.0 in
    let is : IsModuleInstance design.modules.now scopes c.args.inside row =
    c.requires.is.elaboration.scopes c.args.inside row (ap (λ (xs : List ModuleInstanceRow). slice_get xs c.args.inside) (sym c.as_slice.ensures) ∙ c.item_at-row.ensures) in
    let same : is.scope ≡ inner = one_at scopes c.args.inside is.scope inner is.at c.requires.inner.1 in
    let own : c.item_at-body.result.now ≡ inner.body =
    one_at design.modules.now row.body c.item_at-body.result.now is.scope.body c.item_at-body.ensures is.body ∙ ap (λ (s : ModuleInstance). s.body) same in
    let port = c.item_at-port.result.now in
    let port_at : slice_get inner.body.ports c.loop-place.place ≡ Some port =
    ap (λ (m : Module). slice_get m.ports c.loop-place.place) (sym own)
    ∙ (ap (λ (xs : List Port). slice_get xs c.loop-place.place) (sym c.as_slice-in-loop-place.ensures) ∙ c.item_at-port.ensures) in
    port_there design c.args.inside c.loop-place.place inner port c.requires.is c.requires.inner.1 port_at

pub add_connection-requires-clause-bits : goal.add_connection-requires-clause-bits
add_connection-requires-clause-bits c =
    let design = c.args.design.now in
    let scopes = scopes_in design in
    let row = c.item_at-row.result.now in
    let inner = c.requires.inner.0 in
    let is : IsModuleInstance design.modules.now scopes c.args.inside row =
    c.requires.is.elaboration.scopes c.args.inside row (ap (λ (xs : List ModuleInstanceRow). slice_get xs c.args.inside) (sym c.as_slice.ensures) ∙ c.item_at-row.ensures) in
    let same : is.scope ≡ inner = one_at scopes c.args.inside is.scope inner is.at c.requires.inner.1 in
    let own : c.item_at-body.result.now ≡ inner.body =
    one_at design.modules.now row.body c.item_at-body.result.now is.scope.body c.item_at-body.ensures is.body ∙ ap (λ (s : ModuleInstance). s.body) same in
    let port = c.item_at-port.result.now in
    let port_at : slice_get inner.body.ports c.loop-place.place ≡ Some port =
    ap (λ (m : Module). slice_get m.ports c.loop-place.place) (sym own)
    ∙ (ap (λ (xs : List Port). slice_get xs c.loop-place.place) (sym c.as_slice-in-loop-place.ensures) ∙ c.item_at-port.ensures) in
    let placed = c.requires.there.0 in
    let links : c.instance_at-instance.result.now.links ≡ placed.instance.links =
    ap (λ (i : Instance). i.links) (c.instance_at-instance.ensures placed c.requires.there.1) in
    let names = names_of (ports_of inner.body) in
    let known : IsTerminals (ports_of inner.body) c.item_at-known.result.now =
    terminals_known design.modules.now c.args.ports.now row.body inner.body c.item_at-known.result.now c.requires.ports
    (is.body ∙ ap (λ (s : ModuleInstance). Some s.body) same) c.item_at-known.ensures in
    let named : slice_get names c.loop-place.place ≡ Some c.as_str-name.result.now =
    port_named inner.body.ports c.loop-place.place port port_at ∙ ap (λ (n : List ℕ). Some n) (sym c.as_str-name.ensures) in
    let found : slice_get (connected names c.instance_at-instance.result.now.links) c.loop-place.place ≡ Some (shown c.connected_at-bits.result) =
    c.connected_at-bits.ensures names known.places c.in_ok-places.ensures named in
    let bits_at : slice_get (connected names placed.instance.links) c.loop-place.place ≡ Some (shown c.connected_at-bits.result) =
    ap (λ (all : Links). slice_get (connected names all) c.loop-place.place) (sym links) ∙ found in
    bits_there design c.args.at placed names c.loop-place.place (shown c.connected_at-bits.result) c.requires.is c.requires.there.1 bits_at

pub loop-place-preserved : goal.loop-place-preserved
loop-place-preserved c = λ found placed at there.
    let design = c.args.design.now in
    let scopes = scopes_in design in
    let row = c.item_at-row.result.now in
    let is : IsModuleInstance design.modules.now scopes c.args.inside row =
    c.requires.is.elaboration.scopes c.args.inside row (ap (λ (xs : List ModuleInstanceRow). slice_get xs c.args.inside) (sym c.as_slice.ensures) ∙ c.item_at-row.ensures) in
    let same : is.scope ≡ found = one_at scopes c.args.inside is.scope found is.at at in
    let own : c.item_at-body.result.now ≡ found.body =
    one_at design.modules.now row.body c.item_at-body.result.now is.scope.body c.item_at-body.ensures is.body ∙ ap (λ (s : ModuleInstance). s.body) same in
    let names = names_of (ports_of found.body) in
    let pairs = zip found.body.ports (connected names placed.instance.links) in
    let port = c.item_at-port.result.now in
    let port_at : slice_get found.body.ports c.loop-place.place ≡ Some port =
    ap (λ (m : Module). slice_get m.ports c.loop-place.place) (sym own)
    ∙ (ap (λ (xs : List Port). slice_get xs c.loop-place.place) (sym c.as_slice-in-loop-place.ensures) ∙ c.item_at-port.ensures) in
    let links : c.instance_at-instance.result.now.links ≡ placed.instance.links = ap (λ (i : Instance). i.links) (c.instance_at-instance.ensures placed there) in
    let known : IsTerminals (ports_of found.body) c.item_at-known.result.now =
    terminals_known design.modules.now c.args.ports.now row.body found.body c.item_at-known.result.now c.requires.ports
    (is.body ∙ ap (λ (s : ModuleInstance). Some s.body) same) c.item_at-known.ensures in
    let named : slice_get names c.loop-place.place ≡ Some c.as_str-name.result.now =
    port_named found.body.ports c.loop-place.place port port_at ∙ ap (λ (n : List ℕ). Some n) (sym c.as_str-name.ensures) in
    let bits_at : slice_get (connected names placed.instance.links) c.loop-place.place ≡ Some (shown c.connected_at-bits.result) =
    ap (λ (all : Links). slice_get (connected names all) c.loop-place.place) (sym links)
    ∙ c.connected_at-bits.ensures names known.places c.in_ok-places.ensures named in
    rows_flat (IsDriverEdge design) (port_drivers found.path placed.scope.path) pairs c.loop-place.place (port, shown c.connected_at-bits.result) c.args.rows.now c.loop-place.rows
    c.add_connection.new.rows
    (zip_get found.body.ports (connected names placed.instance.links) c.loop-place.place port (shown c.connected_at-bits.result) port_at bits_at)
    (c.in_ok-add_connection.ensures found placed.scope at there.scope) (c.loop-place.invariant found placed at there)

pub returns : goal.returns
returns c = λ found placed at there.
    let design = c.args.design.now in
    let scopes = scopes_in design in
    let row = c.item_at-row.result.now in
    let is : IsModuleInstance design.modules.now scopes c.args.inside row =
    c.requires.is.elaboration.scopes c.args.inside row (ap (λ (xs : List ModuleInstanceRow). slice_get xs c.args.inside) (sym c.as_slice.ensures) ∙ c.item_at-row.ensures) in
    let same : is.scope ≡ found = one_at scopes c.args.inside is.scope found is.at at in
    let own : c.item_at-body.result.now ≡ found.body =
    one_at design.modules.now row.body c.item_at-body.result.now is.scope.body c.item_at-body.ensures is.body ∙ ap (λ (s : ModuleInstance). s.body) same in
    let names = names_of (ports_of found.body) in
    let pairs = zip found.body.ports (connected names placed.instance.links) in
    let few = pairs_few found.body.ports (connected names placed.instance.links) in
    let count = ap (λ (m : Module). length m.ports) own in
    let all : length pairs ≤ c.loop-place.place = omega (arith, few, count, c.loop-place-test.false, c.len-place-end.ensures) in
    subst (λ (xs : List (Port × List Bit)). Adds design (flat_map (port_drivers found.path placed.scope.path) xs) c.args.rows.now c.loop-place.rows)
    (take_all c.loop-place.place pairs all) (c.loop-place.invariant found placed at there)
