use Rattle.std.proofs.Common.{◌≡◌, ◌<◌, List, length, slice_get, Some, sym, ◌∙◌, ap, arith}
use Rattle.std.proofs.lemmas.Result.{IfOk-weaker}
use Rattle.std.specs.List.{flat_map, zip}
use Rattle.flat_model.specs.Connections.{connected, names_of, ports_of}
use Rattle.flat_model.specs.FlatNets.{boundary_drivers, port_drivers, top_port_drivers}
use Rattle.text_model.proofs.ListFacts.{element_at}
use Rattle.flat_design.specs.declared.elaborate.elaboration.ModuleInstanceRow.{ModuleInstanceRow}
use Rattle.flat_design.specs.Drivers.{Adds}
use Rattle.flat_design.specs.Hierarchy.{scopes_in}
use Rattle.flat_design.specs.Elaboration.{IsOpenedBy}
use Rattle.flat_design.proofs.AllDriverFacts.{boundary_opened, boundary_top, opened_there, top_found}
use Rattle.flat_design.proofs.drivers.all_drivers.add_ports.Goals as goal

pub returns-in-None : goal.returns-in-None
returns-in-None c = λ found at.
    let design = c.args.design.now in
    let row_at : slice_get design.elaboration.scopes c.args.scope ≡ Some c.item_at-row.result.now =
    ap (λ (xs : List ModuleInstanceRow). slice_get xs c.args.scope) (sym c.as_slice.ensures) ∙ c.item_at-row.ensures in
    let top = top_found design c.args.scope c.item_at-row.result.now found c.requires.is row_at at c.in-None.is in
    IfOk-weaker c.add_top_ports.result (λ _. Adds design (flat_map top_port_drivers design.top.now.ports) c.args.rows.now c.add_top_ports.new.rows)
    (λ _. Adds design (boundary_drivers found) c.args.rows.now c.add_top_ports.new.rows)
    (λ _ added. boundary_top design found c.args.rows.now c.add_top_ports.new.rows top added) c.add_top_ports.ensures

pub add_boundary-requires-clause-inner : goal.add_boundary-requires-clause-inner
add_boundary-requires-clause-inner c =
    let scopes = scopes_in c.args.design.now in
    let low : c.args.scope < length scopes = omega (arith, c.requires.within, c.requires.is.elaboration.scope_count) in
    element_at scopes c.args.scope low

pub add_boundary-requires-clause-there : goal.add_boundary-requires-clause-there
add_boundary-requires-clause-there c =
    let design = c.args.design.now in
    let scopes = scopes_in design in
    let low : c.args.scope < length scopes = omega (arith, c.requires.within, c.requires.is.elaboration.scope_count) in
    let here = element_at scopes c.args.scope low in
    let row_at : slice_get design.elaboration.scopes c.args.scope ≡ Some c.item_at-row.result.now =
    ap (λ (xs : List ModuleInstanceRow). slice_get xs c.args.scope) (sym c.as_slice.ensures) ∙ c.item_at-row.ensures in
    let own : IsOpenedBy scopes here.0 c.in-Some.at = opened_there design c.args.scope c.item_at-row.result.now here.0 c.in-Some.at c.requires.is row_at here.1 c.in-Some.is in
    (own.placed, own.is)

pub returns-in-Some : goal.returns-in-Some
returns-in-Some c = λ found at.
    let design = c.args.design.now in
    let row_at : slice_get design.elaboration.scopes c.args.scope ≡ Some c.item_at-row.result.now =
    ap (λ (xs : List ModuleInstanceRow). slice_get xs c.args.scope) (sym c.as_slice.ensures) ∙ c.item_at-row.ensures in
    let own : IsOpenedBy (scopes_in design) found c.in-Some.at =
    opened_there design c.args.scope c.item_at-row.result.now found c.in-Some.at c.requires.is row_at at c.in-Some.is in
    IfOk-weaker c.add_boundary.result
    (λ _. Adds design (flat_map (port_drivers found.path own.placed.scope.path)
    (zip found.body.ports (connected (names_of (ports_of found.body)) own.placed.instance.links))) c.args.rows.now c.add_boundary.new.rows)
    (λ _. Adds design (boundary_drivers found) c.args.rows.now c.add_boundary.new.rows)
    (λ _ added. boundary_opened design found c.in-Some.at c.args.rows.now c.add_boundary.new.rows own added)
    (c.add_boundary.ensures found own.placed at own.is)
