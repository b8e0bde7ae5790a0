use Rattle.std.proofs.Common.{◌≡◌, ◌<◌, List, length, slice_get, Some, sym, ◌∙◌, ap, arith}
use Rattle.source_types.specs.declared.netlists.Assign.{Assign}
use Rattle.source_types.specs.declared.netlists.Module.{Module}
use Rattle.flat_model.specs.FlatNets.{assign_drivers}
use Rattle.netlist_model.specs.WellFormedNetlist.{IsAssignOf}
use Rattle.text_model.proofs.ListFacts.{all_at, element_at}
use Rattle.flat_design.specs.Drivers.{IsDriverEdge}
use Rattle.flat_design.specs.Hierarchy.{scopes_in}
use Rattle.flat_design.proofs.RowFacts.{rows_flat}
use Rattle.flat_design.proofs.drivers.all_drivers.add_assigns.Goals as goal

pub add_assign-requires-clause-there : goal.add_assign-requires-clause-there
add_assign-requires-clause-there c =
    let scopes = scopes_in c.args.design.now in
    let low : c.args.scope < length scopes = omega (arith, c.requires.within, c.requires.is.elaboration.scope_count) in
    let here = element_at scopes c.args.scope low in
    let own : c.body_at-body.result.now ≡ here.0.body = c.body_at-body.ensures here.0 here.1 in
    let at : slice_get here.0.body.assigns c.loop-place.place ≡ Some c.item_at-assign.result.now =
    ap (λ (m : Module). slice_get m.assigns c.loop-place.place) (sym own)
    ∙ (ap (λ (xs : List Assign). slice_get xs c.loop-place.place) (sym c.as_slice.ensures) ∙ c.item_at-assign.ensures) in (
      here.0,
      here.1,
      all_at (IsAssignOf here.0.body.nets) here.0.body.assigns c.loop-place.place c.item_at-assign.result.now
          (c.requires.is.formed c.args.scope here.0 here.1).assigns at,
    )

pub loop-place-preserved : goal.loop-place-preserved
loop-place-preserved c = λ found at.
    let own : c.body_at-body.result.now ≡ found.body = c.body_at-body.ensures found at in
    let there : slice_get found.body.assigns c.loop-place.place ≡ Some c.item_at-assign.result.now =
    ap (λ (m : Module). slice_get m.assigns c.loop-place.place) (sym own)
    ∙ (ap (λ (xs : List Assign). slice_get xs c.loop-place.place) (sym c.as_slice.ensures) ∙ c.item_at-assign.ensures) in
    rows_flat (IsDriverEdge c.args.design.now) (assign_drivers found.path) found.body.assigns c.loop-place.place c.item_at-assign.result.now c.args.rows.now c.loop-place.rows
    c.add_assign.new.rows there (c.in_ok-add_assign.ensures found at) (c.loop-place.invariant found at)
