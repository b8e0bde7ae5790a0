use Rattle.std.proofs.Common.{◌≡◌, ◌<◌, List, length, slice_get, Some, sym, ◌∙◌, ap, arith}
use Rattle.source_types.specs.declared.netlists.Module.{Module}
use Rattle.source_types.specs.declared.netlists.Wire.{Wire}
use Rattle.flat_model.specs.FlatNets.{tie_drivers}
use Rattle.text_model.proofs.ListFacts.{contains_at, element_at}
use Rattle.flat_design.specs.Drivers.{IsDriverEdge}
use Rattle.flat_design.specs.Hierarchy.{scopes_in}
use Rattle.flat_design.proofs.RowFacts.{rows_flat}
use Rattle.flat_design.proofs.drivers.all_drivers.add_ties.Goals as goal

pub add_tie-requires-clause-there : goal.add_tie-requires-clause-there
add_tie-requires-clause-there c =
    let scopes = scopes_in c.args.design.now in
    let low : c.args.scope < length scopes = omega (arith, c.requires.within, c.requires.is.elaboration.scope_count) in
    let here = element_at scopes c.args.scope low in
    let own : c.body_at-body.result.now ≡ here.0.body = c.body_at-body.ensures here.0 here.1 in
    let at : slice_get here.0.body.nets c.loop-place.place ≡ Some c.item_at-wire.result.now =
    ap (λ (m : Module). slice_get m.nets c.loop-place.place) (sym own)
    ∙ (ap (λ (xs : List Wire). slice_get xs c.loop-place.place) (sym c.as_slice.ensures) ∙ c.item_at-wire.ensures) in
    (here.0, here.1, contains_at here.0.body.nets c.loop-place.place c.item_at-wire.result.now at)

pub loop-place-preserved : goal.loop-place-preserved
loop-place-preserved c = λ found at.
    let own : c.body_at-body.result.now ≡ found.body = c.body_at-body.ensures found at in
    let there : slice_get found.body.nets c.loop-place.place ≡ Some c.item_at-wire.result.now =
    ap (λ (m : Module). slice_get m.nets c.loop-place.place) (sym own)
    ∙ (ap (λ (xs : List Wire). slice_get xs c.loop-place.place) (sym c.as_slice.ensures) ∙ c.item_at-wire.ensures) in
    rows_flat (IsDriverEdge c.args.design.now) (tie_drivers found.path) found.body.nets c.loop-place.place c.item_at-wire.result.now c.args.rows.now c.loop-place.rows
    c.add_tie.new.rows there (c.in_ok-add_tie.ensures found at) (c.loop-place.invariant found at)
