use Rattle.std.proofs.Common.{◌≡◌, List, slice_get, sym, ◌∙◌, ap}
use Rattle.source_types.specs.declared.netlists.Instance.{Instance}
use Rattle.source_types.specs.declared.netlists.Module.{Module}
use Rattle.flat_design.specs.Hierarchy.{scopes_in}
use Rattle.flat_design.proofs.HierarchyFacts.{instance_within, one_at, scope_within}
use Rattle.flat_design.proofs.elaborate.hierarchy.instance_at.Goals as goal

pub body_at-body-requires-clause-within : goal.body_at-body-requires-clause-within
body_at-body-requires-clause-within c =
    scope_within (scopes_in c.args.design.now) c.args.design.now.elaboration.scopes c.args.at.scope c.requires.there.0.scope c.requires.is.elaboration.scope_count c.requires.there.1.scope

pub item_at-requires : goal.item_at-requires
item_at-requires c =
    let placed = c.requires.there.0 in
    instance_within (scopes_in c.args.design.now) c.args.at placed c.as_slice.result.now c.requires.there.1
    (c.as_slice.ensures ∙ ap (λ (m : Module). m.instances) (c.body_at-body.ensures placed.scope c.requires.there.1.scope))

pub returns : goal.returns
returns c = λ placed is.
    let same : c.as_slice.result.now ≡ placed.scope.body.instances =
    c.as_slice.ensures ∙ ap (λ (m : Module). m.instances) (c.body_at-body.ensures placed.scope is.scope) in
    one_at placed.scope.body.instances c.args.at.instance c.item_at.result.now placed.instance
    (ap (λ (xs : List Instance). slice_get xs c.args.at.instance) (sym same) ∙ c.item_at.ensures) is.instance
