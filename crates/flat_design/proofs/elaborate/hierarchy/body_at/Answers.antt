use Rattle.std.proofs.Common.{List, slice_get, sym, ◌∙◌, ap}
use Rattle.flat_model.specs.Instances.{ModuleInstance}
use Rattle.flat_design.specs.declared.elaborate.elaboration.ModuleInstanceRow.{ModuleInstanceRow}
use Rattle.flat_design.specs.Hierarchy.{scopes_in}
use Rattle.flat_design.specs.Elaboration.{IsModuleInstance}
use Rattle.flat_design.proofs.HierarchyFacts.{body_within, one_at}
use Rattle.flat_design.proofs.elaborate.hierarchy.body_at.Goals as goal

pub item_at-requires : goal.item_at-requires
item_at-requires c =
    let row = c.item_at-row.result.now in
    let known : IsModuleInstance c.args.design.now.modules.now (scopes_in c.args.design.now) c.args.place row =
    c.requires.is.elaboration.scopes c.args.place row (ap (λ (xs : List ModuleInstanceRow). slice_get xs c.args.place) (sym c.as_slice.ensures) ∙ c.item_at-row.ensures) in
    body_within c.args.design.now.modules.now (scopes_in c.args.design.now) c.args.place row known

pub returns : goal.returns
returns c = λ scope at.
    let row = c.item_at-row.result.now in
    let known : IsModuleInstance c.args.design.now.modules.now (scopes_in c.args.design.now) c.args.place row =
    c.requires.is.elaboration.scopes c.args.place row (ap (λ (xs : List ModuleInstanceRow). slice_get xs c.args.place) (sym c.as_slice.ensures) ∙ c.item_at-row.ensures) in
    one_at c.args.design.now.modules.now row.body c.item_at.result.now known.scope.body c.item_at.ensures known.body
    ∙ ap (λ (s : ModuleInstance). s.body) (one_at (scopes_in c.args.design.now) c.args.place known.scope scope known.at at)
