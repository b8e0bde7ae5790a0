use Rattle.std.proofs.Common.{◌≡◌, ◌-◌, ℕ, List, slice_get, ◌∙◌, ap, arith}
use Rattle.flat_design.specs.declared.elaborate.elaboration.ModuleInstanceRow.{ModuleInstanceRow}
use Rattle.flat_design.specs.Hierarchy.{scopes_in}
use Rattle.flat_design.proofs.NetScopes.{begun_by, one_begun, scope_found}
use Rattle.flat_design.proofs.drivers.net_lines.scope_of.Goals as goal

pub overflow_sub-result : goal.overflow_sub-result
overflow_sub-result c =
    let some = one_begun c.args.design.now c.args.net c.requires.is in
    let same : c.begun.result ≡ begun_by c.args.net c.args.design.now.elaboration.scopes =
    c.begun.ensures ∙ ap (λ (rows : List ModuleInstanceRow). begun_by c.args.net rows) c.as_slice.ensures in
    omega (arith, some, same)

pub returns : goal.returns
returns c = λ found at.
    let same : c.begun.result ≡ begun_by c.args.net c.args.design.now.elaboration.scopes =
    c.begun.ensures ∙ ap (λ (rows : List ModuleInstanceRow). begun_by c.args.net rows) c.as_slice.ensures in
    ap (λ (k : ℕ). slice_get (scopes_in c.args.design.now) (k - 1)) same ∙ scope_found c.args.design.now c.args.net found c.requires.is c.requires.within at
