use Rattle.std.proofs.Common.{◌≡◌, ◌++◌, List, ℕ, length, slice_get, codes, sym, ◌∙◌, ap, arith}
use Rattle.std.proofs.lemmas.Result.{IfOk-weaker}
use Rattle.flat_model.specs.Instances.{Placed, full_name}
use Rattle.source_types.specs.declared.netlists.Instance.{Instance}
use Rattle.flat_design.specs.declared.elaborate.elaboration.ModuleInstanceRow.{ModuleInstanceRow}
use Rattle.flat_design.specs.Hierarchy.{scopes_in}
use Rattle.flat_design.specs.Elaboration.{IsOpenedBy, IsModuleInstance}
use Rattle.flat_design.proofs.HierarchyFacts.{opened_before, opened_by, prefix_of_before, prefix_top}
use Rattle.flat_design.proofs.elaborate.hierarchy.next_prefix.Goals as goal

pub returns-in-None : goal.returns-in-None
returns-in-None c = λ scope at.
    let design = c.args.design.now in
    let n = length c.args.before.now in
    let row = c.item_at-row.result.now in
    let known : IsModuleInstance design.modules.now (scopes_in design) n row =
    c.requires.is.elaboration.scopes n row (ap (λ (xs : List ModuleInstanceRow). slice_get xs n) (sym c.as_slice.ensures) ∙ (ap (slice_get c.as_slice.result.now) (sym c.len.ensures) ∙ c.item_at-row.ensures)) in
    c.new.ensures ∙ prefix_top design.modules.now (scopes_in design) n row scope known at c.in-None.is

pub item_at-around-requires : goal.item_at-around-requires
item_at-around-requires c =
    let design = c.args.design.now in
    let n = length c.args.before.now in
    let row = c.item_at-row.result.now in
    let known : IsModuleInstance design.modules.now (scopes_in design) n row =
    c.requires.is.elaboration.scopes n row (ap (λ (xs : List ModuleInstanceRow). slice_get xs n) (sym c.as_slice.ensures) ∙ (ap (slice_get c.as_slice.result.now) (sym c.len.ensures) ∙ c.item_at-row.ensures)) in
    let low = opened_before design.modules.now (scopes_in design) n row c.in-Some.at known c.in-Some.is in
    let same = ap length c.as_slice-in-Some.ensures in
    omega (arith, low, same)

pub instance_at-instance-requires-clause-there : goal.instance_at-instance-requires-clause-there
instance_at-instance-requires-clause-there c =
    let design = c.args.design.now in
    let n = length c.args.before.now in
    let row = c.item_at-row.result.now in
    let known : IsModuleInstance design.modules.now (scopes_in design) n row =
    c.requires.is.elaboration.scopes n row (ap (λ (xs : List ModuleInstanceRow). slice_get xs n) (sym c.as_slice.ensures) ∙ (ap (slice_get c.as_slice.result.now) (sym c.len.ensures) ∙ c.item_at-row.ensures)) in
    let own : IsOpenedBy (scopes_in design) known.scope c.in-Some.at =
    opened_by design.modules.now (scopes_in design) n row known.scope c.in-Some.at known known.at c.in-Some.is in
    (own.placed, own.is)

pub returns-in_ok-full-in-Some : goal.returns-in_ok-full-in-Some
returns-in_ok-full-in-Some c = λ scope at.
    let design = c.args.design.now in
    let n = length c.args.before.now in
    let row = c.item_at-row.result.now in
    let known : IsModuleInstance design.modules.now (scopes_in design) n row =
    c.requires.is.elaboration.scopes n row (ap (λ (xs : List ModuleInstanceRow). slice_get xs n) (sym c.as_slice.ensures) ∙ (ap (slice_get c.as_slice.result.now) (sym c.len.ensures) ∙ c.item_at-row.ensures)) in
    let own : IsOpenedBy (scopes_in design) scope c.in-Some.at =
    opened_by design.modules.now (scopes_in design) n row scope c.in-Some.at known at c.in-Some.is in
    let placed : Placed = own.placed in
    let low = opened_before design.modules.now (scopes_in design) n row c.in-Some.at known c.in-Some.is in
    let around : c.item_at-around.result.now ≡ placed.scope.prefix =
    prefix_of_before c.args.before.now (scopes_in design) n c.in-Some.at placed c.item_at-around.result.now c.requires.before low own.is
    (ap (λ (xs : List (List ℕ)). slice_get xs c.in-Some.at.scope) (sym c.as_slice-in-Some.ensures) ∙ c.item_at-around.ensures) in
    let name : c.instance_at-instance.result.now.name ≡ placed.instance.name =
    ap (λ (i : Instance). i.name) (c.instance_at-instance.ensures placed own.is) in
    let whole : c.in_ok-full-in-Some.full ≡ full_name placed =
    c.in_ok-full-in-Some.ensures
    ∙ (ap (λ (a : List ℕ). a ++ c.as_str-in-Some.result.now) (c.as_str.ensures ∙ around)
    ∙ ap (λ (b : List ℕ). placed.scope.prefix ++ b) (c.as_str-in-Some.ensures ∙ name)) in
    IfOk-weaker c.inner_prefix.result (λ (p : List ℕ). p ≡ c.as_str-in-Some-2.result.now ++ codes "/") (λ (p : List ℕ). p ≡ scope.prefix)
    (λ p e. e ∙ (ap (λ (a : List ℕ). a ++ codes "/") (c.as_str-in-Some-2.ensures ∙ whole) ∙ sym own.prefix)) c.inner_prefix.ensures
