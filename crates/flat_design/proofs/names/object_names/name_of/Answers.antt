use Rattle.std.proofs.Common.{◌≡◌, ◌++◌, List, ℕ, length, ◌∙◌, ap, arith}
use Rattle.std.proofs.lemmas.List.{length-map}
use Rattle.std.proofs.lemmas.Option.{slice_get_within}
use Rattle.std.proofs.lemmas.Result.{IfOk-weaker}
use Rattle.source_types.specs.declared.netlists.Instance.{Instance}
use Rattle.flat_model.specs.Instances.{full_name}
use Rattle.flat_design.specs.Hierarchy.{prefix_in, scopes_in}
use Rattle.flat_design.proofs.HierarchyFacts.{prefix_there}
use Rattle.flat_design.proofs.names.object_names.name_of.Goals as goal

pub item_at-prefix-requires : goal.item_at-prefix-requires
item_at-prefix-requires c =
    let placed = c.requires.there.0 in
    let low = slice_get_within (scopes_in c.args.design.now) c.args.at.scope placed.scope c.requires.there.1.scope in
    let same = ap length c.requires.prefixes in
    let count = length-map (scopes_in c.args.design.now) prefix_in in
    omega (arith, low, same, count)

pub returns : goal.returns
returns c = λ placed is.
    let prefix : c.item_at-prefix.result.now ≡ placed.scope.prefix =
    prefix_there c.args.prefixes.now (scopes_in c.args.design.now) c.args.at.scope placed.scope c.item_at-prefix.result.now c.requires.prefixes is.scope c.item_at-prefix.ensures in
    let name : c.instance_at-instance.result.now.name ≡ placed.instance.name = ap (λ (i : Instance). i.name) (c.instance_at-instance.ensures placed is) in
    IfOk-weaker c.full_name.result (λ (n : List ℕ). n ≡ c.as_str.result.now ++ c.as_str-2.result.now) (λ (n : List ℕ). n ≡ full_name placed)
    (λ n e. e ∙ (ap (λ (a : List ℕ). a ++ c.as_str-2.result.now) (c.as_str.ensures ∙ prefix)
    ∙ ap (λ (b : List ℕ). placed.scope.prefix ++ b) (c.as_str-2.ensures ∙ name))) c.full_name.ensures
