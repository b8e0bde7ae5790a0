use Rattle.std.proofs.Common.{◌≡◌, ◌<◌, ◌≤◌, List, length, map, ◌∙◌, ap, arith}
use Rattle.std.proofs.lemmas.List.{length-map, take_all}
use Rattle.std.specs.List.{flat_map}
use Rattle.source_types.specs.declared.netlists.Module.{Module}
use Rattle.flat_model.specs.FlatNets.{net_name, nets_in}
use Rattle.flat_model.specs.Instances.{ModuleInstance}
use Rattle.text_model.proofs.ListFacts.{element_at}
use Rattle.flat_design.specs.Hierarchy.{prefix_in, scopes_in}
use Rattle.flat_design.proofs.HierarchyFacts.{prefix_there}
use Rattle.flat_design.proofs.NameFacts.{names_more}
use Rattle.flat_design.proofs.names.object_names.net_names.Goals as goal

pub body_at-body-requires-clause-within : goal.body_at-body-requires-clause-within
body_at-body-requires-clause-within c =
    let same = ap length c.requires.prefixes in
    let count = length-map (scopes_in c.args.design.now) prefix_in in
    omega (arith, c.loop-place-test.true, same, count, c.requires.is.elaboration.scope_count)

pub loop-place-preserved : goal.loop-place-preserved
loop-place-preserved c =
    let scopes = scopes_in c.args.design.now in
    let n = c.loop-place.place in
    let same = ap length c.requires.prefixes in
    let count = length-map scopes prefix_in in
    let low : n < length scopes = omega (arith, c.loop-place-test.true, same, count) in
    let here = element_at scopes n low in
    let prefix : c.as_str.result.now ≡ here.0.prefix =
    c.as_str.ensures ∙ prefix_there c.args.prefixes.now scopes n here.0 c.item_at-prefix.result.now c.requires.prefixes here.1 c.item_at-prefix.ensures in
    let nets = c.as_slice.ensures ∙ ap (λ (m : Module). m.nets) (c.body_at-body.ensures here.0 here.1) in
    c.in_ok-add_net_names.ensures ∙ names_more scopes n here.0 c.loop-place.names c.as_str.result.now c.as_slice.result.now here.1 prefix nets c.loop-place.invariant

pub returns : goal.returns
returns c =
    let scopes = scopes_in c.args.design.now in
    let same = ap length c.requires.prefixes in
    let count = length-map scopes prefix_in in
    let all : length scopes ≤ c.loop-place.place = omega (arith, c.loop-place-test.false, same, count) in
    c.loop-place.invariant ∙ ap (λ (xs : List ModuleInstance). map net_name (flat_map nets_in xs)) (take_all c.loop-place.place scopes all)
