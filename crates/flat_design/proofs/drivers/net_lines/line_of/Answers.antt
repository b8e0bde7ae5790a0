use Rattle.std.proofs.Common.{◌<◌, length, arith}
use Rattle.std.specs.List.{flat_map}
use Rattle.flat_model.specs.FlatNets.{nets_in}
use Rattle.text_model.proofs.ListFacts.{element_at}
use Rattle.flat_design.specs.Hierarchy.{scopes_in}
use Rattle.flat_design.proofs.HierarchyFacts.{scope_within}
use Rattle.flat_design.proofs.drivers.net_lines.line_of.Goals as goal

pub body_at-requires-clause-within : goal.body_at-requires-clause-within
body_at-requires-clause-within c =
    let nets = flat_map nets_in (scopes_in c.args.design.now) in
    let low : c.args.net < length nets = omega (arith, c.requires.within, c.requires.is.elaboration.nets) in
    let net = element_at nets c.args.net low in
    scope_within (scopes_in c.args.design.now) c.args.design.now.elaboration.scopes c.scope_of.result net.0.scope c.requires.is.elaboration.scope_count (c.scope_of.ensures net.0 net.1)
