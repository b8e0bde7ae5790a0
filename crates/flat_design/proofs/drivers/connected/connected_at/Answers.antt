use Rattle.std.proofs.Common.{List, Some, slice_get, sym, ◌∙◌, ap, subst}
use Rattle.source_types.specs.declared.netlists.Bit.{Bit}
use Rattle.source_types.specs.declared.netlists.Link.{Link}
use Rattle.source_types.specs.declared.netlists.Links.{Links}
use Rattle.flat_model.specs.Connections.{connected}
use Rattle.flat_design.specs.Connected.{IsLinkTable, link_names, named_at, ordered_at}
use Rattle.flat_design.specs.Names.{IsTable}
use Rattle.flat_design.proofs.ConnectedFacts.{named_is, ordered_is}
use Rattle.flat_design.proofs.drivers.connected.connected_at.Goals as goal

pub returns-in-Ordered : goal.returns-in-Ordered
returns-in-Ordered c = λ names is known at.
    ap (λ (all : Links). slice_get (connected names all) c.args.at) c.in-Ordered.is
    ∙ (ordered_is names c.in-Ordered.connections c.args.at c.args.name.now at
    ∙ ap (λ (bits : List Bit). Some bits) (sym (c.ordered_at.ensures ∙ ap (λ (cs : List (List Bit)). ordered_at cs c.args.at) c.as_slice.ensures)))

pub returns-in-Named : goal.returns-in-Named
returns-in-Named c = λ names is known at.
    let own : IsTable c.args.link_places.now (link_names c.in-Named.all) = subst (λ (all : Links). IsLinkTable all c.args.link_places.now) c.in-Named.is known in
    let given : IsTable c.args.link_places.now (link_names c.as_slice-in-Named.result.now) =
    subst (λ (all : List Link). IsTable c.args.link_places.now (link_names all)) (sym c.as_slice-in-Named.ensures) own in
    ap (λ (all : Links). slice_get (connected names all) c.args.at) c.in-Named.is
    ∙ (named_is names c.in-Named.all c.args.at c.args.name.now at
    ∙ ap (λ (bits : List Bit). Some bits) (sym (c.named_at.ensures names is given ∙ ap (λ (all : List Link). named_at names all c.args.at c.args.name.now) c.as_slice-in-Named.ensures)))
