use Rattle.std.proofs.Common.{◌≡◌, ◌∙◌, Some, length, rules, sym, ap, subst}
use Rattle.std.specs.BTreeMap.{Updates, get}
use Rattle.std.specs.Cmp.Lexicographic.{slice_cmp}
use Rattle.std.specs.Ordering.{nat_cmp}
use Rattle.lib_cells.specs.Pairs.{HasPairs}
use Rattle.lib_cells.proofs.PairFacts.{pushes, pushes_places, unites, unites_places, within}
use Rattle.lib_cells.proofs.cell.arcs.add_arc.Goals as goal

pub unite-requires : goal.unite-requires
unite-requires c =
    let key_is = ap (λ key. get (slice_cmp nat_cmp) c.args.places.now key) (sym c.pair_key-key.ensures) in
    within c.args.places.now c.args.arcs.now.items c.args.arc c.in-Some.place c.requires (key_is ∙ (sym c.get.ensures.value ∙ sym c.in-Some.ensures))

pub returns-in-Some-clause-joined : goal.returns-in-Some-clause-joined
returns-in-Some-clause-joined c =
    let key_is = ap (λ key. get (slice_cmp nat_cmp) c.args.places.now key) (sym c.pair_key-key.ensures) in
    c.unite.ensures
    ∙ unites c.args.places.now c.args.arcs.now.items c.args.arc c.in-Some.place c.requires (key_is ∙ (sym c.get.ensures.value ∙ sym c.in-Some.ensures))

pub returns-in-Some-clause-found : goal.returns-in-Some-clause-found
returns-in-Some-clause-found c =
    let key_is = ap (λ key. get (slice_cmp nat_cmp) c.args.places.now key) (sym c.pair_key-key.ensures) in
    subst (λ arcs. HasPairs c.args.places.now arcs) (sym c.unite.ensures)
    (unites_places c.args.places.now c.args.arcs.now.items c.args.arc c.in-Some.place c.requires (key_is ∙ (sym c.get.ensures.value ∙ sym c.in-Some.ensures)))

pub returns-clause-joined : goal.returns-clause-joined
returns-clause-joined c =
    let key_is = ap (λ key. get (slice_cmp nat_cmp) c.args.places.now key) (sym c.pair_key-key.ensures) in
    c.in_ok-push.ensures.items
    ∙ pushes c.args.places.now c.args.arcs.now.items c.args.arc c.requires (key_is ∙ (sym c.get.ensures.value ∙ sym c.in_default.ensures))

pub returns-clause-found : goal.returns-clause-found
returns-clause-found c =
    let key_is = ap (λ key. get (slice_cmp nat_cmp) c.args.places.now key) (sym c.pair_key-key.ensures) in
    let last_is : c.len.result ≡ length c.args.arcs.now.items = search rules in
    let updates = subst (λ key. Updates (slice_cmp nat_cmp) c.args.places.now c.insert.new.self key (Some c.len.result)) c.pair_key-key.ensures c.in_ok-insert.ensures.updates in
    subst (λ arcs. HasPairs c.insert.new.self arcs) (sym c.in_ok-push.ensures.items)
    (pushes_places c.args.places.now c.insert.new.self c.args.arcs.now.items c.args.arc c.len.result c.requires
    (key_is ∙ (sym c.get.ensures.value ∙ sym c.in_default.ensures)) last_is updates)
