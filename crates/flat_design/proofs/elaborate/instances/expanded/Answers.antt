use Rattle.std.proofs.Common.{◌≡◌, List, Option, Some, None, refl, sym, ◌∙◌, ap, subst}
use Rattle.source_types.specs.declared.netlists.Module.{Module}
use Rattle.source_types.specs.declared.netlists.Port.{Port}
use Rattle.flat_model.specs.FlatDesign.{flat}
use Rattle.flat_model.specs.FlatFaults.{is_too_large}
use Rattle.flat_design.specs.declared.elaborate.elaboration.Elaboration.{Elaboration}
use Rattle.flat_design.specs.Expansion.{HasElaboration}
use Rattle.flat_design.specs.Elaboration.{port_count}
use Rattle.flat_design.proofs.HierarchyFacts.{one_at}
use Rattle.flat_design.proofs.Elaborated.{elaboration_found, steps_within}
use Rattle.flat_design.proofs.SizeOrder.{counted_large, kinds_within, order_within}
use Rattle.flat_design.proofs.elaborate.instances.expanded.Goals as goal

pub is_counted_beyond-requires-clause-within : goal.is_counted_beyond-requires-clause-within
is_counted_beyond-requires-clause-within c = steps_within c.args.modules.now c.args.library.now c.args.steps.now c.requires.steps

pub is_counted_beyond-requires-clause-kinds : goal.is_counted_beyond-requires-clause-kinds
is_counted_beyond-requires-clause-kinds c = kinds_within c.args.modules.now c.args.library.now c.args.steps.now c.requires.steps

pub is_counted_beyond-requires-clause-order : goal.is_counted_beyond-requires-clause-order
is_counted_beyond-requires-clause-order c = order_within c.args.steps.now c.args.order.now c.requires.order

pub returns-then-branch : goal.returns-then-branch
returns-then-branch c = λ body at.
    let same : c.item_at-top.result.now ≡ body = one_at c.args.modules.now c.args.place c.item_at-top.result.now body c.item_at-top.ensures at in
    let ports : c.port_count-ports.result ≡ port_count body.ports =
    c.port_count-ports.ensures ∙ ap (λ (ports : List Port). port_count ports) (c.as_slice.ensures ∙ ap (λ (m : Module). m.ports) same) in (
      counted_large c.args.modules.now c.args.library.now c.args.steps.now c.as_slice-known.result.now c.args.order.now c.args.place
          c.port_count-ports.result body c.requires.steps c.requires.order c.requires.reached
          (c.as_slice-known.ensures ∙ c.in_ok-counts.ensures) at ports (c.requires.sound body at)
          (sym c.in_ok-is_counted_beyond.ensures ∙ c.if-branch.true),
      c.without_line.ensures,
    )

pub expand-requires-clause-top : goal.expand-requires-clause-top
expand-requires-clause-top c = c.item_at-top.ensures

pub expand-requires-clause-counts : goal.expand-requires-clause-counts
expand-requires-clause-counts c = c.as_slice-known.ensures ∙ c.in_ok-counts.ensures

pub expand-requires-clause-sound : goal.expand-requires-clause-sound
expand-requires-clause-sound c = c.requires.sound c.item_at-top.result.now c.item_at-top.ensures

pub returns-in-None : goal.returns-in-None
returns-in-None c = λ body at.
    let same : c.item_at-top.result.now ≡ body = one_at c.args.modules.now c.args.place c.item_at-top.result.now body c.item_at-top.ensures at in
    let has : HasElaboration c.args.modules.now c.args.library.now c.item_at-top.result.now None =
    subst (λ (o : Option Elaboration). HasElaboration c.args.modules.now c.args.library.now c.item_at-top.result.now o) c.in-None.is c.in_ok-found.ensures in
    (sym (ap (λ (m : Module). is_too_large (flat c.args.modules.now c.args.library.now m)) same) ∙ has, c.without_line-in-None.ensures)

pub returns : goal.returns
returns c = λ body at.
    let same : c.item_at-top.result.now ≡ body = one_at c.args.modules.now c.args.place c.item_at-top.result.now body c.item_at-top.ensures at in
    let has : HasElaboration c.args.modules.now c.args.library.now c.item_at-top.result.now (Some c.in-Some.elaboration) =
    subst (λ (o : Option Elaboration). HasElaboration c.args.modules.now c.args.library.now c.item_at-top.result.now o) c.in-Some.is c.in_ok-found.ensures in (
      refl,
      refl,
      same,
      elaboration_found c.args.modules.now c.args.library.now c.item_at-top.result.now c.in-Some.elaboration c.requires.netlist has
          (record { modules = c.args.modules; library = c.args.library; top = c.item_at-top.result; elaboration = c.in-Some.elaboration }) refl refl refl refl,
      sym (ap (λ (m : Module). is_too_large (flat c.args.modules.now c.args.library.now m)) same) ∙ has.0,
    )
