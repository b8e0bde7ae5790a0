use Rattle.std.proofs.Common.{◌<◌, ◌≤◌, ℕ, length, map, take, slice_get, sym, ◌∙◌, ap, arith}
use Rattle.std.proofs.lemmas.List.{length_push, take_all}
use Rattle.text_model.proofs.ListFacts.{element_at}
use Rattle.flat_design.specs.Hierarchy.{prefix_in, scopes_in}
use Rattle.flat_design.proofs.PlaceFacts.{mapped_more}
use Rattle.flat_design.proofs.elaborate.hierarchy.prefixes.Goals as goal

pub next_prefix-requires-clause-within : goal.next_prefix-requires-clause-within
next_prefix-requires-clause-within c =
    let low = c.loop-place-test.true in
    let same = c.loop-place.invariant.1 in
    omega (arith, low, same, c.len-place-end.ensures)

pub next_prefix-requires-clause-before : goal.next_prefix-requires-clause-before
next_prefix-requires-clause-before c =
    c.loop-place.invariant.0 ∙ ap (λ (n : ℕ). map prefix_in (take n (scopes_in c.args.design.now))) (sym c.loop-place.invariant.1)

pub loop-place-preserved : goal.loop-place-preserved
loop-place-preserved c =
    let scopes = scopes_in c.args.design.now in
    let n = c.loop-place._place in
    let low : n < length scopes = omega (arith, c.loop-place-test.true, c.len-place-end.ensures, c.requires.elaboration.scope_count) in
    let here = element_at scopes n low in
    let more = length_push c.loop-place.all c.in_ok-prefix.prefix in (
      c.in_ok-push.ensures.ok ∙ mapped_more prefix_in scopes n here.0 c.in_ok-prefix.prefix c.loop-place.all here.1
          (c.in_ok-prefix.ensures here.0 (ap (slice_get scopes) c.loop-place.invariant.1 ∙ here.1)) c.loop-place.invariant.0,
      ap length c.in_ok-push.ensures.ok ∙ omega (arith, more, c.loop-place.invariant.1),
    )

pub returns : goal.returns
returns c =
    let scopes = scopes_in c.args.design.now in
    let all : length scopes ≤ c.loop-place._place = omega (arith, c.loop-place-test.false, c.len-place-end.ensures, c.requires.elaboration.scope_count) in
    c.loop-place.invariant.0 ∙ ap (map prefix_in) (take_all c.loop-place._place scopes all)
