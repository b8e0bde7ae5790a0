use Rattle.std.proofs.Common.{ℕ, length, refl, sym, ◌∙◌, subst}
use Rattle.std.proofs.lemmas.List.{nil_from_length}
use Rattle.flat_design.specs.declared.drivers.returning.Search.{Search}
use Rattle.flat_design.specs.Sources.{driven_by}
use Rattle.flat_design.specs.Searches.{IsBegun, has_net}
use Rattle.flat_design.proofs.SearchSteps.{Takes, left_within, searched, searching_start, taken_is, step_falls, step_on, step_returns}
use Rattle.flat_design.proofs.drivers.returning.returns.Goals as goal

pub loop-from-init : goal.loop-from-init
loop-from-init c =
    let table = c.args.table.now in
    let begun = c.in_ok-search.search in
    searching_start table.rows.now (length table.last) c.args.net begun _
    (subst (λ (nets : ℕ). IsBegun nets begun) c.len.ensures c.in_ok-search.ensures) refl c.in_ok-push.ensures.items

pub reach_sources-requires-clause-net : goal.reach_sources-requires-clause-net
reach_sources-requires-clause-net c =
    let table = c.args.table.now in
    let old = c.loop-from.search in
    let from = c.in-Some.from in
    let taken : Search = record { reached = old.reached; left = c.pop.new.self } in
    let takes : Takes from old taken = record { reached = refl; left = c.in-Some.ensures.items } in
    left_within table.rows.now (length table.last) c.args.net from old c.loop-from.invariant c.requires.net (taken_is from old taken takes)

pub returns-then-branch : goal.returns-then-branch
returns-then-branch c =
    let table = c.args.table.now in
    let old = c.loop-from.search in
    let from = c.in-Some.from in
    let taken : Search = record { reached = old.reached; left = c.pop.new.self } in
    let takes : Takes from old taken = record { reached = refl; left = c.in-Some.ensures.items } in
    step_returns table.rows.now (length table.last) c.args.net from old taken c.loop-from.invariant takes
    (sym c.in_ok-reach_sources.ensures.wanted ∙ c.if-branch.true)

pub loop-from-preserved : goal.loop-from-preserved
loop-from-preserved c =
    let table = c.args.table.now in
    let old = c.loop-from.search in
    let from = c.in-Some.from in
    let taken : Search = record { reached = old.reached; left = c.pop.new.self } in
    let takes : Takes from old taken = record { reached = refl; left = c.in-Some.ensures.items } in
    step_on table.rows.now (length table.last) c.args.net from old taken c.reach_sources.new.self c.loop-from.invariant takes
    (sym c.in_ok-reach_sources.ensures.wanted ∙ c.if-branch.false) c.in_ok-reach_sources.ensures.reaches

pub loop-from-smaller : goal.loop-from-smaller
loop-from-smaller c =
    let table = c.args.table.now in
    let old = c.loop-from.search in
    let from = c.in-Some.from in
    let taken : Search = record { reached = old.reached; left = c.pop.new.self } in
    let takes : Takes from old taken = record { reached = refl; left = c.in-Some.ensures.items } in
    step_falls from (has_net (driven_by table.rows.now from)) old taken c.reach_sources.new.self takes c.in_ok-reach_sources.ensures.reaches

pub returns : goal.returns
returns c =
    let table = c.args.table.now in
    let old = c.loop-from.search in
    searched table.rows.now (length table.last) c.args.net old c.loop-from.invariant
    (nil_from_length old.left.items (sym old.left.ok.0 ∙ c.in_default.ensures.cases.0))
