use Rattle.std.proofs.Common.{◌≡◌, ◌-◌, ℕ, Some, length, slice_get, sym, ◌∙◌, ap, subst, arith}
use Rattle.flat_design.specs.SourceTable.{IsLast, IsNetWithin}
use Rattle.flat_design.proofs.SearchFacts.{reaching_done, reaching_next, reaching_start}
use Rattle.flat_design.proofs.SourceFacts.{from_at, same_at}
use Rattle.flat_design.proofs.drivers.returning.Search.reach_sources.Goals as goal

pub loop-last-init : goal.loop-last-init
loop-last-init c =
    let table = c.args.table.now in
    let last = c.item_at-last.result.now in
    reaching_start table.rows.now c.args.net c.args.wanted last c.args.self.now
    (c.requires.table.lasts c.args.net last (same_at c.as_slice.result.now table.last c.args.net last c.as_slice.ensures c.item_at-last.ensures))

pub item_at-requires : goal.item_at-requires
item_at-requires c = omega (arith, c.loop-last.invariant.within, c.loop-last-test.true)

pub reach_source-requires : goal.reach_source-requires
reach_source-requires c =
    let table = c.args.table.now in
    subst (λ (n : ℕ). IsNetWithin n c.item_at.result.now.from) (sym (c.loop-last.invariant.count ∙ c.requires.count))
    (from_at table.rows.now (length table.last) (c.loop-last.last - 1) c.item_at.result.now c.requires.table.within c.item_at.ensures)

pub item_at-last-requires-in-loop-last : goal.item_at-last-requires-in-loop-last
item_at-last-requires-in-loop-last c =
    omega (arith, c.loop-last.invariant.within, c.loop-last-test.true, c.requires.table.count, ap length c.as_slice-in-loop-last.ensures)

pub loop-last-smaller : goal.loop-last-smaller
loop-last-smaller c =
    let table = c.args.table.now in
    let place = c.loop-last.last - 1 in
    let at = c.item_at-last-in-loop-last.result.now in
    let there : slice_get table.earlier place ≡ Some at =
    same_at c.as_slice-in-loop-last.result.now table.earlier place at c.as_slice-in-loop-last.ensures c.item_at-last-in-loop-last.ensures in
    let own : IsLast table.rows.now c.item_at.result.now.to place at = c.requires.table.before place at c.item_at.result.now c.item_at.ensures there in
    omega (arith, own.within, c.loop-last-test.true)

pub loop-last-preserved : goal.loop-last-preserved
loop-last-preserved c =
    let table = c.args.table.now in
    let row = c.item_at.result.now in
    let place = c.loop-last.last - 1 in
    let at = c.item_at-last-in-loop-last.result.now in
    let there : slice_get table.earlier place ≡ Some at =
    same_at c.as_slice-in-loop-last.result.now table.earlier place at c.as_slice-in-loop-last.ensures c.item_at-last-in-loop-last.ensures in
    let own : IsLast table.rows.now row.to place at = c.requires.table.before place at row c.item_at.ensures there in
    reaching_next table.rows.now c.args.net c.args.wanted c.loop-last.last at row c.loop-last.found c.found_in-found.result c.args.self.now c.loop-last.self
    c.reach_source.new.self c.loop-last.invariant c.loop-last-test.true c.item_at.ensures own c.in_ok-reach_source.ensures c.found_in-found.ensures

pub returns-clause-wanted : goal.returns-clause-wanted
returns-clause-wanted c =
    (reaching_done c.args.table.now.rows.now c.args.net c.args.wanted c.loop-last.last c.loop-last.found c.args.self.now c.loop-last.self
    c.loop-last.invariant c.loop-last-test.false).0

pub returns-clause-reaches : goal.returns-clause-reaches
returns-clause-reaches c =
    (reaching_done c.args.table.now.rows.now c.args.net c.args.wanted c.loop-last.last c.loop-last.found c.args.self.now c.loop-last.self
    c.loop-last.invariant c.loop-last-test.false).1
