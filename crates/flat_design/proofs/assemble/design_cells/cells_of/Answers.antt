use Rattle.std.proofs.Common.{◌≡◌, ℕ, length, slice_get, Some, sym, ◌∙◌, ap, arith}
use Rattle.std.specs.Vec.Iter.{into_iter_items}
use Rattle.flat_design.specs.NamedFaults.{flat_of}
use Rattle.flat_design.proofs.FlatCellFacts.{all_made, made_count, next_cell, one_made}
use Rattle.flat_design.proofs.TakenFacts.{taken_all, taken_at}
use Rattle.flat_design.proofs.assemble.design_cells.cells_of.Goals as goal

pub cell_info-requires-clause-within : goal.cell_info-requires-clause-within
cell_info-requires-clause-within c =
    let total : into_iter_items c.into_iter-name-iterator.result ≡ c.args.names = c.into_iter-name-iterator.ensures.into_iter_gives.0 ∙ c.from-name-items.ensures in
    let at : slice_get c.args.names (length c.loop-name.yielded) ≡ Some c.in-Some.name =
    taken_at c.into_iter-name-iterator.result c.loop-name.name-iterator c.next.new.self c.loop-name.yielded c.args.names c.in-Some.name total
    c.loop-name.yielded_by c.in-Some.ensures.steps in
    let cell = next_cell c.args.design.now c.args.names (length c.loop-name.yielded) c.in-Some.name c.requires.is c.requires.names at in
    let low = cell.1.low in
    let made = made_count c.args.design.now (length c.loop-name.yielded) c.loop-name.cells
    (let count = c.requires.is.elaboration.cell_count in omega (arith, low, count)) c.loop-name.invariant in
    omega (arith, low, made, c.len.ensures)

pub loop-name-preserved : goal.loop-name-preserved
loop-name-preserved c =
    let total : into_iter_items c.into_iter-name-iterator.result ≡ c.args.names = c.into_iter-name-iterator.ensures.into_iter_gives.0 ∙ c.from-name-items.ensures in
    let at : slice_get c.args.names (length c.loop-name.yielded) ≡ Some c.in-Some.name =
    taken_at c.into_iter-name-iterator.result c.loop-name.name-iterator c.next.new.self c.loop-name.yielded c.args.names c.in-Some.name total
    c.loop-name.yielded_by c.in-Some.ensures.steps in
    let cell = next_cell c.args.design.now c.args.names (length c.loop-name.yielded) c.in-Some.name c.requires.is c.requires.names at in
    let low = cell.1.low in
    let made = made_count c.args.design.now (length c.loop-name.yielded) c.loop-name.cells
    (let count = c.requires.is.elaboration.cell_count in omega (arith, low, count)) c.loop-name.invariant in
    let place : c.len.result ≡ length c.loop-name.yielded = omega (arith, made, c.len.ensures) in
    let own_at : slice_get (flat_of c.args.design.now).cells c.len.result ≡ Some cell.0 =
    ap (λ (n : ℕ). slice_get (flat_of c.args.design.now).cells n) place ∙ cell.1.at in
    one_made c.args.design.now c.loop-name.yielded c.in-Some.name cell.0 c.in_ok-cell.cell c.loop-name.cells c.push.new.self cell.1.at
    (c.in_ok-cell.ensures.is cell.0 own_at cell.1.named) c.in_ok-push.ensures.ok c.loop-name.invariant

pub returns : goal.returns
returns c =
    let total : into_iter_items c.into_iter-name-iterator.result ≡ c.args.names = c.into_iter-name-iterator.ensures.into_iter_gives.0 ∙ c.from-name-items.ensures in
    let all = taken_all c.into_iter-name-iterator.result c.loop-name.name-iterator c.next.new.self c.loop-name.yielded c.args.names total
    c.loop-name.yielded_by c.in-None.ensures.steps in
    all_made c.args.design.now c.loop-name.yielded c.loop-name.cells (sym all ∙ c.requires.names) c.loop-name.invariant
