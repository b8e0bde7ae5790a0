use Rattle.std.proofs.Common.{◌≡◌, Some, length, slice_get, refl, arith}
use Rattle.std.proofs.lemmas.Option.{slice_get_within}
use Rattle.flat_design.proofs.CycleFacts.{row_falls, row_followed}
use Rattle.flat_design.proofs.SourceFacts.{same_at}
use Rattle.flat_design.proofs.drivers.cycles.Components.follow.Goals as goal

pub returns-clause-components : goal.returns-clause-components
returns-clause-components c =
    let table = c.args.table.now in
    let at = c.item_at.result.now in
    let there : slice_get table.earlier c.args.place ≡ Some at =
    same_at c.as_slice.result.now table.earlier c.args.place at c.as_slice.ensures c.item_at.ensures in
    let low = (c.requires.table.before c.args.place at c.item_at-2.result.now c.item_at-2.ensures there).within in
    let inside = slice_get_within table.rows.now c.args.place c.item_at-2.result.now c.item_at-2.ensures in
    c.in_ok-reach.ensures.keeps (length table.last) (length table.rows.now)
    (row_followed (length table.last) (length table.rows.now) c.args.net at c.args.self.now _ c.requires.components (omega (arith, low, inside))
    refl refl refl refl)

pub returns-clause-falls : goal.returns-clause-falls
returns-clause-falls c =
    let table = c.args.table.now in
    let at = c.item_at.result.now in
    let there : slice_get table.earlier c.args.place ≡ Some at =
    same_at c.as_slice.result.now table.earlier c.args.place at c.as_slice.ensures c.item_at.ensures in
    let low = (c.requires.table.before c.args.place at c.item_at-2.result.now c.item_at-2.ensures there).within in
    let less = row_falls c.args.net c.args.place at c.args.self.now.last.items (omega (arith, c.requires.net, c.requires.components.count)) c.requires.last low in
    omega (arith, less, c.in_ok-reach.ensures.more)
