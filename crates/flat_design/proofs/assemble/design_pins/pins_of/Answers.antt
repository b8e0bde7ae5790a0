use Rattle.std.proofs.Common.{◌≡◌, ℕ, length, slice_get, Some, ◌∙◌, ap, arith}
use Rattle.std.proofs.lemmas.Option.{slice_get_within}
use Rattle.std.specs.Vec.Iter.{into_iter_items}
use Rattle.flat_design.specs.DesignParts.{pin_info}
use Rattle.flat_design.proofs.TakenFacts.{beside_length, beside_more, taken_at}
use Rattle.flat_design.proofs.assemble.design_pins.pins_of.Goals as goal

pub item_at-row-requires : goal.item_at-row-requires
item_at-row-requires c =
    let total : into_iter_items c.into_iter-name-iterator.result ≡ c.args.names = c.into_iter-name-iterator.ensures.into_iter_gives.0 ∙ c.from-name-items.ensures in
    let at : slice_get c.args.names (length c.loop-name.yielded) ≡ Some c.in-Some.name =
    taken_at c.into_iter-name-iterator.result c.loop-name.name-iterator c.next.new.self c.loop-name.yielded c.args.names c.in-Some.name total
    c.loop-name.yielded_by c.in-Some.ensures.steps in
    let low = slice_get_within c.args.names (length c.loop-name.yielded) c.in-Some.name at in
    let made = beside_length pin_info c.loop-name.yielded c.args.rows.now c.loop-name.pins (omega (arith, low, c.requires)) c.loop-name.invariant in
    omega (arith, low, made, c.requires, c.len.ensures)

pub loop-name-preserved : goal.loop-name-preserved
loop-name-preserved c =
    let total : into_iter_items c.into_iter-name-iterator.result ≡ c.args.names = c.into_iter-name-iterator.ensures.into_iter_gives.0 ∙ c.from-name-items.ensures in
    let at : slice_get c.args.names (length c.loop-name.yielded) ≡ Some c.in-Some.name =
    taken_at c.into_iter-name-iterator.result c.loop-name.name-iterator c.next.new.self c.loop-name.yielded c.args.names c.in-Some.name total
    c.loop-name.yielded_by c.in-Some.ensures.steps in
    let low = slice_get_within c.args.names (length c.loop-name.yielded) c.in-Some.name at in
    let made = beside_length pin_info c.loop-name.yielded c.args.rows.now c.loop-name.pins (omega (arith, low, c.requires)) c.loop-name.invariant in
    let place : length c.loop-name.yielded ≡ c.len.result = omega (arith, made, c.len.ensures) in
    beside_more pin_info c.loop-name.yielded c.args.rows.now c.in-Some.name c.item_at-row.result.now c.loop-name.pins c.push.new.self
    (ap (λ (n : ℕ). slice_get c.args.rows.now n) place ∙ c.item_at-row.ensures) c.in_ok-push.ensures.ok c.loop-name.invariant
