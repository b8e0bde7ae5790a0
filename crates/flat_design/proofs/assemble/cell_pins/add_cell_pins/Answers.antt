use Rattle.std.proofs.Common.{◌<◌, ◌≤◌, List, ℕ, length, map, ap, subst, arith}
use Rattle.std.proofs.lemmas.List.{take_all}
use Rattle.pin_types.specs.declared.library_cells.LibCell.{LibCell}
use Rattle.pin_types.specs.declared.library_cells.LibPin.{LibPin}
use Rattle.source_types.specs.declared.netlists.Bit.{Bit}
use Rattle.flat_model.specs.FlatDesign.{cell_pin}
use Rattle.flat_model.specs.FlatNets.{connected_pins}
use Rattle.text_model.proofs.ListFacts.{element_at}
use Rattle.flat_design.specs.Connected.{shown}
use Rattle.flat_design.specs.PinRows.{AddsPins, IsPinRow}
use Rattle.flat_design.proofs.PinCounts.{pins_connected}
use Rattle.flat_design.proofs.RowFacts.{rows_mapped}
use Rattle.flat_design.proofs.assemble.cell_pins.add_cell_pins.Goals as goal

pub connection_at-connection-requires-clause-pin : goal.connection_at-connection-requires-clause-pin
connection_at-connection-requires-clause-pin c = λ found at.
    let own = ap (λ (k : LibCell). length k.pins) (c.kind_at-kind.ensures found at) in
    omega (arith, own, c.loop-place-test.true, c.len-place-end.ensures)

pub loop-place-preserved : goal.loop-place-preserved
loop-place-preserved c = λ found at.
    let own = ap (λ (k : LibCell). length k.pins) (c.kind_at-kind.ensures found at) in
    let low : c.loop-place.place < length found.kind.pins = omega (arith, own, c.loop-place-test.true, c.len-place-end.ensures) in
    let pin = element_at found.kind.pins c.loop-place.place low in
    let pair = c.connection_at-connection.ensures.connected found pin.0 at pin.1 in
    rows_mapped (IsPinRow c.args.design.now) (cell_pin c.args.cell found) (connected_pins found) c.loop-place.place
    ((c.loop-place.place, pin.0), shown c.connection_at-connection.result) c.args.rows.now c.loop-place.rows c.push.new.self _ pair
    (c.in_ok-row.ensures.is found pin.0 at pin.1) c.in_ok-push.ensures.ok (c.loop-place.invariant found at)

pub returns : goal.returns
returns c = λ found at.
    let own = ap (λ (k : LibCell). length k.pins) (c.kind_at-kind.ensures found at) in
    let count = pins_connected found in
    let all : length (connected_pins found) ≤ c.loop-place.place = omega (arith, own, count, c.loop-place-test.false, c.len-place-end.ensures) in
    subst (λ (xs : List ((ℕ × LibPin) × List Bit)). AddsPins c.args.design.now (map (cell_pin c.args.cell found) xs) c.args.rows.now c.loop-place.rows)
    (take_all c.loop-place.place (connected_pins found) all) (c.loop-place.invariant found at)
