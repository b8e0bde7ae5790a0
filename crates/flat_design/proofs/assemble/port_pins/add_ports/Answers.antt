use Rattle.std.proofs.Common.{◌≡◌, ◌≤◌, List, length, slice_get, Some, sym, ◌∙◌, ap, subst, arith}
use Rattle.std.proofs.lemmas.List.{take_all}
use Rattle.std.specs.List.{flat_map}
use Rattle.source_types.specs.declared.netlists.Port.{Port}
use Rattle.flat_design.specs.PinRows.{AddsPins, IsPinRow}
use Rattle.flat_design.proofs.RowFacts.{rows_flat}
use Rattle.flat_design.proofs.TopFacts.{pins_of_port, top_port}
use Rattle.flat_design.proofs.assemble.port_pins.add_ports.Goals as goal

pub add_port-requires-clause-port : goal.add_port-requires-clause-port
add_port-requires-clause-port c =
    let at : slice_get c.args.design.now.top.now.ports c.loop-place.place ≡ Some c.item_at-port.result.now =
    ap (λ (xs : List Port). slice_get xs c.loop-place.place) (sym c.as_slice.ensures) ∙ c.item_at-port.ensures in
    top_port c.args.design.now c.loop-place.place c.item_at-port.result.now c.requires.is at

pub loop-place-preserved : goal.loop-place-preserved
loop-place-preserved c =
    let at : slice_get c.args.design.now.top.now.ports c.loop-place.place ≡ Some c.item_at-port.result.now =
    ap (λ (xs : List Port). slice_get xs c.loop-place.place) (sym c.as_slice.ensures) ∙ c.item_at-port.ensures in
    rows_flat (IsPinRow c.args.design.now) pins_of_port c.args.design.now.top.now.ports c.loop-place.place c.item_at-port.result.now c.args.rows.now
    c.loop-place.rows c.add_port.new.rows at c.in_ok-add_port.ensures c.loop-place.invariant

pub returns : goal.returns
returns c =
    let ports = c.args.design.now.top.now.ports in
    let all : length ports ≤ c.loop-place.place = omega (arith, c.loop-place-test.false, c.len-place-end.ensures) in
    subst (λ (xs : List Port). AddsPins c.args.design.now (flat_map pins_of_port xs) c.args.rows.now c.loop-place.rows)
    (take_all c.loop-place.place ports all) c.loop-place.invariant
