use Rattle.std.proofs.Common.{◌≡◌, ◌+◌, ◌≤◌, List, length, slice_get, Some, sym, ◌∙◌, ap, subst, arith}
use Rattle.std.proofs.lemmas.List.{take_all}
use Rattle.std.specs.List.{flat_map}
use Rattle.source_types.specs.declared.netlists.Port.{Port}
use Rattle.flat_model.specs.FlatNets.{top_port_drivers}
use Rattle.flat_design.specs.Drivers.{Adds, IsDriverEdge}
use Rattle.flat_design.proofs.RowFacts.{rows_flat}
use Rattle.flat_design.proofs.TopFacts.{pins_passed, pins_passed_few, top_number, top_port}
use Rattle.flat_design.proofs.drivers.port_drivers.add_top_ports.Goals as goal

pub add_top_port-requires-clause-port : goal.add_top_port-requires-clause-port
add_top_port-requires-clause-port c =
    let design = c.args.design.now in
    let ports = design.top.now.ports in
    let port = c.item_at-port.result.now in
    let at : slice_get ports c.loop-place.place ≡ Some port =
    ap (λ (xs : List Port). slice_get xs c.loop-place.place) (sym c.as_slice.ensures) ∙ c.item_at-port.ensures in
    top_port design c.loop-place.place port c.requires.is at

pub add_top_port-requires-clause-numbers : goal.add_top_port-requires-clause-numbers
add_top_port-requires-clause-numbers c =
    let design = c.args.design.now in
    let ports = design.top.now.ports in
    let port = c.item_at-port.result.now in
    let at : slice_get ports c.loop-place.place ≡ Some port =
    ap (λ (xs : List Port). slice_get xs c.loop-place.place) (sym c.as_slice.ensures) ∙ c.item_at-port.ensures in
    top_number design c.loop-place.place c.loop-place.first port at c.loop-place.invariant.passed

pub overflow_add-first : goal.overflow_add-first
overflow_add-first c =
    let design = c.args.design.now in
    let ports = design.top.now.ports in
    let port = c.item_at-port.result.now in
    let at : slice_get ports c.loop-place.place ≡ Some port =
    ap (λ (xs : List Port). slice_get xs c.loop-place.place) (sym c.as_slice.ensures) ∙ c.item_at-port.ensures in
    let more = pins_passed ports c.loop-place.place c.loop-place.first c.width-first.result port at c.width-first.ensures c.loop-place.invariant.passed in
    let low = pins_passed_few design (c.loop-place.place + 1) c.requires.is in
    omega (arith, more, low)

pub loop-place-preserved : goal.loop-place-preserved
loop-place-preserved c =
    let design = c.args.design.now in
    let ports = design.top.now.ports in
    let port = c.item_at-port.result.now in
    let at : slice_get ports c.loop-place.place ≡ Some port =
    ap (λ (xs : List Port). slice_get xs c.loop-place.place) (sym c.as_slice.ensures) ∙ c.item_at-port.ensures in
    record {
      added = rows_flat (IsDriverEdge design) top_port_drivers ports c.loop-place.place port c.args.rows.now c.loop-place.rows c.add_top_port.new.rows at c.in_ok-add_top_port.ensures
          c.loop-place.invariant.added;
      passed = pins_passed ports c.loop-place.place c.loop-place.first c.width-first.result port at c.width-first.ensures c.loop-place.invariant.passed;
    }

pub returns : goal.returns
returns c =
    let ports = c.args.design.now.top.now.ports in
    let all : length ports ≤ c.loop-place.place = omega (arith, c.loop-place-test.false, c.len-place-end.ensures) in
    subst (λ (xs : List Port). Adds c.args.design.now (flat_map top_port_drivers xs) c.args.rows.now c.loop-place.rows)
    (take_all c.loop-place.place ports all) c.loop-place.invariant.added
