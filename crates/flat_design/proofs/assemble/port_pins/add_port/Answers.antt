use Rattle.std.proofs.Common.{◌≤◌, List, ℕ, Option, length, map, refl, subst, arith}
use Rattle.std.proofs.lemmas.List.{take_all}
use Rattle.flat_model.specs.FlatDesign.{port_pin}
use Rattle.netlist_model.specs.Ranges.{indices}
use Rattle.netlist_model.proofs.RangeFacts.{indices_length}
use Rattle.flat_design.specs.PinRows.{AddsPins, IsPinRow}
use Rattle.flat_design.proofs.PortFacts.{port_bit_there}
use Rattle.flat_design.proofs.RowFacts.{rows_mapped}
use Rattle.flat_design.proofs.assemble.port_pins.add_port.Goals as goal

pub port_driver-driver-requires-clause-there : goal.port_driver-driver-requires-clause-there
port_driver-driver-requires-clause-there c =
    port_bit_there c.args.design.now 0 c.args.port.now c.loop-place.place c.index_at-index.result c.requires.port c.index_at-index.ensures

pub loop-place-preserved : goal.loop-place-preserved
loop-place-preserved c =
    rows_mapped (IsPinRow c.args.design.now) (port_pin c.args.port.now) (indices c.args.port.now.range) c.loop-place.place c.index_at-index.result c.args.rows.now
    c.loop-place.rows c.push.new.self _ c.index_at-index.ensures
    (record { role = c.port_role-role.ensures; cell = refl; lib_pin = refl; driver = c.port_driver-driver.ensures })
    c.in_ok-push.ensures.ok c.loop-place.invariant

pub returns : goal.returns
returns c =
    let port = c.args.port.now in
    let all : length (indices port.range) ≤ c.loop-place.place =
    (let count = indices_length port.range in omega (arith, count, c.loop-place-test.false, c.width-place-end.ensures)) in
    subst (λ (xs : List (Option ℕ)). AddsPins c.args.design.now (map (port_pin port) xs) c.args.rows.now c.loop-place.rows)
    (take_all c.loop-place.place (indices port.range) all) c.loop-place.invariant
