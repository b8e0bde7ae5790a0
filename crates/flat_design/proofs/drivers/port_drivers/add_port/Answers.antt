use Rattle.std.proofs.Common.{◌≡◌, ◌≤◌, List, ℕ, Option, length, slice_get, Some, subst, arith}
use Rattle.std.proofs.lemmas.List.{take_all}
use Rattle.std.specs.List.{filter_map, zip}
use Rattle.source_types.specs.declared.netlists.Bit.{Bit}
use Rattle.source_types.specs.declared.netlists.Bit.TheVariants as bits
use Rattle.flat_model.specs.FlatNets.{port_bits}
use Rattle.netlist_model.specs.Ranges.{indices}
use Rattle.text_model.proofs.ListFacts.{all_at}
use Rattle.flat_design.specs.Drivers.{Adds, HasBit}
use Rattle.flat_design.proofs.AddedDrivers.{adds_more, zip_get}
use Rattle.flat_design.proofs.PortFacts.{pair_across, pairs_length, port_bit_there}
use Rattle.flat_design.proofs.RangeFacts.{map_at}
use Rattle.flat_design.proofs.drivers.port_drivers.add_port.Goals as goal

pub across-row-requires-clause-port : goal.across-row-requires-clause-port
across-row-requires-clause-port c =
    port_bit_there c.args.design.now c.args.inside c.args.port.now c.loop-place.place c.index_at-index.result c.requires.port c.index_at-index.ensures

pub across-row-requires-clause-bit : goal.across-row-requires-clause-bit
across-row-requires-clause-bit c =
    all_at (HasBit c.args.design.now c.args.outside) c.args.connection.now c.loop-place.place c.item_at-bit.result.now c.requires.bits c.item_at-bit.ensures

pub loop-place-preserved : goal.loop-place-preserved
loop-place-preserved c = λ inner outer at out.
    let port = c.args.port.now in
    let inner_bit : Bit = bits.Net port.name c.index_at-index.result in
    let pair : slice_get (zip (port_bits port) c.args.connection.now) c.loop-place.place ≡ Some (inner_bit, c.item_at-bit.result.now) =
    zip_get (port_bits port) c.args.connection.now c.loop-place.place inner_bit c.item_at-bit.result.now
    (map_at (λ (index : Option ℕ). bits.Net port.name index) (indices port.range) c.loop-place.place c.index_at-index.result c.index_at-index.ensures)
    c.item_at-bit.ensures in
    adds_more c.args.design.now (pair_across port inner.path outer.path) (zip (port_bits port) c.args.connection.now) c.loop-place.place
    (inner_bit, c.item_at-bit.result.now) c.args.rows.now c.loop-place.rows c.add_row.new.rows c.across-row.result pair
    (c.across-row.ensures inner outer at out) c.in_ok-add_row.ensures (c.loop-place.invariant inner outer at out)

pub returns : goal.returns
returns c = λ inner outer at out.
    let port = c.args.port.now in
    let all : length (zip (port_bits port) c.args.connection.now) ≤ c.loop-place.place =
    (let count = pairs_length port c.args.connection.now in omega (arith, count, c.loop-place-test.false, c.min-place-end.ensures, c.width.ensures)) in
    subst (λ (pairs : List (Bit × Bit)). Adds c.args.design.now (filter_map (pair_across port inner.path outer.path) pairs) c.args.rows.now c.loop-place.rows)
    (take_all c.loop-place.place (zip (port_bits port) c.args.connection.now) all) (c.loop-place.invariant inner outer at out)
