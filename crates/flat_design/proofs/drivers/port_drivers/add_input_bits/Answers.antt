use Rattle.std.proofs.Common.{◌+◌, ◌≤◌, List, ℕ, Option, length, map, refl, subst, arith}
use Rattle.std.proofs.lemmas.List.{take_all}
use Rattle.flat_model.specs.FlatNets.{port_bit}
use Rattle.flat_model.specs.Instances.{top_scope}
use Rattle.netlist_model.specs.Ranges.{indices}
use Rattle.netlist_model.specs.WellFormedNetlist.{IsNetBit}
use Rattle.flat_design.specs.Drivers.{Adds, IsDriverEdge, input_drive}
use Rattle.flat_design.specs.Hierarchy.{scopes_in}
use Rattle.flat_model.specs.Instances.{ModuleInstance}
use Rattle.netlist_model.proofs.RangeFacts.{indices_length}
use Rattle.flat_design.proofs.HierarchyFacts.{one_at}
use Rattle.flat_design.proofs.PinNumbers.{pin_small}
use Rattle.flat_design.proofs.PortFacts.{port_bit_there}
use Rattle.flat_design.proofs.RowFacts.{rows_mapped}
use Rattle.flat_design.proofs.drivers.port_drivers.add_input_bits.Goals as goal

pub net_number-to-requires-clause-there : goal.net_number-to-requires-clause-there
net_number-to-requires-clause-there c =
    port_bit_there c.args.design.now 0 c.args.port.now c.loop-place.place c.index_at-index.result c.requires.port c.index_at-index.ensures

pub overflow_add-number : goal.overflow_add-number
overflow_add-number c =
    let low = pin_small c.args.design.now (c.args.first + c.loop-place.place) (port_bit c.args.port.now.name c.index_at-index.result) c.requires.is
    (c.requires.numbers c.loop-place.place c.index_at-index.result c.index_at-index.ensures) in
    omega (arith, low)

pub loop-place-preserved : goal.loop-place-preserved
loop-place-preserved c =
    let design = c.args.design.now in
    let port = c.args.port.now in
    let top = top_scope design.top.now in
    let there = port_bit_there design 0 port c.loop-place.place c.index_at-index.result c.requires.port c.index_at-index.ensures in
    let bit : IsNetBit top.body.nets port.name c.index_at-index.result =
    subst (λ (s : ModuleInstance). IsNetBit s.body.nets port.name c.index_at-index.result) (one_at (scopes_in design) 0 there.0 top there.1 refl) there.2 in
    rows_mapped (IsDriverEdge design) (input_drive port) (indices port.range) c.loop-place.place c.index_at-index.result c.args.rows.now c.loop-place.rows c.push.new.self _
    c.index_at-index.ensures
    (record { net = c.net_number-to.ensures top refl bit; origin = c.requires.numbers c.loop-place.place c.index_at-index.result c.index_at-index.ensures })
    c.in_ok-push.ensures.ok c.loop-place.invariant

pub returns : goal.returns
returns c =
    let port = c.args.port.now in
    let all : length (indices port.range) ≤ c.loop-place.place =
    (let count = indices_length port.range in omega (arith, count, c.loop-place-test.false, c.width-place-end.ensures)) in
    subst (λ (xs : List (Option ℕ)). Adds c.args.design.now (map (input_drive port) xs) c.args.rows.now c.loop-place.rows)
    (take_all c.loop-place.place (indices port.range) all) c.loop-place.invariant
