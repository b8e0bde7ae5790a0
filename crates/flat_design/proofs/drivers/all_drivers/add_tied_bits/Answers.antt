use Rattle.std.proofs.Common.{◌≡◌, ◌≤◌, List, ℕ, Option, length, map, refl, subst, arith}
use Rattle.std.proofs.lemmas.List.{take_all}
use Rattle.flat_model.specs.Instances.{ModuleInstance}
use Rattle.netlist_model.specs.Ranges.{indices}
use Rattle.netlist_model.specs.WellFormedNetlist.{IsNetBit}
use Rattle.netlist_model.proofs.RangeFacts.{indices_length}
use Rattle.flat_design.specs.Drivers.{Adds, IsDriverEdge, tied_bit}
use Rattle.flat_design.specs.Hierarchy.{scopes_in}
use Rattle.flat_design.proofs.HierarchyFacts.{one_at}
use Rattle.flat_design.proofs.RowFacts.{rows_mapped}
use Rattle.flat_design.proofs.TieFacts.{bit_there}
use Rattle.flat_design.proofs.drivers.all_drivers.add_tied_bits.Goals as goal

pub net_number-to-requires-clause-there : goal.net_number-to-requires-clause-there
net_number-to-requires-clause-there c =
    let wire = c.args.wire.now in (
      c.requires.there.0,
      c.requires.there.1,
      bit_there c.requires.there.0.body.nets wire c.loop-place.place c.index_at-index.result c.requires.there.2 c.index_at-index.ensures,
    )

pub loop-place-preserved : goal.loop-place-preserved
loop-place-preserved c = λ found at.
    let wire = c.args.wire.now in
    let same : c.requires.there.0 ≡ found = one_at (scopes_in c.args.design.now) c.args.scope c.requires.there.0 found c.requires.there.1 at in
    let bit : IsNetBit found.body.nets wire.name c.index_at-index.result =
    subst (λ (s : ModuleInstance). IsNetBit s.body.nets wire.name c.index_at-index.result) same
    (bit_there c.requires.there.0.body.nets wire c.loop-place.place c.index_at-index.result c.requires.there.2 c.index_at-index.ensures) in
    rows_mapped (IsDriverEdge c.args.design.now) (tied_bit found.path wire c.args.value) (indices wire.range) c.loop-place.place c.index_at-index.result c.args.rows.now
    c.loop-place.rows c.push.new.self _ c.index_at-index.ensures (record { net = c.net_number-to.ensures found at bit; origin = refl }) c.in_ok-push.ensures.ok
    (c.loop-place.invariant found at)

pub returns : goal.returns
returns c = λ found at.
    let wire = c.args.wire.now in
    let all : length (indices wire.range) ≤ c.loop-place.place =
    (let count = indices_length wire.range in omega (arith, count, c.loop-place-test.false, c.width-place-end.ensures)) in
    subst (λ (xs : List (Option ℕ)). Adds c.args.design.now (map (tied_bit found.path wire c.args.value) xs) c.args.rows.now c.loop-place.rows)
    (take_all c.loop-place.place (indices wire.range) all) (c.loop-place.invariant found at)
