use Rattle.std.proofs.Common.{◌<◌, ◌≤◌, List, length, subst, arith}
use Rattle.std.proofs.lemmas.List.{take_all}
use Rattle.std.specs.List.{flat_map}
use Rattle.flat_model.specs.FlatNets.{scope_drivers}
use Rattle.flat_model.specs.Instances.{ModuleInstance}
use Rattle.text_model.proofs.ListFacts.{element_at}
use Rattle.flat_design.specs.Drivers.{Adds, IsDriverEdge}
use Rattle.flat_design.specs.Hierarchy.{scopes_in}
use Rattle.flat_design.proofs.RowFacts.{rows_flat}
use Rattle.flat_design.proofs.drivers.all_drivers.add_instances.Goals as goal

pub loop-place-preserved : goal.loop-place-preserved
loop-place-preserved c =
    let scopes = scopes_in c.args.design.now in
    let low : c.loop-place.place < length scopes = omega (arith, c.loop-place-test.true, c.len-place-end.ensures, c.requires.is.elaboration.scope_count) in
    let here = element_at scopes c.loop-place.place low in
    rows_flat (IsDriverEdge c.args.design.now) scope_drivers scopes c.loop-place.place here.0 c.args.rows.now c.loop-place.rows c.add_instance.new.rows here.1
    (c.in_ok-add_instance.ensures here.0 here.1) c.loop-place.invariant

pub returns : goal.returns
returns c =
    let scopes = scopes_in c.args.design.now in
    let all : length scopes ≤ c.loop-place.place = omega (arith, c.loop-place-test.false, c.len-place-end.ensures, c.requires.is.elaboration.scope_count) in
    subst (λ (xs : List ModuleInstance). Adds c.args.design.now (flat_map scope_drivers xs) c.args.rows.now c.loop-place.rows) (take_all c.loop-place.place scopes all)
    c.loop-place.invariant
