use Rattle.std.proofs.Common.{◌<◌, ◌≤◌, List, length, subst, arith}
use Rattle.std.proofs.lemmas.List.{take_all}
use Rattle.std.specs.List.{flat_map}
use Rattle.flat_model.specs.FlatNets.{cell_drivers}
use Rattle.flat_model.specs.Instances.{PlacedCell}
use Rattle.text_model.proofs.ListFacts.{element_at}
use Rattle.flat_design.specs.Drivers.{Adds, IsDriverEdge}
use Rattle.flat_design.specs.Hierarchy.{cells_in}
use Rattle.flat_design.proofs.RowFacts.{rows_flat}
use Rattle.flat_design.proofs.drivers.all_drivers.add_cells.Goals as goal

pub loop-place-preserved : goal.loop-place-preserved
loop-place-preserved c =
    let cells = cells_in c.args.design.now in
    let low : c.loop-place.place < length cells = omega (arith, c.loop-place-test.true, c.len-place-end.ensures, c.requires.is.elaboration.cell_count) in
    let here = element_at cells c.loop-place.place low in
    rows_flat (IsDriverEdge c.args.design.now) cell_drivers cells c.loop-place.place here.0 c.args.rows.now c.loop-place.rows c.add_cell.new.rows here.1
    (c.in_ok-add_cell.ensures here.0 here.1) c.loop-place.invariant

pub returns : goal.returns
returns c =
    let cells = cells_in c.args.design.now in
    let all : length cells ≤ c.loop-place.place = omega (arith, c.loop-place-test.false, c.len-place-end.ensures, c.requires.is.elaboration.cell_count) in
    subst (λ (xs : List PlacedCell). Adds c.args.design.now (flat_map cell_drivers xs) c.args.rows.now c.loop-place.rows) (take_all c.loop-place.place cells all)
    c.loop-place.invariant
