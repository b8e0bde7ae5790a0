use Rattle.std.proofs.Common.{◌<◌, ◌≤◌, length, arith}
use Rattle.flat_model.specs.FlatDesign.{FlatCell, port_pins}
use Rattle.flat_model.specs.FlatFaults.{CellHas, cell_line}
use Rattle.text_model.proofs.ListFacts.{element_at}
use Rattle.flat_design.specs.Hierarchy.{cells_in}
use Rattle.flat_design.specs.NamedFaults.{flat_of}
use Rattle.flat_design.proofs.CellPlaces.{cells_count}
use Rattle.flat_design.proofs.FirstFaults.{first_here, none_all, none_more}
use Rattle.flat_design.proofs.names.cell_faults.check_cells.Goals as goal

pub returns-in-Some : goal.returns-in-Some
returns-in-Some c =
    let f = flat_of c.args.design.now in
    let n = c.loop-place.place in
    let count = cells_count (length (port_pins c.args.design.now.top.now)) (cells_in c.args.design.now) in
    let low : n < length f.cells = omega (arith, c.loop-place-test.true, c.len-place-end.ensures, c.requires.is.elaboration.cell_count, count) in
    let cell = element_at f.cells n low in
    first_here FlatCell (CellHas f) cell_line f.cells n cell.0 (record { line = c.line_at-line.result; kind = c.in-Some.kind }) cell.1
    (c.line_at-line.ensures cell.0 cell.1) (c.in-Some.ensures cell.0 cell.1) c.loop-place.invariant

pub loop-place-preserved : goal.loop-place-preserved
loop-place-preserved c =
    let f = flat_of c.args.design.now in
    let n = c.loop-place.place in
    let count = cells_count (length (port_pins c.args.design.now.top.now)) (cells_in c.args.design.now) in
    let low : n < length f.cells = omega (arith, c.loop-place-test.true, c.len-place-end.ensures, c.requires.is.elaboration.cell_count, count) in
    let cell = element_at f.cells n low in
    none_more FlatCell (CellHas f) f.cells n cell.0 cell.1 (c.in_default.ensures cell.0 cell.1) c.loop-place.invariant

pub returns : goal.returns
returns c =
    let f = flat_of c.args.design.now in
    let count = cells_count (length (port_pins c.args.design.now.top.now)) (cells_in c.args.design.now) in
    let all : length f.cells ≤ c.loop-place.place = omega (arith, c.loop-place-test.false, c.len-place-end.ensures, c.requires.is.elaboration.cell_count, count) in
    none_all FlatCell (CellHas f) f.cells c.loop-place.place all c.loop-place.invariant
