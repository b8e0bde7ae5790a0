use Rattle.std.proofs.Common.{◌≡◌, ◌+◌, ◌<◌, ◌≤◌, List, ℕ, length, slice_get, Some, ◌∙◌, ap, subst, arith}
use Rattle.std.proofs.lemmas.List.{take_all}
use Rattle.std.proofs.lemmas.List.FromFn.{length-enumerate_from}
use Rattle.std.specs.List.{enumerate_from, flat_map}
use Rattle.flat_model.specs.FlatDesign.{cell_pins}
use Rattle.flat_model.specs.Instances.{PlacedCell}
use Rattle.text_model.proofs.ListFacts.{element_at}
use Rattle.flat_design.specs.Hierarchy.{cells_in}
use Rattle.flat_design.specs.PinRows.{AddsPins, IsPinRow}
use Rattle.flat_design.proofs.PinNumbers.{numbered_at}
use Rattle.flat_design.proofs.RowFacts.{rows_flat}
use Rattle.flat_design.proofs.assemble.cell_pins.add_cells.Goals as goal

pub loop-cell-preserved : goal.loop-cell-preserved
loop-cell-preserved c =
    let cells = cells_in c.args.design.now in
    let count = c.requires.is.elaboration.cell_count in
    let low : c.loop-cell.cell < length cells = omega (arith, count, c.loop-cell-test.true, c.len-cell-end.ensures) in
    let found = element_at cells c.loop-cell.cell low in
    let plus : 0 + c.loop-cell.cell ≡ c.loop-cell.cell = omega arith in
    let at : slice_get (enumerate_from 0 cells) c.loop-cell.cell ≡ Some (c.loop-cell.cell, found.0) =
    numbered_at 0 cells c.loop-cell.cell found.0 found.1 ∙ ap (λ (k : ℕ). Some (k, found.0)) plus in
    rows_flat (IsPinRow c.args.design.now) cell_pins (enumerate_from 0 cells) c.loop-cell.cell (c.loop-cell.cell, found.0) c.args.rows.now c.loop-cell.rows
    c.add_cell_pins.new.rows at (c.in_ok-add_cell_pins.ensures found.0 found.1) c.loop-cell.invariant

pub returns : goal.returns
returns c =
    let cells = cells_in c.args.design.now in
    let count = c.requires.is.elaboration.cell_count in
    let numbered = length-enumerate_from 0 cells in
    let all : length (enumerate_from 0 cells) ≤ c.loop-cell.cell = omega (arith, count, numbered, c.loop-cell-test.false, c.len-cell-end.ensures) in
    subst (λ (xs : List (ℕ × PlacedCell)). AddsPins c.args.design.now (flat_map cell_pins xs) c.args.rows.now c.loop-cell.rows)
    (take_all c.loop-cell.cell (enumerate_from 0 cells) all) c.loop-cell.invariant
