use Rattle.std.proofs.Common.{◌≤◌, List, length, map, slice_get, sym, ◌∙◌, ap, arith}
use Rattle.std.proofs.lemmas.List.{take_all}
use Rattle.flat_design.specs.declared.elaborate.elaboration.CellRow.{CellRow}
use Rattle.flat_design.specs.Hierarchy.{cell_name, cells_in}
use Rattle.flat_design.proofs.PlaceFacts.{mapped_more}
use Rattle.flat_design.proofs.names.object_names.cell_names.Goals as goal

pub name_of-requires-clause-there : goal.name_of-requires-clause-there
name_of-requires-clause-there c =
    let row = c.item_at-row.result.now in
    let known = c.requires.is.elaboration.cells c.loop-place.place row
    (ap (λ (xs : List CellRow). slice_get xs c.loop-place.place) (sym c.as_slice.ensures) ∙ c.item_at-row.ensures) in
    (known.cell.placed, known.is)

pub loop-place-preserved : goal.loop-place-preserved
loop-place-preserved c =
    let row = c.item_at-row.result.now in
    let known = c.requires.is.elaboration.cells c.loop-place.place row
    (ap (λ (xs : List CellRow). slice_get xs c.loop-place.place) (sym c.as_slice.ensures) ∙ c.item_at-row.ensures) in
    c.in_ok-push.ensures.ok ∙ mapped_more cell_name (cells_in c.args.design.now) c.loop-place.place known.cell c.in_ok-name.name c.loop-place.names known.at
    (c.in_ok-name.ensures known.cell.placed known.is) c.loop-place.invariant

pub returns : goal.returns
returns c =
    let all : length (cells_in c.args.design.now) ≤ c.loop-place.place = omega (arith, c.loop-place-test.false, c.len-place-end.ensures, c.requires.is.elaboration.cell_count) in
    c.loop-place.invariant ∙ ap (map cell_name) (take_all c.loop-place.place (cells_in c.args.design.now) all)
