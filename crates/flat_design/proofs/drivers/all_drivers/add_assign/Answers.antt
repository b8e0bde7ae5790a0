use Rattle.std.proofs.Common.{◌≡◌, ◌≤◌, List, length, slice_get, Some, sym, ◌∙◌, ap, subst, arith}
use Rattle.std.proofs.lemmas.List.{take_all}
use Rattle.std.specs.List.{filter_map, zip}
use Rattle.source_types.specs.declared.netlists.Bit.{Bit}
use Rattle.flat_design.specs.Drivers.{Adds}
use Rattle.flat_design.proofs.AddedDrivers.{adds_more, pair_drive, zip_get, zip_short}
use Rattle.flat_design.proofs.drivers.all_drivers.add_assign.Goals as goal

pub loop-place-preserved : goal.loop-place-preserved
loop-place-preserved c = λ found at.
    let left = c.args.assign.now.left in
    let right = c.args.assign.now.right in
    let to = c.item_at-to.result.now in
    let from = c.item_at-from.result.now in
    let pair : slice_get (zip left right) c.loop-place.place ≡ Some (to, from) =
    zip_get left right c.loop-place.place to from
    (ap (λ (xs : List Bit). slice_get xs c.loop-place.place) (sym c.as_slice.ensures) ∙ c.item_at-to.ensures)
    (ap (λ (xs : List Bit). slice_get xs c.loop-place.place) (sym c.as_slice-in-loop-place.ensures) ∙ c.item_at-from.ensures) in
    adds_more c.args.design.now (pair_drive found.path) (zip left right) c.loop-place.place (to, from) c.args.rows.now c.loop-place.rows c.add_row.new.rows
    c.driver_edge-row.result pair (c.driver_edge-row.ensures found found at at) c.in_ok-add_row.ensures (c.loop-place.invariant found at)

pub returns : goal.returns
returns c = λ found at.
    let left = c.args.assign.now.left in
    let right = c.args.assign.now.right in
    let all : length (zip left right) ≤ c.loop-place.place =
    (let short = zip_short left right c.requires.there.2.0 in omega (arith, short, c.loop-place-test.false, c.len-place-end.ensures)) in
    subst (λ (pairs : List (Bit × Bit)). Adds c.args.design.now (filter_map (pair_drive found.path) pairs) c.args.rows.now c.loop-place.rows)
    (take_all c.loop-place.place (zip left right) all) (c.loop-place.invariant found at)
