use Rattle.std.proofs.Common.{◌≡◌, inl, Bool, true, false, List, slice_get, sym, ◌∙◌, ap}
use Rattle.flat_model.specs.FlatFaults.{HasBadPin}
use Rattle.text_model.specs.Names.{is_good_name}
use Rattle.flat_design.specs.Hierarchy.{cell_name}
use Rattle.flat_design.proofs.CellFaults.{own_good, tells_after}
use Rattle.flat_design.proofs.names.cell_faults.has_bad_name.Goals as goal

pub returns-then-not-item_at : goal.returns-then-not-item_at
returns-then-not-item_at c = λ cell at.
    inl (own_good c.args.design.now c.args.place cell c.args.cells.now c.item_at.result.now at c.requires.cells
    (ap (λ (xs : List Bool). slice_get xs c.args.place) (sym c.as_slice.ensures) ∙ c.item_at.ensures) ∙ c.if-not-item_at.true)

pub returns : goal.returns
returns c = λ cell at.
    let own = own_good c.args.design.now c.args.place cell c.args.cells.now c.item_at.result.now at c.requires.cells
    (ap (λ (xs : List Bool). slice_get xs c.args.place) (sym c.as_slice.ensures) ∙ c.item_at.ensures) ∙ c.if-not-item_at.false in
    tells_after c.has_bad_pin.result (is_good_name (cell_name cell.is) ≡ false) (HasBadPin cell)
    (λ bad. let both : true ≡ false = sym own ∙ bad in cc) (c.has_bad_pin.ensures cell at)
