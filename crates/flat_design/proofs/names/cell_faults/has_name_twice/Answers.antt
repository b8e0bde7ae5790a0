use Rattle.std.proofs.Common.{◌≡◌, inl, Bool, true, false, List, map, take, slice_get, sym, ◌∙◌, ap}
use Rattle.flat_model.specs.FlatDesign.{FlatCell}
use Rattle.flat_model.specs.FlatFaults.{HasPinTwice, is_among}
use Rattle.flat_design.specs.Hierarchy.{cell_name}
use Rattle.flat_design.specs.NamedFaults.{flat_of}
use Rattle.flat_design.proofs.CellFaults.{own_repeat, tells_after}
use Rattle.flat_design.proofs.names.cell_faults.has_name_twice.Goals as goal

pub returns-then-item_at : goal.returns-then-item_at
returns-then-item_at c = λ cell at.
    inl (own_repeat c.args.design.now c.args.place cell c.args.cells.now c.item_at.result.now at c.requires.cells
    (ap (λ (xs : List Bool). slice_get xs c.args.place) (sym c.as_slice.ensures) ∙ c.item_at.ensures) ∙ c.if-item_at.true)

pub returns : goal.returns
returns c = λ cell at.
    let own = own_repeat c.args.design.now c.args.place cell c.args.cells.now c.item_at.result.now at c.requires.cells
    (ap (λ (xs : List Bool). slice_get xs c.args.place) (sym c.as_slice.ensures) ∙ c.item_at.ensures) ∙ c.if-item_at.false in
    tells_after c.has_pin_twice.result
    (is_among (map (λ (one : FlatCell). cell_name one.is) (take c.args.place (flat_of c.args.design.now).cells)) (cell_name cell.is) ≡ true)
    (HasPinTwice (flat_of c.args.design.now) cell) (λ yes. let bad : true ≡ false = sym yes ∙ own in cc) (c.has_pin_twice.ensures cell at)
