use Rattle.std.proofs.Common.{inl, ℕ, Bool, true, false, List, length, map, slice_get, sym, ◌∙◌, ap, subst, arith}
use Rattle.std.proofs.lemmas.List.{length-map}
use Rattle.pin_types.specs.declared.library_cells.LibPin.{LibPin}
use Rattle.flat_model.specs.FlatFaults.{flat_pin_name}
use Rattle.text_model.specs.Names.{is_good_name}
use Rattle.flat_design.specs.declared.elaborate.elaboration.CellRow.{CellRow}
use Rattle.flat_design.specs.Hierarchy.{pins_of_design}
use Rattle.flat_design.specs.NamedFaults.{HasMark, HasUnnamed, Tells}
use Rattle.flat_design.proofs.CellFaults.{bad_told, row_fits, tells_after, tells_unnamed}
use Rattle.flat_design.proofs.names.cell_faults.has_bad_pin.Goals as goal

pub returns-then-has_unnamed : goal.returns-then-has_unnamed
returns-then-has_unnamed c = λ cell at.
    let row = c.item_at-row.result.now in
    let row_at = ap (λ (xs : List CellRow). slice_get xs c.args.place) (sym c.as_slice.ensures) ∙ c.item_at-row.ensures in
    let own : HasUnnamed c.kind_at-kind.result.now.pins =
    subst HasUnnamed c.as_slice-2.ensures (subst (λ (found : Bool). Tells found (HasUnnamed c.as_slice-2.result.now)) (sym c.has_unnamed.ensures ∙ c.if-has_unnamed.true) (tells_unnamed c.as_slice-2.result.now)) in
    bad_told c.args.design.now c.args.place row c.kind_at-kind.result.now cell c.args.pins.now true c.requires.is row_at c.kind_at-kind.ensures c.requires.pins at (inl own)

pub has_unset-requires : goal.has_unset-requires
has_unset-requires c =
    let row = c.item_at-row.result.now in
    let row_at = ap (λ (xs : List CellRow). slice_get xs c.args.place) (sym c.as_slice.ensures) ∙ c.item_at-row.ensures in
    let names = map flat_pin_name (pins_of_design c.args.design.now) in
    let fit = row_fits c.args.design.now c.args.place row c.kind_at-kind.result.now c.as_slice-good.result.now c.requires.is row_at c.kind_at-kind.ensures
    (ap length (c.as_slice-good.ensures ∙ c.requires.pins.good) ∙ length-map names is_good_name) in
    omega (arith, fit, c.len.ensures)

pub returns : goal.returns
returns c = λ cell at.
    let row = c.item_at-row.result.now in
    let kind = c.kind_at-kind.result.now in
    let row_at = ap (λ (xs : List CellRow). slice_get xs c.args.place) (sym c.as_slice.ensures) ∙ c.item_at-row.ensures in
    let none : HasUnnamed kind.pins → ⊥ =
    subst (λ (pins : List LibPin). HasUnnamed pins → ⊥) c.as_slice-2.ensures
    (subst (λ (found : Bool). Tells found (HasUnnamed c.as_slice-2.result.now)) (sym c.has_unnamed.ensures ∙ c.if-has_unnamed.false) (tells_unnamed c.as_slice-2.result.now)) in
    bad_told c.args.design.now c.args.place row kind cell c.args.pins.now c.has_unset.result c.requires.is row_at c.kind_at-kind.ensures c.requires.pins at
    (tells_after c.has_unset.result (HasUnnamed kind.pins) (HasMark c.args.pins.now.good row.first_pin (length kind.pins) false) none
    (subst (λ (marks : List Bool). Tells c.has_unset.result (HasMark marks row.first_pin (length kind.pins) false)) c.as_slice-good.ensures
    (subst (λ (count : ℕ). Tells c.has_unset.result (HasMark c.as_slice-good.result.now row.first_pin count false)) c.len.ensures c.has_unset.ensures)))
