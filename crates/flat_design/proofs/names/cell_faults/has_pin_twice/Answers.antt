use Rattle.std.proofs.Common.{ℕ, Bool, true, List, length, slice_get, sym, ◌∙◌, ap, subst, arith}
use Rattle.flat_design.specs.declared.elaborate.elaboration.CellRow.{CellRow}
use Rattle.flat_design.specs.NamedFaults.{HasMark, Tells}
use Rattle.flat_design.proofs.CellFaults.{row_fits, twice_told}
use Rattle.flat_design.proofs.names.cell_faults.has_pin_twice.Goals as goal

pub has_set-requires : goal.has_set-requires
has_set-requires c =
    let row = c.item_at-row.result.now in
    let row_at = ap (λ (xs : List CellRow). slice_get xs c.args.place) (sym c.as_slice.ensures) ∙ c.item_at-row.ensures in
    let fit = row_fits c.args.design.now c.args.place row c.kind_at-kind.result.now c.as_slice-repeats.result.now c.requires.is row_at c.kind_at-kind.ensures
    (ap length c.as_slice-repeats.ensures ∙ c.requires.pins.repeats.count) in
    omega (arith, fit, c.len.ensures)

pub returns : goal.returns
returns c = λ cell at.
    let row = c.item_at-row.result.now in
    let row_at = ap (λ (xs : List CellRow). slice_get xs c.args.place) (sym c.as_slice.ensures) ∙ c.item_at-row.ensures in
    twice_told c.args.design.now c.args.place row c.kind_at-kind.result.now cell c.args.pins.now c.has_set.result c.requires.is row_at c.kind_at-kind.ensures c.requires.pins at
    (subst (λ (marks : List Bool). Tells c.has_set.result (HasMark marks row.first_pin (length c.kind_at-kind.result.now.pins) true)) c.as_slice-repeats.ensures
    (subst (λ (count : ℕ). Tells c.has_set.result (HasMark c.as_slice-repeats.result.now row.first_pin count true)) c.len.ensures c.has_set.ensures))
