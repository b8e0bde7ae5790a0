use Rattle.std.proofs.Common.{◌<◌, length, sym, ◌∙◌, ap, subst}
use Rattle.text_model.proofs.ListFacts.{element_at}
use Rattle.flat_design.specs.Sizes.{IsKind, cell_size, pins_of_kind, step_size}
use Rattle.flat_design.proofs.elaborate.sizes.step_size.Goals as goal

pub returns-in-Cell : goal.returns-in-Cell
returns-in-Cell c =
    let cells = c.args.library.now.cells in
    let low : c.in-Cell.kind < length cells = subst (IsKind (length cells)) c.in-Cell.is c.requires.kind in
    let cell = element_at cells c.in-Cell.kind low in
    c.cell_size-in-Cell.ensures
    ∙ (ap cell_size (c.pin_count.ensures cell.0 cell.1 ∙ sym (ap pins_of_kind cell.1))
    ∙ ap (step_size c.args.library.now c.args.sizes.now) (sym c.in-Cell.is))
