use Rattle.std.proofs.Common.{◌∙◌, ap, subst}
use Rattle.library_model.specs.LibertyFaults.{first_unit}
use Rattle.lib_cells.specs.FirstFaults.{cells_in, first_among, library_fault}
use Rattle.lib_cells.specs.Members.{members_seen}
use Rattle.lib_cells.specs.CellNumbers.{HasCells}
use Rattle.lib_cells.specs.Seen.{statements_seen}
use Rattle.lib_cells.proofs.LibraryLemmas.{all_refused}
use Rattle.lib_cells.proofs.library.libraries.library_if.Goals as goal

pub returns-in-Some : goal.returns-in-Some
returns-in-Some c =
    all_refused (statements_seen c.args.statements.now) (members_seen c.in_ok-libraries.libraries.items) (members_seen c.in_ok-cells.cells.items)
    c.in_ok-numbers.numbers c.in_ok-unit.unit c.in_ok-fault.field-0 c.in-Some.fault
    c.in_ok-libraries.ensures
    (c.in_ok-cells.ensures ∙ ap (λ ls. cells_in (members_seen ls)) c.as_slice.ensures.value)
    (subst (λ cs. HasCells c.in_ok-numbers.numbers (members_seen cs)) c.as_slice-2.ensures.value c.in_ok-numbers.ensures)
    (c.in_ok-unit.ensures ∙ ap (λ ls. first_unit (members_seen ls)) c.as_slice-3.ensures.value)
    (c.in_ok-fault.ensures ∙ ap (λ ls. first_among (library_fault c.in_ok-numbers.numbers c.in_ok-unit.unit) (members_seen ls)) c.as_slice-4.ensures.value)
    c.in-Some.is
