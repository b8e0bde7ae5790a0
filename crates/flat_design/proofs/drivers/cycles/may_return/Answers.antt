use Rattle.std.proofs.Common.{◌<◌, Bool, List, false, get_or, length, sym, ◌∙◌, ap, arith}
use Rattle.flat_design.proofs.CycleFacts.{never_returns}
use Rattle.flat_design.proofs.drivers.cycles.may_return.Goals as goal

pub returns : goal.returns
returns c = λ net low unmarked.
    let numbers = c.as_slice.result.now in
    let inside : net < length numbers = omega (arith, low, c.in_ok-components.ensures.numbers, ap length c.as_slice.ensures.value) in
    let mark = c.in_ok-marks.ensures net inside in
    never_returns numbers c.args.table.now.rows.now net
    (sym mark ∙ (ap (λ (marks : List Bool). get_or marks net false) (sym c.from.ensures) ∙ unmarked))
