use Rattle.std.proofs.Common.{Bool, Ok, Err, ◌&&◌, nat_le, sym, ◌∙◌, ap}
use Rattle.std.proofs.lemmas.Bool.{le-leb}
use Rattle.std.specs.declared.num.ParseIntError.{ParseIntError}
use Rattle.sdc_cli.proofs.Budgets.{budget_is}
use Rattle.sdc_cli.proofs.command_line.is_budget.Goals as goal

pub returns-in-Err : goal.returns-in-Err
returns-in-Err c = sym (budget_is {E = ParseIntError} c.args.text.now (Err c.in-Err.field-0) c.in-Err.ensures.value.0)

pub returns-then-budget-ge1 : goal.returns-then-budget-ge1
returns-then-budget-ge1 c =
    let n = c.in-Ok.budget in
    sym (budget_is {E = ParseIntError} c.args.text.now (Ok n) c.in-Ok.ensures.value.0 ∙ ap (λ (b : Bool). b && nat_le n 10000000) (le-leb 1 n c.if-budget-ge1.true))
