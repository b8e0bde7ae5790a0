use Rattle.std.proofs.Common.{◌≡◌, slice_get, sym, ◌∙◌}
use Rattle.std.proofs.lemmas.Result.{IfOk-weaker}
use Rattle.flat_design.specs.declared.elaborate.walk.Step.{Step}
use Rattle.flat_design.specs.declared.elaborate.walk.Step.TheVariants as step
use Rattle.flat_design.specs.Steps.{fits_module, step_of, step_of_cell}
use Rattle.flat_design.proofs.StepFacts.{module_within, step_entered, step_other}
use Rattle.flat_design.proofs.elaborate.steps.step_of.Goals as goal

pub enter_step-requires-clause-within : goal.enter_step-requires-clause-within
enter_step-requires-clause-within c =
    module_within c.args.tables.now.modules.now c.args.instance.now.kind c.in-Some.opened (sym c.module_place.ensures ∙ c.in-Some.is)

pub returns-in-Some : goal.returns-in-Some
returns-in-Some c =
    let modules = c.args.tables.now.modules.now in
    let library = c.args.tables.now.library.now in
    let instance = c.args.instance.now in
    IfOk-weaker c.enter_step.result (λ (x : Step). x ≡ step.Enter c.in-Some.opened (fits_module (slice_get modules c.in-Some.opened) instance.links))
    (λ (x : Step). x ≡ step_of modules library instance)
    (λ x e. e ∙ step_entered modules library instance c.in-Some.opened (sym c.module_place.ensures ∙ c.in-Some.is)) c.enter_step.ensures

pub returns-in-None : goal.returns-in-None
returns-in-None c =
    let modules = c.args.tables.now.modules.now in
    let library = c.args.tables.now.library.now in
    let instance = c.args.instance.now in
    IfOk-weaker c.step_of_cell.result (λ (x : Step). x ≡ step_of_cell library instance) (λ (x : Step). x ≡ step_of modules library instance)
    (λ x e. e ∙ step_other modules library instance (sym c.module_place.ensures ∙ c.in-None.is)) c.step_of_cell.ensures
