use Rattle.std.proofs.Common.{◌≡◌, slice_get, sym, ◌∙◌}
use Rattle.std.proofs.lemmas.Result.{IfOk-weaker}
use Rattle.flat_design.specs.declared.elaborate.walk.Step.{Step}
use Rattle.flat_design.specs.Steps.{cell_step, step_of_cell}
use Rattle.flat_design.proofs.StepFacts.{cell_within, step_known, step_unknown}
use Rattle.flat_design.proofs.elaborate.steps.step_of_cell.Goals as goal

pub cell_step-requires-clause-within : goal.cell_step-requires-clause-within
cell_step-requires-clause-within c =
    cell_within c.args.tables.now.library.now c.args.instance.now.kind c.in-Some.kind (sym c.cell_place.ensures ∙ c.in-Some.is)

pub returns-in-Some : goal.returns-in-Some
returns-in-Some c =
    let library = c.args.tables.now.library.now in
    let instance = c.args.instance.now in
    IfOk-weaker c.cell_step.result (λ (x : Step). x ≡ cell_step c.in-Some.kind (slice_get library.cells c.in-Some.kind) instance.links)
    (λ (x : Step). x ≡ step_of_cell library instance)
    (λ x e. e ∙ step_known library instance c.in-Some.kind (sym c.cell_place.ensures ∙ c.in-Some.is)) c.cell_step.ensures

pub returns-in-None : goal.returns-in-None
returns-in-None c = step_unknown c.args.tables.now.library.now c.args.instance.now (sym c.cell_place.ensures ∙ c.in-None.is)
