use Rattle.std.proofs.Common.{List, ℕ, Err, sym, ◌∙◌, ap, subst}
use Rattle.sdc_base.specs.Gives.{Meets}
use Rattle.sdc_base.specs.declared.memory.At.{At}
use Rattle.sdc_base.specs.declared.memory.Stop.{Stop}
use Rattle.source_types.specs.declared.fault_kinds.DesignKind.{DesignKind}
use Rattle.flat_model.specs.FlatDesign.{flat}
use Rattle.flat_model.specs.Flattening.{FirstOfInstances}
use Rattle.flat_design.specs.declared.elaborate.walk.FaultAt.{FaultAt}
use Rattle.flat_design.specs.declared.elaborate.walk.Step.{Step}
use Rattle.flat_design.specs.Walk.{IsWalked, faults_below}
use Rattle.flat_design.proofs.FirstInstanceFault.{walk_fault, walk_none}
use Rattle.flat_design.proofs.elaborate.instances.check_instances.Goals as goal

pub returns-in-Ok-clause-sound : goal.returns-in-Ok-clause-sound
returns-in-Ok-clause-sound c = λ library body distinct same at.
    walk_none c.args.modules.now library distinct c.args.top body at
    (ap (λ (all : List (List Step)). faults_below all c.args.top) (sym same) ∙ c.in-Ok.ensures.0)

pub returns-in-Err-Refused-clause-sound : goal.returns-in-Err-Refused-clause-sound
returns-in-Err-Refused-clause-sound c = λ library body distinct same at.
    let walked : IsWalked c.args.steps.now c.args.top (Err c.in-Err-Refused.found) =
    subst (λ (stopped : Stop FaultAt). Meets {T = List ℕ} (Err stopped) (IsWalked c.args.steps.now c.args.top)) c.in-Err-Refused.field-0-is c.in-Err-Refused.ensures in
    subst (λ (first : At DesignKind). FirstOfInstances c.args.modules.now library (flat c.args.modules.now library body) first) (sym c.denoted.ensures)
    (walk_fault c.args.modules.now library distinct c.args.top body at c.in-Err-Refused.found walked.0
    (ap (λ (all : List (List Step)). faults_below all c.args.top) (sym same) ∙ walked.1))
