use Rattle.merge_laws.proofs.SameRequirements.{same_requirement}
use Rattle.merge_laws.proofs.requirements.same_modes_have_same_requirements.Goals as goal

pub returns : goal.returns
returns c modes others path side requirement within without is =
    same_requirement modes others path side requirement within without is
