use Rattle.flat_laws.proofs.OneDesign.{outcome_once}
use Rattle.flat_laws.proofs.flat_designs.netlists_have_one_flat_design.Goals as goal

pub returns : goal.returns
returns c = outcome_once
