use Rattle.sdc_base.proofs.FloorFacts.{floored_is_floor}
use Rattle.sdc_base.proofs.RoundedFacts.{rounded_is_nearest, whole_product_is_exact}
use Rattle.sdc_base.proofs.number_laws.arithmetic_is_rounded.Goals as goal

pub returns-clause-floor : goal.returns-clause-floor
returns-clause-floor c = floored_is_floor

pub returns-clause-nearest : goal.returns-clause-nearest
returns-clause-nearest c = rounded_is_nearest

pub returns-clause-exact : goal.returns-clause-exact
returns-clause-exact c = whole_product_is_exact
