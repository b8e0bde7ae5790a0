use Rattle.std.proofs.Common.{refl}
use Rattle.sdc_base.specs.Number.{nearest}
use Rattle.sdc_base.proofs.rounding.nearest.Goals as goal

pub returns : goal.returns
unfolding nearest
returns c = refl
