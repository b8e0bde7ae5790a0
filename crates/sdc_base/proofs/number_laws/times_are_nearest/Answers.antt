use Rattle.sdc_base.proofs.TimeFacts.{time_is_nearest, time_range_is_exact}
use Rattle.sdc_base.proofs.number_laws.times_are_nearest.Goals as goal

pub returns-clause-time : goal.returns-clause-time
returns-clause-time c = time_is_nearest

pub returns-clause-range : goal.returns-clause-range
returns-clause-range c = time_range_is_exact
