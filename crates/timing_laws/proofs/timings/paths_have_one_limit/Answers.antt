use Rattle.timing_laws.proofs.OneLimit.{one_limit_of_path}
use Rattle.timing_laws.proofs.timings.paths_have_one_limit.Goals as goal

pub returns : goal.returns
returns c = one_limit_of_path
