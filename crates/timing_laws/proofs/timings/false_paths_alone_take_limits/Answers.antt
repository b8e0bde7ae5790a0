use Rattle.timing_model.specs.Matching.{MatchesAt}
use Rattle.timing_laws.proofs.NoLimit.{no_limit}
use Rattle.timing_laws.proofs.timings.false_paths_alone_take_limits.Goals as goal

pub returns : goal.returns
returns c analysis path side limit is =
    no_limit analysis.mode analysis.waves is.0 (MatchesAt analysis.mode.exceptions path) side limit is.2
