use Rattle.timing_model.specs.Matching.{MatchesAt}
use Rattle.timing_laws.proofs.OneWinner.{one_winner}
use Rattle.timing_laws.proofs.timings.one_exception_wins.Goals as goal

pub returns : goal.returns
returns c exceptions path side periods place other = one_winner exceptions (MatchesAt exceptions path side) side periods place other
