use Rattle.timing_laws.proofs.OneWinner.{best_match}
use Rattle.timing_laws.proofs.timings.winners_are_best_matches.Goals as goal

pub returns : goal.returns
returns c = best_match
