use Rattle.timing_laws.proofs.FactsOfPaths.{facts_match}
use Rattle.timing_laws.proofs.timings.facts_match_as_their_path.Goals as goal

pub returns : goal.returns
returns c = facts_match
