use Rattle.timing_laws.proofs.CandidatePaths.{path_so}
use Rattle.timing_laws.proofs.timings.candidates_are_paths.Goals as goal

pub returns : goal.returns
returns c analysis path side candidate =
    path_so analysis side path.launch path.capture path.nodes candidate.ends candidate.are_ends candidate.launched candidate.captured
