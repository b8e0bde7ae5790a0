use Rattle.tcl_eval.proofs.OneRun.{run_once}
use Rattle.tcl_eval.proofs.laws.runs_have_one_outcome.Goals as goal

pub returns : goal.returns
returns g c = run_once g.H.Commands.host
