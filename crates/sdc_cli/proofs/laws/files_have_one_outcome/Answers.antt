use Rattle.sdc_cli.proofs.OneOutcome.{line_once}
use Rattle.sdc_cli.proofs.laws.files_have_one_outcome.Goals as goal

pub returns : goal.returns
returns c = line_once
