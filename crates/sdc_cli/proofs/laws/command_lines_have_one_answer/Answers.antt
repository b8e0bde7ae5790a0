use Rattle.sdc_cli.proofs.OneAnswer.{answer_once}
use Rattle.sdc_cli.proofs.laws.command_lines_have_one_answer.Goals as goal

pub returns : goal.returns
returns c = answer_once
