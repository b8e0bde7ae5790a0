use Rattle.sdc_cli.proofs.OneAnswer.{printable_said}
use Rattle.sdc_cli.proofs.laws.files_say_printable_modes.Goals as goal

pub returns : goal.returns
returns c = printable_said
