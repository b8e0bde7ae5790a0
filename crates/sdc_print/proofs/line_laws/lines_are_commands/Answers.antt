use Rattle.sdc_print.proofs.CommandFacts.{line_is_first, lines_are_commands}
use Rattle.sdc_print.proofs.line_laws.lines_are_commands.Goals as goal

pub returns : goal.returns
returns c = record { first = line_is_first; all = lines_are_commands }
