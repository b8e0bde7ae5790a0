use Rattle.std.proofs.Common.{◌∙◌, sym}
use Rattle.sdc_cli.proofs.HostSteps.{line_beyond_is}
use Rattle.sdc_cli.proofs.mode_file.line_beyond.Goals as goal

pub returns : goal.returns
returns c = c.line_of_clock.ensures ∙ sym (line_beyond_is c.args.most c.args.clocks.now)
