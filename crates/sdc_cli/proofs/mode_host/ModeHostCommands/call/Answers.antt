use Rattle.sdc_cli.proofs.HostSteps.{answered}
use Rattle.sdc_cli.proofs.mode_host.ModeHostCommands.call.Goals as goal

pub returns : goal.returns
returns c =
    answered c.args.line c.args.name.now c.args.words.now c.args.self.now.so_far _ c.answer.result
    (rw (c.as_str.ensures, c.as_slice.ensures) at c.answer.ensures)
