use Rattle.sdc_cli.proofs.HostSteps.{added, not_added}
use Rattle.sdc_cli.proofs.mode_host.ModeHost.create_clock.Goals as goal

pub returns-in-Err-Refused : goal.returns-in-Err-Refused
returns-in-Err-Refused c =
    not_added c.args.self.now.so_far _ c.in-Err-Refused.kind (rw (c.in-Err-Refused.field-0-is, c.named.ensures) at c.in-Err-Refused.ensures.gives)

pub returns : goal.returns
returns c =
    added c.args.self.now.so_far _ _ c.in-Ok.clock _ (rw c.named.ensures at c.in-Ok.ensures.gives) c.no_text.ensures
    (rw c.replace-so_far.ensures.value at c.in_ok-self.ensures)
