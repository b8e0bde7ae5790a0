use Rattle.std.proofs.Common.{◌≤◌, ◌-◌, Ok, Err, length, arith}
use Rattle.sdc_cli.specs.ModeBytes.{SaysAtMost}
use Rattle.sdc_cli.proofs.HostSteps.{most_within}
use Rattle.sdc_cli.proofs.SaidClocks.{most_is_printable}
use Rattle.sdc_cli.proofs.ModeSteps.{told_mode, told_fault}
use Rattle.sdc_cli.proofs.mode_files.read_file.Goals as goal

pub returns-in-Ok-read_mode-clause-contents : goal.returns-in-Ok-read_mode-clause-contents
returns-in-Ok-read_mode-clause-contents g c =
    let says : SaysAtMost _ c.in-Ok.bytes (Ok c.in-Ok-read_mode.mode) = rw c.as_slice.ensures at c.in-Ok-read_mode.ensures in
    told_mode c.args.most c.args.count c.args.place _ _ c.in-Ok-read_mode.mode _ _ c.requires c.in-Ok.ensures.whole says

pub returns-in-Ok-read_mode-clause-within : goal.returns-in-Ok-read_mode-clause-within
returns-in-Ok-read_mode-clause-within g c =
    let few : length c.in-Ok-read_mode.mode.clocks ≤ c.args.most - c.args.count = most_within _ _ c.in-Ok-read_mode.mode c.in-Ok-read_mode.ensures in
    omega (arith, few, c.requires)

pub returns-in-Ok-read_mode-clause-printable : goal.returns-in-Ok-read_mode-clause-printable
returns-in-Ok-read_mode-clause-printable g c = most_is_printable _ _ c.in-Ok-read_mode.mode c.in-Ok-read_mode.ensures

pub returns-in-Err-Refused-clause-contents : goal.returns-in-Err-Refused-clause-contents
returns-in-Err-Refused-clause-contents g c =
    let at_fault = rw c.in-Err-Refused.field-0-is at c.in-Err-Refused.ensures in
    let says : SaysAtMost _ c.in-Ok.bytes (Err c.in-Err-Refused.fault) = rw c.as_slice.ensures at at_fault in
    rw c.fault_at-in-Err-Refused.ensures (told_fault _ _ _ _ _ c.in-Err-Refused.fault _ _ c.requires c.in-Ok.ensures.whole says)
