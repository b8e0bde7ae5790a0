use Rattle.sdc_base.specs.declared.outside.Refusal.TheVariants as refusal
use Rattle.sdc_cli.proofs.Announcements.{announced_in_part, ends_same, quiet_other}
use Rattle.sdc_cli.proofs.WriteFaultLines.{named_in_part}
use Rattle.sdc_cli.proofs.fault_lines.announce.Goals as goal

pub returns-in-Err-Failed : goal.returns-in-Err-Failed
returns-in-Err-Failed g c =
    let failed = c.in-Err-Failed.ensures.failed cc in
    record {
      ends = ends_same c.args.status;
      announces = announced_in_part _ _ _ refusal.Failed _ _ failed c.in-Err-Failed.ensures.writes;
      names = named_in_part _ _ _ refusal.Failed _ _ failed c.in-Err-Failed.ensures.writes;
      counts = c.write_line.ensures.counts;
      quiet = quiet_other _ _ c.args.status c.in_default.not-Done c.in_default-status.not-Findings;
    }
