use Rattle.std.proofs.lemmas.Result.{err_from_is_err_and}
use Rattle.sdc_cli.proofs.HostSteps.{limited, says_refused}
use Rattle.sdc_cli.proofs.mode_file.read_mode.Goals as goal

pub returns-in_err-made : goal.returns-in_err-made
returns-in_err-made c =
    let p = err_from_is_err_and c.from_residual.result c.from_residual.ensures.1 in
    rw (p.1, p.2) (says_refused c.args.most c.args.bytes.now c.in_err-made.field-0.0 c.in_err-made.ensures)

pub returns : goal.returns
returns c = limited c.args.most c.args.bytes.now c.in_ok-made.made c.mode_within.result c.in_ok-made.ensures c.mode_within.ensures
