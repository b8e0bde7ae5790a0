use Rattle.std.proofs.lemmas.Result.{err_from_is_err_and}
use Rattle.sdc_cli.proofs.HostSteps.{ran, refused}
use Rattle.sdc_cli.proofs.mode_file.run_text.Goals as goal

pub returns-in_err-eval : goal.returns-in_err-eval
returns-in_err-eval c =
    let p = err_from_is_err_and c.from_residual.result c.from_residual.ensures.1 in
    rw (p.1, p.2) (refused c.args.text.now _ c.in_err-eval.field-0.0 (rw c.new-host.ensures at c.in_err-eval.ensures))

pub returns : goal.returns
returns c = rw c.into_so_far.ensures (ran c.args.text.now _ (rw c.new-host.ensures at c.in_ok-eval.ensures))
