use Rattle.tcl_eval.proofs.CommandRuns.{outside_run}
use Rattle.tcl_eval.proofs.running.evaluation.run_outside.Goals as goal

pub returns : goal.returns
returns g c =
    rw c.told_outside.ensures
    (outside_run g.H.Commands.host c.args.command.now c.outermost-level.result _ _ c.run_command-answer.result
    c.outermost-level.ensures.line c.outermost-level.ensures.left c.run_command-answer.ensures)
