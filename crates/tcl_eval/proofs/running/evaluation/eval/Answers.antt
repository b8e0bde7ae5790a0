use Rattle.std.proofs.Common.{Option, Ok, subst}
use Rattle.std.proofs.lemmas.Result.{err_from_is_err_and}
use Rattle.source_types.specs.declared.commands.Command.{Command}
use Rattle.tcl_eval.specs.ScriptReads.{CommandOutside}
use Rattle.tcl_eval.specs.Worlds.{world}
use Rattle.tcl_eval.proofs.CommandRuns.{script_begun, script_more, script_refused, script_run, script_unread}
use Rattle.tcl_eval.proofs.running.evaluation.eval.Goals as goal

pub loop-run-init : goal.loop-run-init
loop-run-init g c =
    script_begun g.H.Commands.host c.args.script.now (g.H.Commands.state c.args.host.now) c.new-reader.result c.new-run.result
    c.new-reader.ensures c.new-run.ensures.variables c.new-run.ensures.begun

pub returns-in_err-command : goal.returns-in_err-command
returns-in_err-command g c =
    let l = c.loop-run in
    let same = err_from_is_err_and c.from_residual.result c.from_residual.ensures.1 in
    rw (same.1, same.2)
    (script_unread g.H.Commands.host c.args.script.now _ l.reader _ (world l.run (g.H.Commands.state l.host)) c.in_err-command.field-0.0 l.invariant c.in_err-command.ensures.command)

pub returns-in_err-run_outside : goal.returns-in_err-run_outside
returns-in_err-run_outside g c =
    let l = c.loop-run in
    let same = err_from_is_err_and c.from_residual-in_err-run_outside.result c.from_residual-in_err-run_outside.ensures.1 in
    let stands = subst (λ (o : Option Command). CommandOutside l.reader (Ok o) c.next_outside.new.reader) c.in-Some.is c.in_ok-command.ensures.command in
    rw (same.1, same.2)
    (script_refused g.H.Commands.host c.args.script.now _ l.reader (world l.run (g.H.Commands.state l.host)) c.in-Some.command c.next_outside.new.reader c.in_err-run_outside.field-0.0
    (world c.run_outside.new.run (g.H.Commands.state c.run_outside.new.host)) l.invariant stands c.in_err-run_outside.ensures)

pub loop-run-preserved : goal.loop-run-preserved
loop-run-preserved g c =
    let l = c.loop-run in
    let stands = subst (λ (o : Option Command). CommandOutside l.reader (Ok o) c.next_outside.new.reader) c.in-Some.is c.in_ok-command.ensures.command in
    script_more g.H.Commands.host c.args.script.now _ l.reader (world l.run (g.H.Commands.state l.host)) c.in-Some.command c.next_outside.new.reader _ _ l.invariant stands c.in_ok-run_outside.ensures

pub returns : goal.returns
returns g c =
    let l = c.loop-run in
    let stands = subst (λ (o : Option Command). CommandOutside l.reader (Ok o) c.next_outside.new.reader) c.in_default.is c.in_ok-command.ensures.command in
    script_run g.H.Commands.host c.args.script.now _ l.reader (world l.run (g.H.Commands.state l.host)) l.invariant stands
