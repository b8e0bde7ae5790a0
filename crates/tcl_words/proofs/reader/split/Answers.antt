use Rattle.std.proofs.Common.{◌<◌, ◌≤◌, length, Option, Some, None, Ok, subst, arith}
use Rattle.std.proofs.lemmas.Result.{err_from_is_err_and}
use Rattle.std.proofs.lemmas.Str.{IsCharBoundary-start}
use Rattle.std.specs.Option.{IfSome}
use Rattle.std.specs.Str.{IsCharBoundary}
use Rattle.source_types.specs.declared.commands.Next.{Next}
use Rattle.tcl_model.specs.Commands.{FirstFrom}
use Rattle.tcl_words.proofs.CommandFacts.{commands_all, commands_stop, commands_more, commands_none}
use Rattle.tcl_words.proofs.reader.split.Goals as goal

pub loop-commands-init : goal.loop-commands-init
loop-commands-init c = commands_none c.args.text.now c.new-commands.result c.new-commands.ensures (IsCharBoundary-start c.args.text.now c.utf8.text)

pub returns-in_err-next : goal.returns-in_err-next
returns-in_err-next c =
    let same = err_from_is_err_and c.from_residual.result c.from_residual.ensures.1 in
    rw (same.1, same.2) (commands_stop c.args.text.now c.loop-commands.at c.loop-commands.line c.loop-commands.commands c.in_err-next.field-0.0 c.loop-commands.invariant c.in_err-next.ensures.outcome)

pub loop-commands-smaller : goal.loop-commands-smaller
loop-commands-smaller c =
    let text = c.args.text.now in
    let found : FirstFrom text c.loop-commands.at c.loop-commands.line (Ok (Some c.in-Some.next)) = subst (λ (o : Option Next). FirstFrom text c.loop-commands.at c.loop-commands.line (Ok o)) c.in-Some.is c.in_ok-next.ensures.outcome in
    let after : c.loop-commands.at < c.in-Some.next.end = subst (λ (o : Option Next). IfSome o (λ next. c.loop-commands.at < next.end)) c.in-Some.is c.in_ok-next.ensures.forward in
    let within : c.in-Some.next.end ≤ length text = found.2 in
    omega arith

pub loop-commands-preserved : goal.loop-commands-preserved
loop-commands-preserved c =
    let text = c.args.text.now in
    let found : FirstFrom text c.loop-commands.at c.loop-commands.line (Ok (Some c.in-Some.next)) = subst (λ (o : Option Next). FirstFrom text c.loop-commands.at c.loop-commands.line (Ok o)) c.in-Some.is c.in_ok-next.ensures.outcome in
    let boundary : IsCharBoundary text c.in-Some.next.end = subst (λ (o : Option Next). IfSome o (λ next. IsCharBoundary text next.end)) c.in-Some.is c.in_ok-next.ensures.boundary in
    commands_more text c.loop-commands.at c.loop-commands.line c.loop-commands.commands _ c.in-Some.next c.loop-commands.invariant found boundary c.in_ok-push.ensures.ok

pub returns : goal.returns
returns c =
    let text = c.args.text.now in
    let found : FirstFrom text c.loop-commands.at c.loop-commands.line (Ok None) = subst (λ (o : Option Next). FirstFrom text c.loop-commands.at c.loop-commands.line (Ok o)) c.in_default.is c.in_ok-next.ensures.outcome in
    commands_all text c.loop-commands.at c.loop-commands.line c.loop-commands.commands c.loop-commands.invariant found
