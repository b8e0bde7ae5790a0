use Rattle.std.proofs.Common.{◌≡◌, ◌≤◌, ◌+◌, Option, Ok, sym, subst, ◌∙◌}
use Rattle.std.proofs.lemmas.Result.{err_from_is_err_and}
use Rattle.std.specs.Option.{IfSome}
use Rattle.std.specs.Prelude.{option_map}
use Rattle.tcl_eval.specs.declared.expressions.lexed.Lexed.{Lexed}
use Rattle.tcl_eval.specs.declared.expressions.reading.Reading.{Reading}
use Rattle.tcl_eval.specs.ExpressionReading.{step}
use Rattle.tcl_eval.specs.Lexing.{TokenFrom}
use Rattle.tcl_eval.specs.Readings.{seen}
use Rattle.tcl_eval.proofs.ParseFacts.{so_far_ended, so_far_more, so_far_refused, so_far_stop, so_far_unended}
use Rattle.tcl_eval.proofs.expressions.parsing.parse_expression.Goals as goal

pub returns-in_err-token : goal.returns-in_err-token
returns-in_err-token c =
    let same = err_from_is_err_and c.from_residual.result c.from_residual.ensures.1 in
    rw (same.1, same.2) (so_far_stop c.args.text.now c.loop-reading.at c.loop-reading.reading c.in_err-token.field-0.0 c.loop-reading.invariant c.in_err-token.ensures)

pub returns-in_default-2 : goal.returns-in_default-2
returns-in_default-2 c =
    let token = subst (λ (o : Option Lexed). TokenFrom c.args.text.now c.loop-reading.at (Ok o)) c.in-Some.is c.in_ok-token.ensures in
    so_far_refused c.args.text.now c.loop-reading.at c.loop-reading.reading c.in-Some.field-0 c.loop-reading.invariant token
    (subst (λ (o : Option Reading). option_map seen o ≡ step (seen c.loop-reading.reading) c.in-Some.field-0.token) c.in_default-2.is c.in_ok-next.ensures.read)

pub loop-reading-preserved : goal.loop-reading-preserved
loop-reading-preserved c =
    let token = subst (λ (o : Option Lexed). TokenFrom c.args.text.now c.loop-reading.at (Ok o)) c.in-Some.is c.in_ok-token.ensures in
    so_far_more c.args.text.now c.loop-reading.at c.loop-reading.reading c.in-Some-2.next c.in-Some.field-0 c.loop-reading.invariant token
    (subst (λ (o : Option Reading). option_map seen o ≡ step (seen c.loop-reading.reading) c.in-Some.field-0.token) c.in-Some-2.is c.in_ok-next.ensures.read)
    (subst (λ (o : Option Reading). IfSome o (λ next. next.levels ≤ c.loop-reading.reading.levels + 1)) c.in-Some-2.is c.in_ok-next.ensures.levels)

pub returns-in-Some-3 : goal.returns-in-Some-3
returns-in-Some-3 c =
    let ends = subst (λ (o : Option Lexed). TokenFrom c.args.text.now c.loop-reading.at (Ok o)) c.in_default.is c.in_ok-token.ensures in
    so_far_ended c.args.text.now c.loop-reading.at c.loop-reading.reading c.in-Some-3.expression c.loop-reading.invariant ends
    (sym c.in-Some-3.is ∙ c.in_ok-expression.ensures)

pub returns-in-None : goal.returns-in-None
returns-in-None c =
    let ends = subst (λ (o : Option Lexed). TokenFrom c.args.text.now c.loop-reading.at (Ok o)) c.in_default.is c.in_ok-token.ensures in
    so_far_unended c.args.text.now c.loop-reading.at c.loop-reading.reading c.loop-reading.invariant ends (sym c.in-None.is ∙ c.in_ok-expression.ensures)
