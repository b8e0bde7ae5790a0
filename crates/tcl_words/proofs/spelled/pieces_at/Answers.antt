use Rattle.std.proofs.Common.{List, ℕ, Err, Ok, drop, subst}
use Rattle.sdc_base.specs.Gives.{Meets}
use Rattle.std.proofs.lemmas.Result.{err_from_is_err_and}
use Rattle.tcl_model.specs.Pieces as grammar
use Rattle.tcl_words.specs.declared.pieces.Step.{Step}
use Rattle.tcl_words.specs.declared.pieces.Step.TheVariants.{Ends}
use Rattle.tcl_words.specs.Forms.{form_of}
use Rattle.tcl_words.specs.Steps.{StepAt}
use Rattle.tcl_words.proofs.PieceRows.{pieces_stop, pieces_end}
use Rattle.tcl_words.proofs.spelled.pieces_at.Goals as goal

pub returns-in_err-end : goal.returns-in_err-end
returns-in_err-end c =
    let text = c.args.text.now in
    let same = err_from_is_err_and c.from_residual.result c.from_residual.ensures.1 in
    let step = subst (λ (t : List ℕ). Meets {T = Step} (Err c.in_err-end.field-0.0) (StepAt (grammar.piece_at (form_of c.args.form) (drop c.loop-gathered.at t)) t c.loop-gathered.at)) c.as_bytes-bytes.ensures.value c.in_err-end.ensures in
    rw (same.1, same.2) (pieces_stop c.args.form text c.args.from c.loop-gathered.at c.loop-gathered.gathered c.in_err-end.field-0.0 c.loop-gathered.invariant step)

pub returns-in-Ends : goal.returns-in-Ends
returns-in-Ends c =
    let text = c.args.text.now in
    let step = subst (λ (t : List ℕ). StepAt (grammar.piece_at (form_of c.args.form) (drop c.loop-gathered.at t)) t c.loop-gathered.at (Ok (Ends c.in-Ends.end))) c.as_bytes-bytes.ensures.value
    (subst (λ (s : Step). StepAt (grammar.piece_at (form_of c.args.form) (drop c.loop-gathered.at c.as_bytes-bytes.result.now)) c.as_bytes-bytes.result.now c.loop-gathered.at (Ok s)) c.in-Ends.is c.in_ok-end.ensures) in
    pieces_end c.args.form text c.args.from c.loop-gathered.at c.in-Ends.end c.loop-gathered.gathered c.in_ok-word-in-Ends.word c.utf8.text c.loop-gathered.invariant step c.in_ok-word-in-Ends.ensures
