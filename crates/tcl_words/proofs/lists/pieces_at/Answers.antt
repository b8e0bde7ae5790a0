use Rattle.std.proofs.Common.{Err, Ok, drop, subst}
use Rattle.std.proofs.lemmas.Result.{err_from_is_err_and}
use Rattle.tcl_model.specs.ListItems as grammar
use Rattle.tcl_words.specs.declared.pieces.Step.{Step}
use Rattle.tcl_words.specs.Forms.{form_of}
use Rattle.tcl_words.specs.Steps.{StepAt}
use Rattle.tcl_words.proofs.ItemRows.{pieces_end, pieces_stop}
use Rattle.tcl_words.proofs.Refusals.{meets_refusal}
use Rattle.tcl_words.proofs.lists.pieces_at.Goals as goal

pub returns-in_err-end : goal.returns-in_err-end
returns-in_err-end c =
    let text = c.args.text.now in
    let at = c.loop-item.at in
    let stands = rw c.as_bytes-bytes.ensures.value at c.item_piece_at.ensures in
    let step = meets_refusal c.item_piece_at.result (Err c.in_err-end.field-0.0) (StepAt (grammar.item_piece_at (form_of c.args.form) (drop at text)) text at) c.in_err-end.ensures.cases stands in
    let same = err_from_is_err_and c.from_residual.result c.from_residual.ensures.1 in
    rw (same.1, same.2) (pieces_stop c.args.form text c.args.from at c.loop-item.item c.in_err-end.field-0.0 c.loop-item.invariant step)

pub returns-in-Ends : goal.returns-in-Ends
returns-in-Ends c =
    let text = c.args.text.now in
    let at = c.loop-item.at in
    let stands = rw c.as_bytes-bytes.ensures.value at c.item_piece_at.ensures in
    let step = meets_refusal c.item_piece_at.result (Ok c.in_ok-end.field-0) (StepAt (grammar.item_piece_at (form_of c.args.form) (drop at text)) text at) c.in_ok-end.ensures.cases stands in
    pieces_end c.args.form text c.args.from at c.in-Ends.end c.loop-item.item c.utf8.text c.loop-item.invariant
    (subst (λ (s : Step). StepAt (grammar.item_piece_at (form_of c.args.form) (drop at text)) text at (Ok s)) c.in-Ends.is step)
