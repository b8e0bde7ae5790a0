use Rattle.std.proofs.Common.{◌+◌, drop}
use Rattle.std.proofs.lemmas.List.{drop_all}
use Rattle.std.proofs.lemmas.Result.{err_from_is_err_and}
use Rattle.tcl_eval.proofs.ListRuns.{text_read, text_refused, texts_read}
use Rattle.tcl_eval.proofs.RunStepFacts.{drop_item}
use Rattle.tcl_eval.proofs.commands.list_values.all_items.Goals as goal

pub loop-text-preserved : goal.loop-text-preserved
loop-text-preserved c =
    let all = c.args.texts.now in
    let i = c.loop-text.text-index in
    let text = c.text-item.result in
    text_read all c.loop-text.items _ (drop i all) text (drop (i + 1) all) _ c.loop-text.invariant
    (drop_item all i text c.loop-text-test.true c.text-item.is) c.in_ok-add_items.ensures

pub returns-in_err-add_items : goal.returns-in_err-add_items
returns-in_err-add_items c =
    let all = c.args.texts.now in
    let i = c.loop-text.text-index in
    let text = c.text-item.result in
    let same = err_from_is_err_and c.from_residual.result c.from_residual.ensures.1 in
    rw (same.1, same.2)
    (text_refused all c.loop-text.items _ (drop i all) text (drop (i + 1) all) c.in_err-add_items.field-0.0 c.loop-text.invariant
    (drop_item all i text c.loop-text-test.true c.text-item.is) c.in_err-add_items.ensures)

pub returns : goal.returns
returns c =
    texts_read c.args.texts.now c.loop-text.items _ c.loop-text.invariant (drop_all c.loop-text.text-index c.args.texts.now c.loop-text-test.false)
