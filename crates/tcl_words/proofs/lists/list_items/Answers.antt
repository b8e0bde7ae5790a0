use Rattle.std.proofs.Common.{List, ℕ, drop, subst}
use Rattle.std.proofs.lemmas.Result.{err_from_is_err_and}
use Rattle.std.proofs.lemmas.Str.{IsCharBoundary-start}
use Rattle.tcl_model.specs.ListItems.{after_parting}
use Rattle.tcl_words.specs.Spans.{LeadsTo}
use Rattle.tcl_words.proofs.ListFacts.{items_none, items_stop}
use Rattle.tcl_words.proofs.lists.list_items.Goals as goal

pub loop-bytes-init : goal.loop-bytes-init
loop-bytes-init c = items_none c.args.text.now c.new-items.result c.new-items.ensures (IsCharBoundary-start c.args.text.now c.utf8.text)

pub returns-in_err-item : goal.returns-in_err-item
returns-in_err-item c =
    let text = c.args.text.now in
    let leads : LeadsTo text c.loop-bytes.at c.item_start-begin.result (after_parting (drop c.loop-bytes.at text)) = subst (λ (t : List ℕ). LeadsTo t c.loop-bytes.at c.item_start-begin.result (after_parting (drop c.loop-bytes.at t))) c.as_bytes-bytes.ensures.value c.item_start-begin.ensures in
    let same = err_from_is_err_and c.from_residual.result c.from_residual.ensures.1 in
    rw (same.1, same.2) (items_stop text c.loop-bytes.at c.item_start-begin.result c.loop-bytes.items c.in_err-item.field-0.0 c.loop-bytes.invariant leads c.in_err-item.ensures)
