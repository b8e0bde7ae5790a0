use Rattle.std.proofs.Common.{List, ℕ, false, drop, subst}
use Rattle.std.proofs.lemmas.Result.{err_from_is_err_and}
use Rattle.text_model.specs.Continued.{after_gap}
use Rattle.tcl_words.specs.Spans.{LeadsTo}
use Rattle.tcl_words.proofs.CommandFacts.{words_stop}
use Rattle.tcl_words.proofs.reader.command_words.Goals as goal

pub returns-in_err-word : goal.returns-in_err-word
returns-in_err-word c =
    let text = c.args.text.now in
    let leads : LeadsTo text c.loop-bytes.at c.gap_end-begin.result (after_gap false (drop c.loop-bytes.at text)) = subst (λ (t : List ℕ). LeadsTo t c.loop-bytes.at c.gap_end-begin.result (after_gap false (drop c.loop-bytes.at t))) c.as_bytes-bytes.ensures.value c.gap_end-begin.ensures in
    let same = err_from_is_err_and c.from_residual.result c.from_residual.ensures.1 in
    rw (same.1, same.2) (words_stop text c.args.from c.loop-bytes.at c.gap_end-begin.result c.loop-bytes.words c.in_err-word.field-0.0 c.loop-bytes.invariant leads c.in_err-word.ensures)
