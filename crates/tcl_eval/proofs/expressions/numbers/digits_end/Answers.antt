use Rattle.std.proofs.Common.{sym, ◌∙◌}
use Rattle.text_model.specs.Bytes.{is_digit}
use Rattle.tcl_words.proofs.RunFacts.{run_more}
use Rattle.tcl_eval.proofs.expressions.numbers.digits_end.Goals as goal

pub loop-at-preserved : goal.loop-at-preserved
loop-at-preserved c =
    run_more is_digit c.args.bytes.now c.args.from c.loop-at.at c.loop-at.invariant c.loop-at-test.true
    (sym c.is_ascii_digit.ensures.value ∙ c.if-is_ascii_digit.true)
