use Rattle.std.proofs.Common.{sym, ◌∙◌}
use Rattle.tcl_eval.proofs.TokenFacts.{passed_more}
use Rattle.tcl_eval.proofs.expressions.tokens.token_start.Goals as goal

pub loop-at-preserved : goal.loop-at-preserved
loop-at-preserved c =
    passed_more c.args.bytes.now c.args.from c.loop-at.at c.loop-at.invariant c.loop-at-test.true (sym c.is_passed.ensures ∙ c.if-is_passed.true)
