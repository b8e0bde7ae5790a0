use Rattle.std.proofs.Common.{sym, ◌∙◌, arith}
use Rattle.tcl_words.specs.Taken.{untaken}
use Rattle.tcl_words.proofs.RunFacts.{run_more, run_none}
use Rattle.tcl_words.proofs.TakenFacts.{untaken_to}
use Rattle.tcl_words.proofs.list_making.untaken_end.Goals as goal

pub loop-at-init : goal.loop-at-init
loop-at-init c = run_none untaken c.args.bytes.now c.args.from c.requires

pub loop-at-preserved : goal.loop-at-preserved
loop-at-preserved c = run_more untaken c.args.bytes.now c.args.from c.loop-at.at c.loop-at.invariant c.loop-at-test.true (sym c.is_untaken.ensures ∙ c.if-is_untaken.true)

pub returns-else-is_untaken : goal.returns-else-is_untaken
returns-else-is_untaken c = untaken_to c.args.bytes.now c.args.from c.loop-at.at c.loop-at.invariant (λ _. sym c.is_untaken.ensures ∙ c.if-is_untaken.false)

pub returns-after-loop-at : goal.returns-after-loop-at
returns-after-loop-at c = untaken_to c.args.bytes.now c.args.from c.loop-at.at c.loop-at.invariant (λ less. absurd (omega (arith, less, c.loop-at-test.false)))
