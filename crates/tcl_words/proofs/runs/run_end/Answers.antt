use Rattle.std.proofs.Common.{sym, ◌∙◌, arith}
use Rattle.tcl_words.specs.Forms.{test_of}
use Rattle.tcl_words.proofs.RunFacts.{run_cuts, run_more, run_leads}
use Rattle.tcl_words.proofs.runs.run_end.Goals as goal

pub loop-at-preserved : goal.loop-at-preserved
loop-at-preserved c = run_more (test_of c.args.run) c.args.bytes.now c.args.from c.loop-at.at c.loop-at.invariant c.loop-at-test.true (sym c.has.ensures ∙ c.if-has.true)

pub returns-else-has-clause-leads : goal.returns-else-has-clause-leads
returns-else-has-clause-leads c = run_leads c.args.run c.args.bytes.now c.args.from c.loop-at.at c.loop-at.invariant (λ _. sym c.has.ensures ∙ c.if-has.false)

pub returns-after-loop-at-clause-leads : goal.returns-after-loop-at-clause-leads
returns-after-loop-at-clause-leads c = run_leads c.args.run c.args.bytes.now c.args.from c.loop-at.at c.loop-at.invariant (λ less. absurd (omega (arith, less, c.loop-at-test.false)))

pub returns-else-has-clause-cuts : goal.returns-else-has-clause-cuts
returns-else-has-clause-cuts c = run_cuts c.args.run c.args.bytes.now c.args.from c.loop-at.at c.loop-at.invariant (λ _. sym c.has.ensures ∙ c.if-has.false)

pub returns-after-loop-at-clause-cuts : goal.returns-after-loop-at-clause-cuts
returns-after-loop-at-clause-cuts c = run_cuts c.args.run c.args.bytes.now c.args.from c.loop-at.at c.loop-at.invariant (λ less. absurd (omega (arith, less, c.loop-at-test.false)))
