use Rattle.std.proofs.Common.{sym, ◌∙◌}
use Rattle.tcl_words.proofs.GapFacts.{gap_steps_continued, gap_steps_space}
use Rattle.tcl_words.proofs.between.gap_step.Goals as goal

pub returns-then-is_space : goal.returns-then-is_space
returns-then-is_space c = gap_steps_space c.args.bytes.now c.args.at c.requires (sym c.is_space.ensures ∙ c.if-is_space.true)

pub returns-then-continues : goal.returns-then-continues
returns-then-continues c =
    gap_steps_continued c.args.bytes.now c.args.at c.newline_end.result c.requires c.if-bytes-at-eq92.true (sym c.continues.ensures ∙ c.if-continues.true) c.newline_end.ensures.leads
