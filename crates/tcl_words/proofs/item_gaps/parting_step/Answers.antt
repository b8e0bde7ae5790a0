use Rattle.std.proofs.Common.{sym, ◌∙◌}
use Rattle.tcl_words.proofs.ItemGaps.{steps_byte, steps_continued}
use Rattle.tcl_words.proofs.item_gaps.parting_step.Goals as goal

pub returns-then-parts_items : goal.returns-then-parts_items
returns-then-parts_items c = steps_byte c.args.bytes.now c.args.at c.requires (sym c.parts_items.ensures ∙ c.if-parts_items.true)

pub returns-then-continues : goal.returns-then-continues
returns-then-continues c = steps_continued c.args.bytes.now c.args.at c.requires c.if-bytes-at-eq92.true (sym c.continues.ensures ∙ c.if-continues.true)
