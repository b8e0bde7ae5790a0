use Rattle.std.proofs.Common.{get_or, rules, sym, ◌∙◌}
use Rattle.std.proofs.lemmas.Bool.{ne_eqb}
use Rattle.tcl_words.proofs.BetweenFacts.{parting_steps_comment, parting_steps_continued, parting_steps_none, parting_steps_one}
use Rattle.tcl_words.proofs.between.parting_step.Goals as goal

pub returns-then-is_parting : goal.returns-then-is_parting
returns-then-is_parting c = parting_steps_one c.args.bytes.now c.args.at c.requires (sym c.is_parting.ensures ∙ c.if-is_parting.true)

pub returns-then-byte-eq35 : goal.returns-then-byte-eq35
returns-then-byte-eq35 c =
    parting_steps_comment c.args.bytes.now c.args.at c.comment_end.result c.requires c.if-byte-eq35.true c.comment_end.ensures.moves c.comment_end.ensures.keeps

pub returns-then-continues : goal.returns-then-continues
returns-then-continues c = parting_steps_continued c.args.bytes.now c.args.at c.requires c.if-byte-eq92.true (sym c.continues.ensures ∙ c.if-continues.true)

pub returns : goal.returns
returns c =
    parting_steps_none c.args.bytes.now c.args.at c.requires (sym c.is_parting.ensures ∙ c.if-is_parting.false) (ne_eqb (get_or c.args.bytes.now c.args.at 0) 35 c.if-byte-eq35.false) (search rules)
