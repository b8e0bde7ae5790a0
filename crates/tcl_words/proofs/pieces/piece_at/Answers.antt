use Rattle.std.proofs.Common.{sym, ◌∙◌}
use Rattle.std.proofs.lemmas.Bool.{ne_eqb}
use Rattle.tcl_words.proofs.PieceFacts.{at_end_is, at_none, at_substituted, at_within}
use Rattle.tcl_words.proofs.Refusals.{meets_refusal}
use Rattle.tcl_words.proofs.pieces.piece_at.Goals as goal

pub returns-then-at-bytes : goal.returns-then-at-bytes
returns-then-at-bytes c =
    at_none c.args.form c.args.bytes.now c.args.at c.map_err.result c.if-at-bytes.true (meets_refusal c.text_end.result c.map_err.result _ c.map_err.ensures.cases c.text_end.ensures)

pub returns-then-ends : goal.returns-then-ends
returns-then-ends c = at_end_is c.args.form c.args.bytes.now c.args.at c.word_end.result (at_within c.args.bytes.now c.args.at c.requires c.if-at-bytes.false) (sym c.ends.ensures ∙ c.if-ends.true) c.word_end.ensures

pub returns-then-substitutes : goal.returns-then-substitutes
returns-then-substitutes c =
    at_substituted c.args.form c.args.bytes.now c.args.at c.substituted.result (at_within c.args.bytes.now c.args.at c.requires c.if-at-bytes.false) (sym c.ends.ensures ∙ c.if-ends.false) (ne_eqb _ 92 c.if-byte-eq92.false) (sym c.substitutes.ensures ∙ c.if-substitutes.true) c.substituted.ensures
