use Rattle.std.proofs.Common.{sym, ◌∙◌}
use Rattle.tcl_words.proofs.ItemPieces.{at_end, at_none}
use Rattle.tcl_words.proofs.PieceFacts.{at_within}
use Rattle.tcl_words.proofs.item_pieces.item_piece_at.Goals as goal

pub returns-then-at-bytes : goal.returns-then-at-bytes
returns-then-at-bytes c = at_none c.args.form c.args.bytes.now c.args.at c.text_end.result c.if-at-bytes.true c.text_end.ensures

pub returns-then-ends_item : goal.returns-then-ends_item
returns-then-ends_item c =
    at_end c.args.form c.args.bytes.now c.args.at c.word_end.result (at_within c.args.bytes.now c.args.at c.requires c.if-at-bytes.false) (sym c.ends_item.ensures ∙ c.if-ends_item.true) c.word_end.ensures
