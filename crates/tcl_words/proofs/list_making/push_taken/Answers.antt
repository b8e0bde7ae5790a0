use Rattle.std.proofs.lemmas.Str.{IsCharBoundary-start}
use Rattle.tcl_words.proofs.TakenFacts.{written_none}
use Rattle.tcl_words.proofs.list_making.push_taken.Goals as goal

pub loop-at-init : goal.loop-at-init
loop-at-init c = written_none c.args.made.now c.args.item.now (IsCharBoundary-start c.args.item.now c.utf8.item)
