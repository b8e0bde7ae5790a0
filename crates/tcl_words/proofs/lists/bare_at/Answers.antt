use Rattle.tcl_words.proofs.ItemFacts.{bare_item}
use Rattle.tcl_words.proofs.lists.bare_at.Goals as goal

pub returns : goal.returns
returns c = bare_item c.args.text.now c.args.from c.in_ok-item.item c.requires.within c.requires.begins c.requires.no_brace c.requires.no_quote c.in_ok-item.ensures
