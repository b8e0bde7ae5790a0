use Rattle.tcl_words.proofs.WordFacts.{bare_word}
use Rattle.tcl_words.proofs.spelled.bare_at.Goals as goal

pub returns : goal.returns
returns c = bare_word c.args.text.now c.args.from c.in_ok-spelled.spelled c.requires.within c.requires.begins c.requires.no_brace c.requires.no_quote c.in_ok-spelled.ensures
