use Rattle.std.proofs.Common.{◌≡◌, List, sym, subst}
use Rattle.text_model.specs.Enclosed as grammar
use Rattle.tcl_words.specs.declared.enclosed.Open.{Open}
use Rattle.tcl_words.specs.Nests.{changed, open_of}
use Rattle.tcl_words.proofs.enclosed.Open.change.Goals as goal

pub returns-in-Quote : goal.returns-in-Quote
returns-in-Quote c =
    subst (λ (s : Open). (outer : List grammar.Open) → changed (open_of s) outer c.change_in_quote.result ≡ grammar.opened (open_of s) outer c.args.begins c.args.byte) (sym c.in-Quote.is)
    (λ outer. c.change_in_quote.ensures outer c.args.begins)

pub returns-in-Brace : goal.returns-in-Brace
returns-in-Brace c =
    subst (λ (s : Open). (outer : List grammar.Open) → changed (open_of s) outer c.change_in_brace.result ≡ grammar.opened (open_of s) outer c.args.begins c.args.byte) (sym c.in-Brace.is)
    (λ outer. c.change_in_brace.ensures outer c.args.begins)
