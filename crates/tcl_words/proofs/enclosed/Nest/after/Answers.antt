use Rattle.std.proofs.Common.{List, ap, sym, ◌∷◌, ◌∙◌}
use Rattle.text_model.specs.Enclosed as grammar
use Rattle.tcl_words.specs.Nests.{open_of, opens_of}
use Rattle.tcl_words.proofs.NestFacts.{opens_last}
use Rattle.tcl_words.proofs.enclosed.Nest.after.Goals as goal

pub returns-in_ok-push-in-Opens : goal.returns-in_ok-push-in-Opens
returns-in_ok-push-in-Opens c =
    ap (λ (os : List grammar.Open). open_of c.in-Opens.within ∷ os) (ap opens_of c.in_ok-push-in-Opens.ensures.items ∙ opens_last c.args.self.outer.items c.args.self.inner)
    ∙ c.in-Opens.ensures (opens_of c.args.self.outer.items)

pub returns-in-Some : goal.returns-in-Some
returns-in-Some c =
    sym (opens_last c.pop.new.self.items c.in-Some.around) ∙ (sym (ap opens_of c.in-Some.ensures.items) ∙ c.in-Closes.ensures (opens_of c.args.self.outer.items))
