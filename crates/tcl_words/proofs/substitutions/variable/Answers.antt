use Rattle.std.proofs.Common.{sym, ◌∙◌}
use Rattle.tcl_words.proofs.SubstitutionFacts.{dollar_named}
use Rattle.tcl_words.proofs.substitutions.variable.Goals as goal

pub returns : goal.returns
returns c =
    dollar_named c.args.bytes.now c.args.at c.run_end-end.result c.requires.within c.requires.dollar c.run_end-end.ensures.leads c.if-end-at.false
    (sym c.stands_at.ensures ∙ c.if-stands_at.false)
