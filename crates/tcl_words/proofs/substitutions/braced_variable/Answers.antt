use Rattle.tcl_words.proofs.SubstitutionFacts.{name_closed}
use Rattle.tcl_words.proofs.substitutions.braced_variable.Goals as goal

pub returns : goal.returns
returns c = name_closed c.args.bytes.now c.args.at c.run_end-end.result c.requires.opens c.run_end-end.ensures.leads c.run_end-end.ensures.cuts c.if-end-bytes.false
