use Rattle.std.proofs.Common.{rules}
use Rattle.tcl_words.proofs.SubstitutionFacts.{script_closed}
use Rattle.tcl_words.proofs.substitutions.script.Goals as goal

pub returns : goal.returns
returns c = script_closed c.args.bytes.now c.args.at c.in-Some.next c.requires.within c.requires.small (search rules)
