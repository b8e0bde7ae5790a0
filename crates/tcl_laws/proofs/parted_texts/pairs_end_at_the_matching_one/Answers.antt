use Rattle.tcl_laws.proofs.PassedOver.{brace_match, bracket_match}
use Rattle.tcl_laws.proofs.parted_texts.pairs_end_at_the_matching_one.Goals as goal

pub returns-clause-braces : goal.returns-clause-braces
returns-clause-braces c = brace_match

pub returns-clause-brackets : goal.returns-clause-brackets
returns-clause-brackets c = bracket_match
