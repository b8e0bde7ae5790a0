use Rattle.tcl_laws.proofs.PassedOver.{at_word, bracket_ends, in_word, inner_brace, inner_bracket, inner_quote, no_bracket_end, taken_out}
use Rattle.tcl_laws.proofs.parted_texts.brackets_pass_over_words_whole.Goals as goal

pub returns-clause-ends : goal.returns-clause-ends
returns-clause-ends c = bracket_ends

pub returns-clause-brackets : goal.returns-clause-brackets
returns-clause-brackets c = inner_bracket

pub returns-clause-braces : goal.returns-clause-braces
returns-clause-braces c = inner_brace

pub returns-clause-quotes : goal.returns-clause-quotes
returns-clause-quotes c = inner_quote

pub returns-clause-backslash : goal.returns-clause-backslash
returns-clause-backslash c = taken_out

pub returns-clause-at_word : goal.returns-clause-at_word
returns-clause-at_word c = at_word

pub returns-clause-in_word : goal.returns-clause-in_word
returns-clause-in_word c = in_word

pub returns-clause-no_end : goal.returns-clause-no_end
returns-clause-no_end c = no_bracket_end
