use Rattle.tcl_laws.proofs.PassedOver.{brace_ends, brace_in_brace, bracket_in_quote, in_brace, in_quote, no_ends, quote_ends, taken_in_brace, taken_in_quote}
use Rattle.tcl_laws.proofs.parted_texts.braces_and_quotes_end_at_their_own.Goals as goal

pub returns-clause-brace_ends : goal.returns-clause-brace_ends
returns-clause-brace_ends c = brace_ends

pub returns-clause-braces : goal.returns-clause-braces
returns-clause-braces c = brace_in_brace

pub returns-clause-brace_backslash : goal.returns-clause-brace_backslash
returns-clause-brace_backslash c = taken_in_brace

pub returns-clause-in_brace : goal.returns-clause-in_brace
returns-clause-in_brace c = in_brace

pub returns-clause-quote_ends : goal.returns-clause-quote_ends
returns-clause-quote_ends c = quote_ends

pub returns-clause-brackets : goal.returns-clause-brackets
returns-clause-brackets c = bracket_in_quote

pub returns-clause-quote_backslash : goal.returns-clause-quote_backslash
returns-clause-quote_backslash c = taken_in_quote

pub returns-clause-in_quote : goal.returns-clause-in_quote
returns-clause-in_quote c = in_quote

pub returns-clause-no_end : goal.returns-clause-no_end
returns-clause-no_end c = no_ends
