use Rattle.tcl_laws.proofs.PartedWords.{comment_at_end, comment_begins, comment_ends, comment_takes, comment_takes_carriage}
use Rattle.tcl_laws.proofs.parted_texts.comments_end_at_the_first_free_newline.Goals as goal

pub returns-clause-begins : goal.returns-clause-begins
returns-clause-begins c = comment_begins

pub returns-clause-ends : goal.returns-clause-ends
returns-clause-ends c = comment_ends

pub returns-clause-backslash : goal.returns-clause-backslash
returns-clause-backslash c = comment_takes

pub returns-clause-carriage : goal.returns-clause-carriage
returns-clause-carriage c = comment_takes_carriage

pub returns-clause-no_end : goal.returns-clause-no_end
returns-clause-no_end c = comment_at_end
