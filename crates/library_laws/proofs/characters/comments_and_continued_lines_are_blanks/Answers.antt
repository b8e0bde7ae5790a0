use Rattle.library_laws.proofs.ShownBytes.{bytes_shown, carriage_is_blank, comment_is_blank, newline_is_blank, open_comment_is_blank, other_stays, quoted_stays}
use Rattle.library_laws.proofs.characters.comments_and_continued_lines_are_blanks.Goals as goal

pub returns-clause-bytes : goal.returns-clause-bytes
returns-clause-bytes c = bytes_shown

pub returns-clause-comments : goal.returns-clause-comments
returns-clause-comments c = comment_is_blank

pub returns-clause-no_end : goal.returns-clause-no_end
returns-clause-no_end c = open_comment_is_blank

pub returns-clause-continued : goal.returns-clause-continued
returns-clause-continued c = newline_is_blank

pub returns-clause-carriage : goal.returns-clause-carriage
returns-clause-carriage c = carriage_is_blank

pub returns-clause-quoted : goal.returns-clause-quoted
returns-clause-quoted c = quoted_stays

pub returns-clause-others : goal.returns-clause-others
returns-clause-others c = other_stays
