use Rattle.tcl_laws.proofs.PartedWords.{carriage_parts, newline_parts, space_parts, word_begins}
use Rattle.tcl_laws.proofs.parted_texts.blanks_and_continued_lines_part_words.Goals as goal

pub returns-clause-spaces : goal.returns-clause-spaces
returns-clause-spaces c = space_parts

pub returns-clause-newline : goal.returns-clause-newline
returns-clause-newline c = newline_parts

pub returns-clause-carriage : goal.returns-clause-carriage
returns-clause-carriage c = carriage_parts

pub returns-clause-word : goal.returns-clause-word
returns-clause-word c = word_begins
