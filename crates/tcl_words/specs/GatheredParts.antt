-- What the reader gathered of a word, as the grammar of words has it. This project's own.
-- Its fields are those of the grammar's record of the same name.
use Rattle.std.specs.Prelude.{[]}
use Rattle.tcl_model.specs.WordParts as grammar
use Rattle.tcl_words.specs.declared.gathered.Gathered.{Gathered}

abbrev pub gathered_of : Gathered → grammar.Gathered
gathered_of gathered = record { parts = gathered.parts; pending = gathered.pending }

-- nothing so far
abbrev pub no_parts : grammar.Gathered
no_parts = record { parts = []; pending = [] }
