-- The reader's kinds of words and of bytes, as the grammar of words has them. This project's own.
-- Each function says for a value of the code what it is in the grammar.
use Rattle.std.specs.Prelude.{◌==◌, ℕ, Bool, List, not}
use Rattle.std.specs.Str.{IsCharBoundary}
use Rattle.text_model.specs.Bytes.{is_name_byte, is_space}
use Rattle.tcl_model.specs.Pieces as grammar
use Rattle.tcl_words.specs.declared.runs.Form.{Form}
use Rattle.tcl_words.specs.declared.runs.Form.TheVariants.{Bare, Braced, Quoted}
use Rattle.tcl_words.specs.declared.runs.Run.{Run}
use Rattle.tcl_words.specs.declared.runs.Run.TheVariants.{BeforeBrace, Name, Plain, Spaces}

-- the form of a word
abbrev pub form_of : Form → grammar.Form
form_of Braced = grammar.braced
form_of Quoted = grammar.quoted
form_of Bare = grammar.bare

-- the test that the bytes of a kind pass
abbrev pub test_of : Run → ℕ → Bool
test_of Spaces = is_space
test_of Name = is_name_byte
test_of BeforeBrace = λ b. not (b == 125)
test_of (Plain form) = grammar.is_itself (form_of form)

-- where all bytes of a kind's outside are ASCII, a run of the kind cuts no character at its end, wherever it begins
abbrev pub CutsAfter : Run → List ℕ → ℕ → Type 0
CutsAfter Spaces text to = Unit {0}
CutsAfter Name text to = Unit {0}
CutsAfter BeforeBrace text to = IsCharBoundary text to
CutsAfter (Plain form) text to = IsCharBoundary text to
