-- The pieces that a word is made of (Tcl): bytes that stand for themselves, what a backslash stands for, variables
-- and scripts, and where a word of a form ends. It reads: at the front of a text stands a piece with the text
-- after it, or the end of the word, or a fault.
use Rattle.std.specs.Prelude.{◌==◌, ◌||◌, ◌++◌, ℕ, Bool, false, not, List, [], ◌∷◌, Option, Some, None, Result, Ok, Err, if◌then◌else◌}
use Rattle.source_types.specs.declared.commands.Part.{Part}
use Rattle.source_types.specs.declared.commands.Part.TheVariants.{Script, Variable}
use Rattle.source_types.specs.declared.kinds.TclKind.{TclKind}
use Rattle.source_types.specs.declared.kinds.TclKind.TheVariants.{BadWord, Unclosed}
use Rattle.text_model.specs.Bytes.{before, begins_with, after, front, is_end, is_name_byte, is_space}
use Rattle.text_model.specs.Continued.{after_continued, continues}
use Rattle.text_model.specs.Enclosed.{after_bracket}
use Rattle.text_model.specs.Row.{Front, found, stops}

-- the forms of a word: what stands in braces, in quotes, or bare
pub data Form : Type 0 where
  braced : Form
  quoted : Form
  bare : Form

-- a piece: some text, or a part that is none
pub data Piece : Type 0 where
  text : List ℕ → Piece
  other : Part → Piece

-- what stands at the front of a text: a piece, or the end of the word with the text after it, or a fault
abbrev pub PieceFront : Type 0
PieceFront = Front Piece (List ℕ) (Result (List ℕ) TclKind)

-- a byte that ends a word; none ends a braced one, which is read without its closing brace
abbrev pub ends_word : Form → ℕ → Bool
ends_word braced b = false
ends_word quoted b = b == 34
ends_word bare b = is_space b || is_end b

-- a byte that begins a substitution
abbrev pub substitutes : Form → ℕ → Bool
substitutes braced b = false
substitutes quoted b = b == 36 || b == 91
substitutes bare b = b == 36 || b == 91

-- a byte that stands for itself
abbrev pub is_itself : Form → ℕ → Bool
is_itself form b = not (ends_word form b || b == 92 || substitutes form b)

-- some text with the bytes after it that stand for themselves
abbrev pub with_run : Form → List ℕ → List ℕ → PieceFront
with_run form bytes rest = found (text (bytes ++ front (is_itself form) rest)) (after (is_itself form) rest)

-- after a backslash that continues the line: one blank, and the end of a bare word
abbrev pub continued : Form → List ℕ → PieceFront
continued braced rest = found (text (32 ∷ [])) (after_continued rest)
continued quoted rest = found (text (32 ∷ [])) (after_continued rest)
continued bare rest = stops (Ok (92 ∷ rest))

-- after a backslash and before a byte: a newline, a tab, or the byte; in braces both stay
abbrev pub escaped : Form → ℕ → List ℕ → PieceFront
escaped braced b rest = with_run braced (92 ∷ (b ∷ [])) rest
escaped form b rest =
    if b == 110 then found (text (10 ∷ [])) rest else (if b == 116 then found (text (9 ∷ [])) rest else with_run form (b ∷ []) rest)

-- after a backslash
abbrev pub after_backslash : Form → List ℕ → PieceFront
after_backslash form [] = found (text (92 ∷ [])) []
after_backslash form (b ∷ bs) = if continues (b ∷ bs) then continued form (b ∷ bs) else escaped form b bs

-- `${name}`, the name before the closing brace and the text from it on
abbrev pub braced_variable : List ℕ → List ℕ → PieceFront
braced_variable name [] = stops (Err Unclosed)
braced_variable name (b ∷ bs) = found (other (Variable name)) bs

-- after `$` where no name stands: `{` opens one, and else it is itself
abbrev pub plain_dollar : List ℕ → PieceFront
plain_dollar [] = found (text (36 ∷ [])) []
plain_dollar (b ∷ bs) =
    if b == 123 then braced_variable (front (λ c. not (c == 125)) bs) (after (λ c. not (c == 125)) bs)
    else found (text (36 ∷ [])) (b ∷ bs)

-- after `$`, the name there and the text after the name; an element of an array is not read
abbrev pub after_dollar : List ℕ → List ℕ → PieceFront
after_dollar [] rest = plain_dollar rest
after_dollar (b ∷ bs) rest = if begins_with 40 rest then stops (Err BadWord) else found (other (Variable (b ∷ bs))) rest

-- after `[`, and the text after the bracket
abbrev pub after_opening : List ℕ → Option (List ℕ) → PieceFront
after_opening inside None = stops (Err Unclosed)
after_opening inside (Some rest) = found (other (Script (before inside (93 ∷ rest)))) rest

-- after `$` or `[`
abbrev pub substituted : ℕ → List ℕ → PieceFront
substituted b rest =
    if b == 36 then after_dollar (front is_name_byte rest) (after is_name_byte rest)
    else after_opening rest (after_bracket rest)

-- the end of the text, and of the word where it needs no other
abbrev pub at_text_end : Form → PieceFront
at_text_end quoted = stops (Err Unclosed)
at_text_end form = stops (Ok [])

-- the end of a word: a closing quote belongs to it
abbrev pub at_word_end : Form → ℕ → List ℕ → PieceFront
at_word_end quoted b bs = stops (Ok bs)
at_word_end form b bs = stops (Ok (b ∷ bs))

-- what stands at the front of a text
unfoldable pub piece_at : Form → List ℕ → PieceFront
piece_at form [] = at_text_end form
piece_at form (b ∷ bs) =
    if ends_word form b then at_word_end form b bs
    else (if b == 92 then after_backslash form bs
    else (if substitutes form b then substituted b bs
    else with_run form (b ∷ []) bs))
