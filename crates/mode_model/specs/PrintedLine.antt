-- The lines of a printed constraint file, each a list of words: how words, lines and lists of names are spelled in
-- bytes, in the part of Tcl that this project writes. Which words stand bare is its own rule.
-- A word is given by what stands in it; a line has one blank between two words and a newline at its end.
use Rattle.std.specs.Prelude.{ℕ, Bool, List, [], ◌∷◌, ◌++◌, ◌==◌, ◌||◌, ◌&&◌, length, map, codes, nat_lt, if◌then◌else◌}
use Rattle.std.specs.List.{list_all, concat, join_with_byte}
use Rattle.text_model.specs.Bytes.{is_name_byte}

-- a word of a printed line, by its text: bare, in braces, or a script in brackets
pub data PrintedWord : Type 0 where
  bare : List ℕ → PrintedWord
  braced : List ℕ → PrintedWord
  bracketed : List ℕ → PrintedWord

-- the bytes of a word
abbrev pub spelled : PrintedWord → List ℕ
spelled (bare text) = text
spelled (braced text) = codes "{" ++ (text ++ codes "}")
spelled (bracketed script) = codes "[" ++ (script ++ codes "]")

-- texts with a blank between each two
abbrev pub spaced : List (List ℕ) → List ℕ
spaced texts = join_with_byte 32 texts

-- the bytes of words in a row, of a line, and of lines
abbrev pub words_text : List PrintedWord → List ℕ
words_text words = spaced (map spelled words)

abbrev pub line_text : List PrintedWord → List ℕ
line_text words = words_text words ++ codes "\n"

abbrev pub lines_text : List (List PrintedWord) → List ℕ
lines_text lines = concat (map line_text lines)

-- a byte of a name or a number that may stand bare: a letter, a digit, or one of `_ . / + - : , =`
abbrev pub is_bare_byte : ℕ → Bool
is_bare_byte b =
    is_name_byte b || b == 46 || b == 47 || b == 43 || b == 45 || b == 58 || b == 44 || b == 61

-- one or more such bytes
abbrev pub is_bare_text : List ℕ → Bool
is_bare_text text = nat_lt 0 (length text) && list_all is_bare_byte text

-- a name outside a list: bare where it may be, else in braces
unfoldable pub name_word : List ℕ → PrintedWord
name_word name = if is_bare_text name then bare name else braced name

-- names in a list
abbrev pub list_word : List (List ℕ) → PrintedWord
list_word names = braced (spaced names)

-- a query for the objects of these names, by its command (SDC 2.1, `get_clocks` and the like)
abbrev pub query_word : List ℕ → List (List ℕ) → PrintedWord
query_word command names = bracketed (words_text (bare command ∷ list_word names ∷ []))
