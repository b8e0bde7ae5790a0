-- Kinds of bytes that the grammars here tell apart, and lines of a text. Tcl's.
-- A byte is a number; each test says true of the bytes that it is named for.
use Rattle.std.specs.Prelude.{◌+◌, ◌-◌, ◌^◌, ◌==◌, ◌||◌, ◌&&◌, ℕ, Bool, false, List, [], ◌∷◌, length, min, nat_le, take, if◌then◌else◌}
use Rattle.std.specs.List.{list_all}

-- `A` to `Z` and `a` to `z`
abbrev pub is_letter : ℕ → Bool
is_letter b = (nat_le 65 b && nat_le b 90) || (nat_le 97 b && nat_le b 122)

-- `0` to `9`
abbrev pub is_digit : ℕ → Bool
is_digit b = nat_le 48 b && nat_le b 57

-- a letter, a digit or `_`
abbrev pub is_name_byte : ℕ → Bool
is_name_byte b = is_letter b || is_digit b || b == 95

-- a space or a tab
abbrev pub is_blank : ℕ → Bool
is_blank b = b == 32 || b == 9

-- a space, a tab or a carriage return: what parts words
abbrev pub is_space : ℕ → Bool
is_space b = is_blank b || b == 13

-- a newline or `;`: what ends a command
abbrev pub is_end : ℕ → Bool
is_end b = b == 10 || b == 59

-- a byte after which a word may begin inside brackets: `[`, a space or an end
abbrev pub leads_word : ℕ → Bool
leads_word b = b == 91 || is_space b || is_end b

-- a byte that is a part of an index: a digit, `*`, `?` or `:`
abbrev pub is_index_byte : ℕ → Bool
is_index_byte b = is_digit b || b == 42 || b == 63 || b == 58

-- a text that is an index: of such bytes alone, one at least
abbrev pub is_index : List ℕ → Bool
is_index [] = false
is_index (b ∷ bs) = list_all is_index_byte (b ∷ bs)

-- the text begins with the byte
abbrev pub begins_with : ℕ → List ℕ → Bool
begins_with byte [] = false
begins_with byte (b ∷ bs) = b == byte

-- the bytes at the front of a text that pass a test, and the text after them
unfoldable pub front : (ℕ → Bool) → List ℕ → List ℕ
front test [] = []
front test (b ∷ bs) = if test b then b ∷ front test bs else []

unfoldable pub after : (ℕ → Bool) → List ℕ → List ℕ
after test [] = []
after test (b ∷ bs) = if test b then after test bs else b ∷ bs

-- what stands in a text before a text that ends it
abbrev pub before : List ℕ → List ℕ → List ℕ
before text rest = take (length text - length rest) text

-- the last line number; lines that would pass it stay there
abbrev pub last_line : ℕ
last_line = 2 ^ 32 - 1

-- the line after a text that begins on a line
abbrev pub line_after : List ℕ → ℕ → ℕ
line_after [] line = line
line_after (b ∷ bs) line = line_after bs (if b == 10 then min (line + 1) last_line else line)
