-- What the reader of characters does: what it has of a text, and what one byte adds. This project's own words.
-- The characters are those of the definitions (`characters`), here as their bytes and their lines.
use Rattle.std.specs.Prelude.{◌≡◌, ◌++◌, ℕ, List, [], ◌∷◌, map, Option, Some, None}
use Rattle.library_model.specs.LibertyTokens.{Character, bytes_of, characters, plain, shown, within_at_end, within_after}
use Rattle.lib_cells.specs.declared.scanning.characters.Characters.{Characters}
use Rattle.lib_cells.specs.Seen.{within_seen}

abbrev pub as_list : Option ℕ → List ℕ
as_list None = []
as_list (Some byte) = byte ∷ []

abbrev pub lines_of : List Character → List ℕ
lines_of = map (λ (c : Character). c.line)

-- these are the bytes and the lines of characters
pub record Shows (bytes lines : List ℕ) (cs : List Character) : Type 0 where
  pub bytes_are : bytes_of cs ≡ bytes
  pub lines_are : lines_of cs ≡ lines

abbrev pub on_line : ℕ → List ℕ → List ℕ
on_line line bytes = map (λ (byte : ℕ). line) bytes

-- a byte on a line was added, given the text after it
pub record IsAdded (before after : Characters) (byte : ℕ) (rest : List ℕ) (line : ℕ) : Type 0 where
  pub bytes_are : after.bytes ≡ before.bytes ++ shown (within_seen before.within) byte rest
  pub lines_are : after.lines ≡ before.lines ++ on_line line (shown (within_seen before.within) byte rest)
  pub within_is : within_seen after.within ≡ within_after (within_seen before.within) byte rest

-- these are the characters of a text
pub record AreCharacters (text : List ℕ) (found : Characters) : Type 0 where
  pub shows : Shows found.bytes found.lines (characters plain 1 text)
  pub within_is : within_at_end plain text ≡ within_seen found.within
