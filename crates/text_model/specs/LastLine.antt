-- Lines of a text where it is no text, and where it ends. This project's own rule for the line of a fault.
-- A newline belongs to the line that it ends; lines count from 1.
use Rattle.std.specs.Prelude.{◌-◌, ℕ, List, length, take}
use Rattle.std.specs.Str.Lossy.{utf8_valid_len}
use Rattle.text_model.specs.Bytes.{line_after}

-- the line of the last byte of a text that begins on a line, or that line where the text is empty
abbrev pub last_line_of : List ℕ → ℕ → ℕ
last_line_of text line = line_after (take (length text - 1) text) line

-- the line of the first byte that is no UTF-8
abbrev pub broken_text_line : List ℕ → ℕ
broken_text_line bytes = line_after (take (utf8_valid_len bytes) bytes) 1
