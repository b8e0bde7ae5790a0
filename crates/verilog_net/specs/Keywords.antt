-- The kind of a word by a table of keywords. This project's own words, so that one loop finds it.
-- It reads: the first row of the word gives its kind, and a word without a row is a name.
use Rattle.std.specs.Prelude.{ℕ, List, [], ◌∷◌, if◌then◌else◌}
use Rattle.std.specs.Borrow.{Bor}
use Rattle.source_types.specs.declared.verilog_tokens.VerilogToken.{VerilogToken}
use Rattle.source_types.specs.declared.verilog_tokens.VerilogToken.TheVariants as kind
use Rattle.text_model.specs.Words.{same_text}

-- the rows of a table, their words as texts
abbrev pub rows_seen : List (Bor (List ℕ) × VerilogToken) → List (List ℕ × VerilogToken)
rows_seen [] = []
rows_seen (row ∷ rows) = (row.0.now, row.1) ∷ rows_seen rows

-- the kind of a word
abbrev pub kind_of : List (List ℕ × VerilogToken) → List ℕ → VerilogToken
kind_of [] word = kind.Name
kind_of (row ∷ rows) word = if same_text word row.0 then row.1 else kind_of rows word
