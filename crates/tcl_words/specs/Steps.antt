-- What stands at a place of a word, as the grammar has it: a piece with the place after it, the end of the word, or
-- a fault. This project's own words for what the reader of pieces finds.
use Rattle.std.specs.Prelude.{◌≡◌, ◌<◌, ◌≤◌, ◌-◌, ◌+◌, ◌==◌, if◌then◌else◌, ℕ, List, [], ◌∷◌, Result, Ok, Err, drop, length, take}
use Rattle.source_types.specs.declared.commands.Part.TheVariants as part
use Rattle.source_types.specs.declared.kinds.TclKind.{TclKind}
use Rattle.tcl_model.specs.Pieces as grammar
use Rattle.text_model.specs.Row.{found, stops}
use Rattle.tcl_words.specs.declared.pieces.Kind.{Kind}
use Rattle.tcl_words.specs.declared.pieces.Kind.TheVariants.{Blank, Newline, Script, Tab, Text, Variable}
use Rattle.tcl_words.specs.declared.pieces.Piece.{Piece}
use Rattle.tcl_words.specs.declared.pieces.Step.{Step}
use Rattle.tcl_words.specs.declared.pieces.Step.TheVariants.{Ends, Found}
use Rattle.tcl_words.specs.declared.runs.Form.{Form}
use Rattle.tcl_words.specs.declared.runs.Form.TheVariants.{Bare, Braced, Quoted}
use Rattle.tcl_words.specs.Spans.{Keeps}

-- the bytes between two places
abbrev pub between : List ℕ → ℕ → ℕ → List ℕ
between text from to = take (to - from) (drop from text)

-- what a kind of piece and its bytes stand for
abbrev pub of_kind : Kind → List ℕ → grammar.Piece
of_kind Text bytes = grammar.text bytes
of_kind Newline bytes = grammar.text (10 ∷ [])
of_kind Tab bytes = grammar.text (9 ∷ [])
of_kind Blank bytes = grammar.text (32 ∷ [])
of_kind Variable name = grammar.other (part.Variable name)
of_kind Script script = grammar.other (part.Script script)

abbrev pub piece_of : List ℕ → Piece → grammar.Piece
piece_of text piece = of_kind piece.kind (between text piece.from piece.to)

-- the places of a piece are in order and cut no character
pub record Lies (text : List ℕ) (at : ℕ) (piece : Piece) : Type 0 where
  pub forward : at < piece.next
  pub within : piece.next ≤ length text
  pub order : piece.from ≤ piece.to
  pub inside : piece.to ≤ length text
  pub keeps_from : Keeps text at piece.from
  pub keeps_to : Keeps text at piece.to
  pub keeps_next : Keeps text at piece.next

-- what the grammar has in front is what was found at a place
abbrev pub StepAt : grammar.PieceFront → List ℕ → ℕ → Result Step TclKind → Type 0
StepAt front text at (Ok (Found piece)) = (front ≡ found (piece_of text piece) (drop piece.next text)) × Lies text at piece
StepAt front text at (Ok (Ends to)) = (front ≡ stops (Ok (drop to text))) × (at ≤ to) × (to ≤ length text) × Keeps text at to
StepAt front text at (Err kind) = front ≡ stops (Err kind)

-- the place after a word that a byte at a place ends
abbrev pub end_of : Form → ℕ → ℕ
end_of Braced at = at
end_of Quoted at = at + 1
end_of Bare at = at

-- a byte after a backslash, outside braces
abbrev pub escaped_outside : grammar.Form → ℕ → List ℕ → grammar.PieceFront
escaped_outside form b rest =
    if b == 110 then found (grammar.text (10 ∷ [])) rest
    else (if b == 116 then found (grammar.text (9 ∷ [])) rest
    else grammar.with_run form (b ∷ []) rest)
