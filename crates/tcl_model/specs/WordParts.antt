-- The parts of a word from its pieces (Tcl): neighbouring texts are one part, and a word of no piece is the empty text.
use Rattle.std.specs.Prelude.{ℕ, List, [], ◌∷◌, ◌++◌}
use Rattle.source_types.specs.declared.commands.Part.{Part}
use Rattle.source_types.specs.declared.commands.Part.TheVariants.{Text}
use Rattle.source_types.specs.declared.commands.Word.{Word}
use Rattle.tcl_model.specs.Pieces.{Piece, text, other}

-- the parts that are whole, and the text after them so far
pub record Gathered : Type 0 where
  pub parts : List Part
  pub pending : List ℕ

-- the parts, with a text after them; an empty text adds none
abbrev pub with_text : List Part → List ℕ → List Part
with_text parts [] = parts
with_text parts (b ∷ bs) = parts ++ Text (b ∷ bs) ∷ []

-- one more piece
abbrev pub with_piece : Gathered → Piece → Gathered
with_piece so_far (text bytes) = record so_far { pending = so_far.pending ++ bytes }
with_piece so_far (other part) = record { parts = with_text so_far.parts so_far.pending ++ part ∷ []; pending = [] }

abbrev pub with_pieces : Gathered → List Piece → Gathered
with_pieces so_far [] = so_far
with_pieces so_far (piece ∷ pieces) = with_pieces (with_piece so_far piece) pieces

-- all parts
abbrev pub all_parts : List Part → List ℕ → List Part
all_parts [] pending = Text pending ∷ []
all_parts (part ∷ parts) pending = with_text (part ∷ parts) pending

-- the word of what was gathered, and of pieces
abbrev pub word_of : Gathered → Word
word_of so_far = record { parts = all_parts so_far.parts so_far.pending }

abbrev pub word_of_pieces : List Piece → Word
word_of_pieces pieces = word_of (with_pieces (record { parts = []; pending = [] }) pieces)
