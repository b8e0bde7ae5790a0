-- What the reader of an expression's operands finds at a place of a text, as the grammar of its tokens has it. This
-- project's own. A malformed operand is one fault of the expression, whatever is wrong in it.
use Rattle.std.specs.Prelude.{◌≡◌, ◌<◌, ◌≤◌, ℕ, List, [], ◌∷◌, drop, length, Result, Ok, Err}
use Rattle.std.specs.Str.{IsCharBoundary}
use Rattle.sdc_base.specs.declared.memory.Stop.{Stop}
use Rattle.sdc_base.specs.declared.memory.Stop.TheVariants.{NoMemory, Refused}
use Rattle.source_types.specs.declared.expressions.ExpressionToken.TheVariants as token
use Rattle.source_types.specs.declared.kinds.TclKind.{TclKind}
use Rattle.source_types.specs.declared.kinds.TclKind.TheVariants.{BadExpr}
use Rattle.tcl_model.specs.ExpressionTokens.{TokenFront, malformed}
use Rattle.text_model.specs.Row.{found, stops}
use Rattle.tcl_model.specs.WordParts.{word_of_pieces}
use Rattle.tcl_words.specs.declared.pieces.Piece.{Piece}
use Rattle.tcl_words.specs.declared.spelled.Spelled.{Spelled}
use Rattle.tcl_words.specs.Steps.{piece_of}

abbrev pub IsFront : TokenFront → TokenFront → Type 0
IsFront is front = front ≡ is

-- the word that was found is what the grammar has in front, or it has none
abbrev pub OperandAt : (TokenFront → Type 0) → List ℕ → ℕ → Result Spelled TclKind → Type 0
OperandAt Stands text from (Ok spelled) =
    Stands (found (token.Word spelled.word) (drop spelled.end text)) × (from < spelled.end) × (spelled.end ≤ length text)
    × IsCharBoundary text spelled.end
OperandAt Stands text from (Err kind) = (kind ≡ BadExpr) × Stands (stops malformed)

-- a fault inside an operand is one of the expression
abbrev pub as_malformed : Stop TclKind → Stop TclKind
as_malformed (Refused kind) = Refused BadExpr
as_malformed NoMemory = NoMemory

-- the word of a piece, and the place after it
abbrev pub IsOnePiece : List ℕ → Piece → Result Spelled TclKind → Type 0
IsOnePiece text piece (Ok spelled) = (spelled.word ≡ word_of_pieces (piece_of text piece ∷ [])) × (spelled.end ≡ piece.next)
IsOnePiece text piece (Err kind) = ⊥
