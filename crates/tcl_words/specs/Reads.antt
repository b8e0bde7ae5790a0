-- What stands at a place of a text: the pieces of a word, a word, the words of a command. This project's own words for
-- what the reader of commands finds, over the grammar of commands. Each says what was read, and where it ends.
use Rattle.std.specs.Prelude.{◌≡◌, ◌<◌, ◌≤◌, ◌||◌, ◌&&◌, ◌==◌, ◌⊎◌, ℕ, Bool, false, not, List, [], ◌∷◌, drop, length, Result, Ok, Err}
use Rattle.std.specs.Str.{IsCharBoundary}
use Rattle.source_types.specs.declared.commands.Word.{Word}
use Rattle.source_types.specs.declared.kinds.TclKind.{TclKind}
use Rattle.text_model.specs.Bytes.{is_end, is_space}
use Rattle.tcl_model.specs.Commands.{ArePieces, AreWords, IsWordOf, opening}
use Rattle.text_model.specs.Continued.{continues}
use Rattle.tcl_model.specs.Pieces as grammar
use Rattle.text_model.specs.Row.{found, stops}
use Rattle.tcl_model.specs.WordParts.{word_of_pieces}
use Rattle.tcl_words.specs.declared.reader.Words.{Words}
use Rattle.tcl_words.specs.declared.runs.Form.{Form}
use Rattle.tcl_words.specs.declared.spelled.Spelled.{Spelled}
use Rattle.tcl_words.specs.Forms.{form_of}

-- the pieces of a word stand from a place to its end
pub record PiecesTo (form : Form) (text : List ℕ) (from : ℕ) (spelled : Spelled) : Type 0 where
  pub pieces : List grammar.Piece
  pub row : ArePieces (form_of form) pieces (drop from text) (Ok (drop spelled.end text))
  pub word : spelled.word ≡ word_of_pieces pieces
  pub within : spelled.end ≤ length text
  pub forward : from ≤ spelled.end
  pub further : (pieces ≡ []) ⊎ (from < spelled.end)
  pub boundary : IsCharBoundary text spelled.end

-- what stands from a place: the pieces of a word, or a fault of it
abbrev pub PiecesFrom : Form → List ℕ → ℕ → Result Spelled TclKind → Type 0
PiecesFrom form text from (Ok spelled) = PiecesTo form text from spelled
PiecesFrom form text from (Err kind) = (pieces : List grammar.Piece) × ArePieces (form_of form) pieces (drop from text) (Err kind)

-- a text begins with a byte of a word
abbrev pub starts : List ℕ → Bool
starts [] = false
starts (b ∷ bs) = not (is_space b || is_end b || (b == 92 && continues bs))

-- a word begins at a place
pub record WordAt (text : List ℕ) (from : ℕ) (spelled : Spelled) : Type 0 where
  pub stands : IsWordOf (opening (drop from text)) (drop from text) (found spelled.word (drop spelled.end text))
  pub forward : from < spelled.end
  pub within : spelled.end ≤ length text
  pub boundary : IsCharBoundary text spelled.end

-- what begins at a place: a word, or a fault of it
abbrev pub WordFrom : List ℕ → ℕ → Result Spelled TclKind → Type 0
WordFrom text from (Ok spelled) = WordAt text from spelled
WordFrom text from (Err kind) = IsWordOf (opening (drop from text)) (drop from text) (stops (Err kind))

-- the words of a command stand from a place to its end
pub record WordsTo (text : List ℕ) (from : ℕ) (read : Words) : Type 0 where
  pub row : AreWords read.words (drop from text) (Ok (drop read.end text))
  pub within : read.end ≤ length text
  pub forward : from < read.end
  pub boundary : IsCharBoundary text read.end

-- what stands from a place: the words of a command, or a fault of one
abbrev pub WordsFrom : List ℕ → ℕ → Result Words TclKind → Type 0
WordsFrom text from (Ok read) = WordsTo text from read
WordsFrom text from (Err kind) = (words : List Word) × AreWords words (drop from text) (Err kind)
