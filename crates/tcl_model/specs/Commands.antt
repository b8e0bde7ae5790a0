-- The grammar of commands (Tcl), as relations between a text, its first command and the rest. Commands end at a
-- newline or `;` or with the text; words are parted by spaces and continued lines; a word is braced, quoted or bare.
-- What Unclosed, ExtraAfterBrace and BadWord are, is told with the forms of words; each has the line where the
-- command begins.
use Rattle.std.specs.Prelude.{◌≡◌, ◌<◌, ◌≤◌, ◌++◌, ◌||◌, ◌&&◌, ◌==◌, ℕ, Bool, true, false, List, [], ◌∷◌, length, drop, Option, Some, None, Result, Ok, Err, if◌then◌else◌}
use Rattle.sdc_base.specs.declared.memory.At.{At}
use Rattle.source_types.specs.declared.commands.Command.{Command}
use Rattle.source_types.specs.declared.commands.Word.{Word}
use Rattle.source_types.specs.declared.commands.Next.{Next}
use Rattle.source_types.specs.declared.kinds.TclKind.{TclKind}
use Rattle.source_types.specs.declared.kinds.TclKind.TheVariants.{ExtraAfterBrace, Unclosed}
use Rattle.text_model.specs.Bytes.{before, is_end, is_space, line_after}
use Rattle.text_model.specs.Continued.{after_gap, continues, from_command, parting}
use Rattle.text_model.specs.Enclosed.{after_brace}
use Rattle.text_model.specs.Row.{Front, Row, found, stops}
use Rattle.tcl_model.specs.Pieces.{Form, Piece, bare, braced, quoted, piece_at}
use Rattle.tcl_model.specs.WordParts.{word_of_pieces}

-- ---- words

-- these pieces stand in a row in a word of a form, and the word ends with this text after it, or has a fault
abbrev pub ArePieces : Form → List Piece → List ℕ → Result (List ℕ) TclKind → Type 0
ArePieces form pieces text end = Row (λ place stands. piece_at form place ≡ stands) pieces text end

-- what stands at the front of a text: a word, or the end of the command, or a fault
abbrev pub WordFront : Type 0
WordFront = Front Word (List ℕ) (Result (List ℕ) TclKind)

-- a word may end before this text
abbrev pub may_follow : List ℕ → Bool
may_follow [] = true
may_follow (b ∷ bs) = is_space b || is_end b || (b == 92 && continues bs)

-- a word of these pieces that has its end: a bare one, and one that a brace or quote closed
abbrev pub ended_bare : List Piece → Result (List ℕ) TclKind → WordFront
ended_bare pieces (Ok rest) = found (word_of_pieces pieces) rest
ended_bare pieces (Err kind) = stops (Err kind)

abbrev pub ended_closed : List Piece → Result (List ℕ) TclKind → WordFront
ended_closed pieces (Ok rest) = if may_follow rest then found (word_of_pieces pieces) rest else stops (Err ExtraAfterBrace)
ended_closed pieces (Err kind) = stops (Err kind)

-- a braced word: the text after the opening brace, and the text after the closing one
abbrev pub IsBraced : List ℕ → Option (List ℕ) → WordFront → Type 0
IsBraced text None front = front ≡ stops (Err Unclosed)
IsBraced text (Some rest) front =
    (pieces : List Piece) × ArePieces braced pieces (before text (125 ∷ rest)) (Ok []) × (front ≡ ended_closed pieces (Ok rest))

-- a quoted word, from the text after the opening quote
abbrev pub IsQuoted : List ℕ → WordFront → Type 0
IsQuoted text front = (pieces : List Piece) × (end : Result (List ℕ) TclKind) × ArePieces quoted pieces text end × (front ≡ ended_closed pieces end)

-- a bare word, from its first byte on
abbrev pub IsBare : List ℕ → WordFront → Type 0
IsBare text front = (pieces : List Piece) × (end : Result (List ℕ) TclKind) × ArePieces bare pieces text end × (front ≡ ended_bare pieces end)

-- how a text goes on after a gap: with the end of the command, or with a word of a form
pub data Opening : Type 0 where
  command_end : Opening
  brace_opens : List ℕ → Opening
  quote_opens : List ℕ → Opening
  bare_opens : Opening

abbrev pub opening : List ℕ → Opening
opening [] = command_end
opening (b ∷ bs) =
    if is_end b then command_end
    else (if b == 123 then brace_opens bs
    else (if b == 34 then quote_opens bs
    else bare_opens))

abbrev pub IsWordOf : Opening → List ℕ → WordFront → Type 0
IsWordOf command_end text front = front ≡ stops (Ok text)
IsWordOf (brace_opens inside) text front = IsBraced inside (after_brace inside) front
IsWordOf (quote_opens inside) text front = IsQuoted inside front
IsWordOf bare_opens text front = IsBare text front

-- what stands at the front of a text, after a gap
abbrev pub StandsWord : List ℕ → WordFront → Type 0
StandsWord text front = IsWordOf (opening (after_gap false text)) (after_gap false text) front

-- these words stand in a row, and the command ends before this text, or has a fault
abbrev pub AreWords : List Word → List ℕ → Result (List ℕ) TclKind → Type 0
AreWords words text end = Row StandsWord words text end

-- a word and how it is spelled wherever a word may stand: so not as a comment or a gap begins
pub record IsWord (word : Word) (spelling : List ℕ) : Type 0 where
  pub some : 0 < length spelling
  pub first : (rest : List ℕ) → may_follow rest ≡ true → from_command parting (spelling ++ rest) ≡ spelling ++ rest
  pub stands : (rest : List ℕ) → may_follow rest ≡ true → StandsWord (spelling ++ rest) (found word rest)

-- ---- commands

-- a text, and the line where it begins
pub record Place : Type 0 where
  pub text : List ℕ
  pub line : ℕ

-- what stands at a place: a command with the place after it, or none, or a fault
abbrev pub CommandFront : Type 0
CommandFront = Front Command Place (Option (At TclKind))

-- the command of these words, from where it begins
abbrev pub ended_command : Place → List Word → Result (List ℕ) TclKind → CommandFront
ended_command place words (Ok rest) =
    found (record { line = place.line; words = words }) (record { text = rest; line = line_after (before place.text rest) place.line })
ended_command place words (Err kind) = stops (Some (record { line = place.line; kind = kind }))

-- the place where the first command begins, after what parts commands
abbrev pub command_place : Place → Place
command_place place =
    let text = from_command parting place.text in record { text = text; line = line_after (before place.text text) place.line }

-- a command that begins here, or none at the end of the text
abbrev pub IsCommand : List ℕ → Place → CommandFront → Type 0
IsCommand [] place front = front ≡ stops None
IsCommand (b ∷ bs) place front =
    (words : List Word) × (end : Result (List ℕ) TclKind) × AreWords words place.text end × (front ≡ ended_command place words end)

-- what stands at or after a place
abbrev pub StandsCommand : Place → CommandFront → Type 0
StandsCommand place front = IsCommand (from_command parting place.text) (command_place place) front

-- the first command of a text that begins on a line, the text after the command, and the line there
abbrev pub IsFirst : List ℕ → ℕ → Command → List ℕ → ℕ → Type 0
IsFirst text line command rest line_past =
    StandsCommand (record { text = text; line = line }) (found command (record { text = rest; line = line_past }))

-- what stands at or after a place of a text: a first command with its end, none, or a fault
abbrev pub FirstFrom : List ℕ → ℕ → ℕ → Result (Option Next) (At TclKind) → Type 0
FirstFrom text from line (Ok None) = StandsCommand (record { text = drop from text; line = line }) (stops None)
FirstFrom text from line (Ok (Some next)) =
    IsFirst (drop from text) line next.command (drop next.end text) next.line × (from ≤ next.end) × (next.end ≤ length text)
FirstFrom text from line (Err fault) = StandsCommand (record { text = drop from text; line = line }) (stops (Some fault))

-- the commands of a text that begins on a line, all of them
abbrev pub AreCommands : List Command → List ℕ → ℕ → Type 0
AreCommands commands text line = Row StandsCommand commands (record { text = text; line = line }) None

-- what a whole text gives: all its commands, or the first fault after those that stand
abbrev pub Splits : List ℕ → Result (List Command) (At TclKind) → Type 0
Splits text (Ok commands) = AreCommands commands text 1
Splits text (Err fault) = (commands : List Command) × Row StandsCommand commands (record { text = text; line = 1 }) (Some fault)
