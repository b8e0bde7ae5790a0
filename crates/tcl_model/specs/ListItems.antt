-- The grammar of lists (Tcl), as relations between a text, its items and the fault that ends them. Items are parted by
-- spaces, newlines and continued lines. Braces, quotes and backslashes act in an item as in a word of a command, while
-- `$`, `[`, `]`, `;` and `#` stand for themselves. It reads: the items stand in a row, and the text ends, or one
-- breaks.
use Rattle.std.specs.Prelude.{◌≡◌, ◌++◌, ◌||◌, ◌&&◌, ◌==◌, ℕ, Bool, true, false, List, [], ◌∷◌, Option, Some, None, Result, Ok, Err, if◌then◌else◌}
use Rattle.source_types.specs.declared.kinds.TclKind.{TclKind}
use Rattle.source_types.specs.declared.kinds.TclKind.TheVariants.{ExtraAfterBrace, Unclosed}
use Rattle.text_model.specs.Bytes.{before, is_space}
use Rattle.text_model.specs.Continued.{continues}
use Rattle.text_model.specs.Enclosed.{after_brace}
use Rattle.tcl_model.specs.Pieces.{Form, Piece, PieceFront, at_text_end, at_word_end, bare, after_backslash, braced, other, quoted, text, with_run}
use Rattle.text_model.specs.Row.{Front, Row, found, stops}

-- ---- between items

-- a byte that parts items
abbrev pub parts_items : ℕ → Bool
parts_items b = is_space b || b == 10

-- the text after what parts items; a continued line parts them, too
unfoldable pub after_parting : List ℕ → List ℕ
after_parting [] = []
after_parting (b ∷ bs) =
    if parts_items b then after_parting bs
    else (if b == 92 && continues bs then after_parting bs
    else b ∷ bs)

-- an item may end before this text
abbrev pub may_end_item : List ℕ → Bool
may_end_item [] = true
may_end_item (b ∷ bs) = parts_items b || (b == 92 && continues bs)

-- ---- in an item

-- a byte that ends an item of a form
abbrev pub ends_item : Form → ℕ → Bool
ends_item braced b = false
ends_item quoted b = b == 34
ends_item bare b = parts_items b

-- what stands at the front of a text in an item: its end, or what a backslash stands for, as in a word; any other byte
-- stands for itself, and with it the bytes after it that do so in a word
unfoldable pub item_piece_at : Form → List ℕ → PieceFront
item_piece_at form [] = at_text_end form
item_piece_at form (b ∷ bs) =
    if ends_item form b then at_word_end form b bs
    else (if b == 92 then after_backslash form bs
    else with_run form (b ∷ []) bs)

-- these pieces stand in a row in an item of a form, and the item ends with this text after it, or has a fault
abbrev pub AreItemPieces : Form → List Piece → List ℕ → Result (List ℕ) TclKind → Type 0
AreItemPieces form pieces place end = Row (λ here stands. item_piece_at form here ≡ stands) pieces place end

-- the text of pieces; in an item no piece is other than text
abbrev pub bytes_of : Piece → List ℕ
bytes_of (text bytes) = bytes
bytes_of (other part) = []

abbrev pub text_of : List Piece → List ℕ
text_of [] = []
text_of (piece ∷ pieces) = bytes_of piece ++ text_of pieces

-- ---- items

-- what stands at the front of a text: an item, or the end of the list, or a fault
abbrev pub ItemFront : Type 0
ItemFront = Front (List ℕ) (List ℕ) (Option TclKind)

-- an item of these pieces that has its end: a bare one, and one that a brace or quote closed
abbrev pub ended_bare_item : List Piece → Result (List ℕ) TclKind → ItemFront
ended_bare_item pieces (Ok rest) = found (text_of pieces) rest
ended_bare_item pieces (Err kind) = stops (Some kind)

abbrev pub ended_closed_item : List Piece → Result (List ℕ) TclKind → ItemFront
ended_closed_item pieces (Ok rest) =
    if may_end_item rest then found (text_of pieces) rest else stops (Some ExtraAfterBrace)
ended_closed_item pieces (Err kind) = stops (Some kind)

-- a braced item: the text after the opening brace, and the text after the closing one
abbrev pub IsBracedItem : List ℕ → Option (List ℕ) → ItemFront → Type 0
IsBracedItem inside None front = front ≡ stops (Some Unclosed)
IsBracedItem inside (Some rest) front =
    (pieces : List Piece) × AreItemPieces braced pieces (before inside (125 ∷ rest)) (Ok []) × (front ≡ ended_closed_item pieces (Ok rest))

-- the form of an item by its first byte
abbrev pub form_by : ℕ → Form
form_by b = if b == 123 then braced else (if b == 34 then quoted else bare)

-- an item of a form, by its first byte and the bytes after it
abbrev pub IsItemOf : Form → ℕ → List ℕ → ItemFront → Type 0
IsItemOf braced b bs front = IsBracedItem bs (after_brace bs) front
IsItemOf quoted b bs front = (pieces : List Piece) × (end : Result (List ℕ) TclKind) × AreItemPieces quoted pieces bs end × (front ≡ ended_closed_item pieces end)
IsItemOf bare b bs front = (pieces : List Piece) × (end : Result (List ℕ) TclKind) × AreItemPieces bare pieces (b ∷ bs) end × (front ≡ ended_bare_item pieces end)

-- an item that begins here, or the end of the list
abbrev pub IsItem : List ℕ → ItemFront → Type 0
IsItem [] front = front ≡ stops None
IsItem (b ∷ bs) front = IsItemOf (form_by b) b bs front

-- what stands at the front of a text, after what parts items
abbrev pub StandsItem : List ℕ → ItemFront → Type 0
StandsItem place front = IsItem (after_parting place) front

-- these items stand in a row, and the list ends, or has a fault
abbrev pub AreItems : List (List ℕ) → List ℕ → Option TclKind → Type 0
AreItems items place end = Row StandsItem items place end

-- what a whole text gives: all its items, or the first fault after those that stand
abbrev pub Lists : List ℕ → Result (List (List ℕ)) TclKind → Type 0
Lists whole (Ok items) = AreItems items whole None
Lists whole (Err kind) = (items : List (List ℕ)) × AreItems items whole (Some kind)
