-- The items of a list (Tcl) as a function of its text: what the grammar of lists relates to the text, step by step.
-- `list_is_one` of `tcl_words` says that it gives just what the grammar relates. Each step leaves less of the text than
-- it found, so that one more step than the text has bytes is enough, and what stands for no step at all is never asked
-- for.
use Rattle.std.specs.Prelude.{ℕ, zero, suc, List, [], ◌∷◌, Option, Some, None, Result, Ok, Err, length}
use Rattle.std.specs.Result.{result_ok}
use Rattle.source_types.specs.declared.kinds.TclKind.{TclKind}
use Rattle.source_types.specs.declared.kinds.TclKind.TheVariants.{Unclosed}
use Rattle.text_model.specs.Bytes.{before}
use Rattle.text_model.specs.Enclosed.{after_brace}
use Rattle.tcl_model.specs.ListItems.{ItemFront, after_parting, ended_bare_item, ended_closed_item, form_by, item_piece_at}
use Rattle.tcl_model.specs.Pieces.{Form, Piece, PieceFront, bare, braced, quoted}
use Rattle.text_model.specs.Row.{found, stops}

-- ---- in an item

-- the pieces of an item, and its end
pub record ItemPieces : Type 0 where
  pub pieces : List Piece
  pub end : Result (List ℕ) TclKind

-- by what stands at the front, with what the text after a piece gives
abbrev pub by_piece : PieceFront → (List ℕ → ItemPieces) → ItemPieces
by_piece (found piece rest) others = record { pieces = piece ∷ (others rest).pieces; end = (others rest).end }
by_piece (stops end) others = record { pieces = []; end = end }

-- the pieces from a place on, in at most so many steps
abbrev pub pieces_in : ℕ → Form → List ℕ → ItemPieces
pieces_in zero form place = record { pieces = []; end = Err Unclosed }
pieces_in (suc steps) form place = by_piece (item_piece_at form place) (pieces_in steps form)

abbrev pub pieces_of : Form → List ℕ → ItemPieces
pieces_of form place = pieces_in (suc (length place)) form place

-- ---- items

-- a braced item: the text after the opening brace, and the text after the closing one
abbrev pub braced_item : List ℕ → Option (List ℕ) → ItemFront
braced_item inside None = stops (Some Unclosed)
braced_item inside (Some rest) = ended_closed_item (pieces_of braced (before inside (125 ∷ rest))).pieces (Ok rest)

-- an item of a form, by its first byte and the bytes after it
abbrev pub item_of : Form → ℕ → List ℕ → ItemFront
item_of braced b bs = braced_item bs (after_brace bs)
item_of quoted b bs = ended_closed_item (pieces_of quoted bs).pieces (pieces_of quoted bs).end
item_of bare b bs = ended_bare_item (pieces_of bare (b ∷ bs)).pieces (pieces_of bare (b ∷ bs)).end

-- an item that begins here, or the end of the list
abbrev pub item_at : List ℕ → ItemFront
item_at [] = stops None
item_at (b ∷ bs) = item_of (form_by b) b bs

-- one more item in front of a list
abbrev pub with_item : List ℕ → Result (List (List ℕ)) TclKind → Result (List (List ℕ)) TclKind
with_item item (Ok items) = Ok (item ∷ items)
with_item item (Err kind) = Err kind

-- by what stands at the front, with what the text after an item gives
abbrev pub by_item : ItemFront → (List ℕ → Result (List (List ℕ)) TclKind) → Result (List (List ℕ)) TclKind
by_item (found item rest) others = with_item item (others rest)
by_item (stops None) others = Ok []
by_item (stops (Some kind)) others = Err kind

-- the items from a place on, in at most so many steps
abbrev pub items_in : ℕ → List ℕ → Result (List (List ℕ)) TclKind
items_in zero place = Ok []
items_in (suc steps) place = by_item (item_at (after_parting place)) (items_in steps)

-- the items of a text, or its first fault
unfoldable pub list_of : List ℕ → Result (List (List ℕ)) TclKind
list_of text = items_in (suc (length text)) text

-- the items, where the text is a list
abbrev pub items_of : List ℕ → Option (List (List ℕ))
items_of text = result_ok (list_of text)
