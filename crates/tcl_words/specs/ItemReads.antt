-- What stands at a place of a list: the pieces of an item, an item. This project's own words for what the reader of
-- lists finds, over the grammar of lists. Each says what was read, and where it ends.
use Rattle.std.specs.Prelude.{◌≡◌, ◌<◌, ◌≤◌, ◌||◌, ◌&&◌, ◌==◌, ◌⊎◌, ℕ, Bool, false, not, List, [], ◌∷◌, Some, drop, length, Result, Ok, Err}
use Rattle.std.specs.Str.{IsCharBoundary}
use Rattle.source_types.specs.declared.kinds.TclKind.{TclKind}
use Rattle.text_model.specs.Continued.{continues}
use Rattle.tcl_model.specs.ListItems.{AreItemPieces, IsItem, parts_items, text_of}
use Rattle.tcl_model.specs.Pieces as grammar
use Rattle.text_model.specs.Row.{found, stops}
use Rattle.tcl_words.specs.declared.lists.Item.{Item}
use Rattle.tcl_words.specs.declared.runs.Form.{Form}
use Rattle.tcl_words.specs.Forms.{form_of}

-- the pieces of an item stand from a place to its end
pub record ItemPiecesTo (form : Form) (text : List ℕ) (from : ℕ) (item : Item) : Type 0 where
  pub pieces : List grammar.Piece
  pub row : AreItemPieces (form_of form) pieces (drop from text) (Ok (drop item.end text))
  pub is : item.text ≡ text_of pieces
  pub within : item.end ≤ length text
  pub forward : from ≤ item.end
  pub further : (pieces ≡ []) ⊎ (from < item.end)
  pub boundary : IsCharBoundary text item.end

-- what stands from a place: the pieces of an item, or a fault of it
abbrev pub ItemPiecesFrom : Form → List ℕ → ℕ → Result Item TclKind → Type 0
ItemPiecesFrom form text from (Ok item) = ItemPiecesTo form text from item
ItemPiecesFrom form text from (Err kind) = (pieces : List grammar.Piece) × AreItemPieces (form_of form) pieces (drop from text) (Err kind)

-- a text begins with a byte of an item
abbrev pub starts_item : List ℕ → Bool
starts_item [] = false
starts_item (b ∷ bs) = not (parts_items b || (b == 92 && continues bs))

-- an item begins at a place
pub record ItemAt (text : List ℕ) (from : ℕ) (item : Item) : Type 0 where
  pub stands : IsItem (drop from text) (found item.text (drop item.end text))
  pub forward : from < item.end
  pub within : item.end ≤ length text
  pub boundary : IsCharBoundary text item.end

-- what begins at a place: an item, or a fault of it
abbrev pub ItemFrom : List ℕ → ℕ → Result Item TclKind → Type 0
ItemFrom text from (Ok item) = ItemAt text from item
ItemFrom text from (Err kind) = IsItem (drop from text) (stops (Some kind))
