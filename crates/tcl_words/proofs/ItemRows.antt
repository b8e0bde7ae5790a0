-- Pieces of an item, one after the other.
use Rattle.std.proofs.Common.{◌≡◌, ◌<◌, ◌≤◌, ◌++◌, inl, inr, ◌⊎◌, ℕ, List, [], ◌∷◌, Result, Ok, Err, drop, length, refl, sym, ap, subst, ◌∙◌, arith, append_assoc}
use Rattle.std.proofs.lemmas.List.{append-nil}
use Rattle.std.specs.Str.{IsCharBoundary, IsUtf8}
use Rattle.sdc_base.specs.Gives.{Meets}
use Rattle.sdc_base.specs.declared.memory.Stop.{Stop}
use Rattle.sdc_base.specs.declared.memory.Stop.TheVariants.{NoMemory, Refused}
use Rattle.source_types.specs.declared.kinds.TclKind.{TclKind}
use Rattle.tcl_model.specs.ListItems.{AreItemPieces, bytes_of, item_piece_at, text_of}
use Rattle.tcl_model.specs.Pieces as grammar
use Rattle.tcl_words.specs.declared.lists.Item.{Item}
use Rattle.tcl_words.specs.declared.pieces.Piece.{Piece}
use Rattle.tcl_words.specs.declared.pieces.Step.{Step}
use Rattle.tcl_words.specs.declared.pieces.Step.TheVariants.{Ends, Found}
use Rattle.tcl_words.specs.declared.runs.Form.{Form}
use Rattle.tcl_words.specs.Forms.{form_of}
use Rattle.tcl_words.specs.ItemReads.{ItemPiecesFrom, ItemPiecesTo}
use Rattle.tcl_words.specs.Steps.{StepAt, piece_of}

text_last : (pieces : List grammar.Piece) (piece : grammar.Piece) → text_of (pieces ++ piece ∷ []) ≡ text_of pieces ++ bytes_of piece
text_last [] piece = append-nil (bytes_of piece)
text_last (p ∷ pieces) piece =
    ap (λ (t : List ℕ). bytes_of p ++ t) (text_last pieces piece) ∙ sym (append_assoc (bytes_of p) (text_of pieces) (bytes_of piece))

-- pieces were read up to a place; with those that stand from there on they are all
pub record ItemSoFar (form : Form) (text : List ℕ) (from at : ℕ) (item : List ℕ) : Type 0 where
  pub pieces : List grammar.Piece
  pub is : item ≡ text_of pieces
  pub row : (more : List grammar.Piece) (end : Result (List ℕ) TclKind) → AreItemPieces (form_of form) more (drop at text) end → AreItemPieces (form_of form) (pieces ++ more) (drop from text) end
  pub within : at ≤ length text
  pub forward : from ≤ at
  pub further : (pieces ≡ []) ⊎ (from < at)
  pub boundary : IsCharBoundary text at

pub pieces_none : (form : Form) (text : List ℕ) (from : ℕ) (item : List ℕ) → item ≡ [] → from ≤ length text → IsCharBoundary text from → ItemSoFar form text from from item
pieces_none form text from item e within boundary = record {
  pieces = [];
  is = e;
  row = λ more end r. r;
  within = within;
  forward = omega arith;
  further = inl refl;
  boundary = boundary;
}

pub pieces_more : (form : Form) (text : List ℕ) (from at : ℕ) (item next : List ℕ) (piece : Piece) → IsUtf8 text → ItemSoFar form text from at item → StepAt (item_piece_at (form_of form) (drop at text)) text at (Ok (Found piece)) → next ≡ item ++ bytes_of (piece_of text piece) → ItemSoFar form text from piece.next next
pieces_more form text from at item next piece utf8 so_far step e = record {
  pieces = so_far.pieces ++ piece_of text piece ∷ [];
  is = e ∙ (ap (λ (t : List ℕ). t ++ bytes_of (piece_of text piece)) so_far.is ∙ sym (text_last so_far.pieces (piece_of text piece)));
  row = λ more end r.
      subst (λ (ps : List grammar.Piece). AreItemPieces (form_of form) ps (drop from text) end) (sym (append_assoc so_far.pieces (piece_of text piece ∷ []) more))
      (so_far.row (piece_of text piece ∷ more) end (drop piece.next text, step.0, r));
  within = step.1.within;
  forward = omega (arith, so_far.forward, step.1.forward);
  further = inr (omega (arith, so_far.forward, step.1.forward));
  boundary = step.1.keeps_next utf8 so_far.boundary;
}

pub pieces_end : (form : Form) (text : List ℕ) (from at to : ℕ) (item : List ℕ) → IsUtf8 text → ItemSoFar form text from at item → StepAt (item_piece_at (form_of form) (drop at text)) text at (Ok (Ends to)) → ItemPiecesTo form text from (record { text = item; end = to })
pieces_end form text from at to item utf8 so_far step = record {
  pieces = so_far.pieces;
  row = subst (λ (ps : List grammar.Piece). AreItemPieces (form_of form) ps (drop from text) (Ok (drop to text))) (append-nil so_far.pieces) (so_far.row [] (Ok (drop to text)) step.0);
  is = so_far.is;
  within = step.2;
  forward = omega (arith, so_far.forward, step.1);
  further = longer so_far.further;
  boundary = step.3 utf8 so_far.boundary;
} where
  longer : (so_far.pieces ≡ []) ⊎ (from < at) → (so_far.pieces ≡ []) ⊎ (from < to)
  longer (inl none) = inl none
  longer (inr less) = inr (omega (arith, less, step.1))

pub pieces_error : (form : Form) (text : List ℕ) (from at : ℕ) (item : List ℕ) (kind : TclKind) → ItemSoFar form text from at item → StepAt (item_piece_at (form_of form) (drop at text)) text at (Err kind) → ItemPiecesFrom form text from (Err kind)
pieces_error form text from at item kind so_far step =
    (so_far.pieces, subst (λ (ps : List grammar.Piece). AreItemPieces (form_of form) ps (drop from text) (Err kind)) (append-nil so_far.pieces) (so_far.row [] (Err kind) step))

pub pieces_stop : (form : Form) (text : List ℕ) (from at : ℕ) (item : List ℕ) (stop : Stop TclKind) → ItemSoFar form text from at item → Meets {T = Step} (Err stop) (StepAt (item_piece_at (form_of form) (drop at text)) text at) → Meets {T = Item} (Err stop) (ItemPiecesFrom form text from)
pieces_stop form text from at item (Refused kind) so_far m = pieces_error form text from at item kind so_far m
pieces_stop form text from at item NoMemory so_far m = tt
