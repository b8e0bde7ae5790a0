-- Pieces of a word, one after the other.
use Rattle.std.proofs.Common.{◌≡◌, ◌<◌, ◌≤◌, ◌++◌, inl, inr, ◌⊎◌, ℕ, List, [], ◌∷◌, Result, Ok, Err, drop, length, refl, sym, ap, subst, ◌∙◌, arith, append_assoc}
use Rattle.std.proofs.lemmas.List.{append-nil}
use Rattle.std.specs.Str.{IsCharBoundary, IsUtf8}
use Rattle.sdc_base.specs.Gives.{Meets}
use Rattle.sdc_base.specs.declared.memory.Stop.{Stop}
use Rattle.sdc_base.specs.declared.memory.Stop.TheVariants.{NoMemory, Refused}
use Rattle.source_types.specs.declared.commands.Word.{Word}
use Rattle.source_types.specs.declared.kinds.TclKind.{TclKind}
use Rattle.tcl_model.specs.Commands.{ArePieces}
use Rattle.tcl_model.specs.Pieces as grammar
use Rattle.tcl_model.specs.WordParts.{with_piece, with_pieces, word_of}
use Rattle.tcl_model.specs.WordParts as parts
use Rattle.tcl_words.specs.declared.gathered.Gathered.{Gathered}
use Rattle.tcl_words.specs.declared.pieces.Piece.{Piece}
use Rattle.tcl_words.specs.declared.pieces.Step.{Step}
use Rattle.tcl_words.specs.declared.pieces.Step.TheVariants.{Ends, Found}
use Rattle.tcl_words.specs.declared.runs.Form.{Form}
use Rattle.tcl_words.specs.declared.spelled.Spelled.{Spelled}
use Rattle.tcl_words.specs.Forms.{form_of}
use Rattle.tcl_words.specs.GatheredParts.{gathered_of, no_parts}
use Rattle.tcl_words.specs.Reads.{PiecesFrom, PiecesTo}
use Rattle.tcl_words.specs.Steps.{StepAt, piece_of}

with_last : (so_far : parts.Gathered) (pieces : List grammar.Piece) (piece : grammar.Piece) → with_pieces so_far (pieces ++ piece ∷ []) ≡ with_piece (with_pieces so_far pieces) piece
with_last so_far [] piece = refl
with_last so_far (p ∷ pieces) piece = with_last (with_piece so_far p) pieces piece

-- pieces were read up to a place; with those that stand from there on they are all
pub record PiecesSoFar (form : Form) (text : List ℕ) (from at : ℕ) (gathered : Gathered) : Type 0 where
  pub pieces : List grammar.Piece
  pub parts : gathered_of gathered ≡ with_pieces no_parts pieces
  pub row : (more : List grammar.Piece) (end : Result (List ℕ) TclKind) → ArePieces (form_of form) more (drop at text) end → ArePieces (form_of form) (pieces ++ more) (drop from text) end
  pub within : at ≤ length text
  pub forward : from ≤ at
  pub further : (pieces ≡ []) ⊎ (from < at)
  pub boundary : IsCharBoundary text at

pub pieces_none : (form : Form) (text : List ℕ) (from : ℕ) (gathered : Gathered) → gathered_of gathered ≡ no_parts → from ≤ length text → IsCharBoundary text from → PiecesSoFar form text from from gathered
pieces_none form text from gathered e within boundary = record {
  pieces = [];
  parts = e;
  row = λ more end r. r;
  within = within;
  forward = omega arith;
  further = inl refl;
  boundary = boundary;
}

pub pieces_more : (form : Form) (text : List ℕ) (from at : ℕ) (gathered next : Gathered) (piece : Piece) → IsUtf8 text → PiecesSoFar form text from at gathered → StepAt (grammar.piece_at (form_of form) (drop at text)) text at (Ok (Found piece)) → gathered_of next ≡ with_piece (gathered_of gathered) (piece_of text piece) → PiecesSoFar form text from piece.next next
pieces_more form text from at gathered next piece utf8 so_far step e = record {
  pieces = so_far.pieces ++ piece_of text piece ∷ [];
  parts = e ∙ (ap (λ (g : parts.Gathered). with_piece g (piece_of text piece)) so_far.parts ∙ sym (with_last no_parts so_far.pieces (piece_of text piece)));
  row = λ more end r.
      subst (λ (ps : List grammar.Piece). ArePieces (form_of form) ps (drop from text) end) (sym (append_assoc so_far.pieces (piece_of text piece ∷ []) more))
      (so_far.row (piece_of text piece ∷ more) end (drop piece.next text, step.0, r));
  within = step.1.within;
  forward = omega (arith, so_far.forward, step.1.forward);
  further = inr (omega (arith, so_far.forward, step.1.forward));
  boundary = step.1.keeps_next utf8 so_far.boundary;
}

pub pieces_end : (form : Form) (text : List ℕ) (from at to : ℕ) (gathered : Gathered) (word : Word) → IsUtf8 text → PiecesSoFar form text from at gathered → StepAt (grammar.piece_at (form_of form) (drop at text)) text at (Ok (Ends to)) → word ≡ word_of (gathered_of gathered) → PiecesTo form text from (record { word = word; end = to })
pieces_end form text from at to gathered word utf8 so_far step e = record {
  pieces = so_far.pieces;
  row = subst (λ (ps : List grammar.Piece). ArePieces (form_of form) ps (drop from text) (Ok (drop to text))) (append-nil so_far.pieces) (so_far.row [] (Ok (drop to text)) step.0);
  word = e ∙ ap word_of so_far.parts;
  within = step.2;
  forward = omega (arith, so_far.forward, step.1);
  further = longer so_far.further;
  boundary = step.3 utf8 so_far.boundary;
} where
  longer : (so_far.pieces ≡ []) ⊎ (from < at) → (so_far.pieces ≡ []) ⊎ (from < to)
  longer (inl none) = inl none
  longer (inr less) = inr (omega (arith, less, step.1))

pub pieces_error : (form : Form) (text : List ℕ) (from at : ℕ) (gathered : Gathered) (kind : TclKind) → PiecesSoFar form text from at gathered → StepAt (grammar.piece_at (form_of form) (drop at text)) text at (Err kind) → PiecesFrom form text from (Err kind)
pieces_error form text from at gathered kind so_far step =
    (so_far.pieces, subst (λ (ps : List grammar.Piece). ArePieces (form_of form) ps (drop from text) (Err kind)) (append-nil so_far.pieces) (so_far.row [] (Err kind) step))

pub pieces_stop : (form : Form) (text : List ℕ) (from at : ℕ) (gathered : Gathered) (stop : Stop TclKind) → PiecesSoFar form text from at gathered → Meets {T = Step} (Err stop) (StepAt (grammar.piece_at (form_of form) (drop at text)) text at) → Meets {T = Spelled} (Err stop) (PiecesFrom form text from)
pieces_stop form text from at gathered (Refused kind) so_far m = pieces_error form text from at gathered kind so_far m
pieces_stop form text from at gathered NoMemory so_far m = tt
