-- What a text is read as, step by step, the grammar of lists relates to it, and nothing else: what is left after each
-- piece and each item is shorter, so that the steps are enough.
use Rattle.std.proofs.Common.{◌≡◌, ◌<◌, ◌≤◌, ◌==◌, ◌&&◌, inl, inr, ◌⊎◌, ℕ, zero, suc, Bool, true, false, List, [], ◌∷◌, Option, Some, None, Result, Ok, Err, length, refl, sym, ap, subst, ◌∙◌, arith}
use Rattle.std.proofs.lemmas.Bool.{cases_Bool}
use Rattle.source_types.specs.declared.kinds.TclKind.{TclKind}
use Rattle.source_types.specs.declared.kinds.TclKind.TheVariants.{ExtraAfterBrace, Unclosed}
use Rattle.text_model.specs.Bytes.{before, leads_word}
use Rattle.text_model.specs.Continued.{continues}
use Rattle.text_model.specs.Enclosed.{Open, after_brace, after_open, brace, opened}
use Rattle.tcl_model.specs.ListItems.{AreItemPieces, IsBracedItem, IsItem, IsItemOf, ItemFront, Lists, StandsItem, after_parting, ended_bare_item, ended_closed_item, form_by, item_piece_at, may_end_item, parts_items, text_of}
use Rattle.tcl_model.specs.ListReading.{ItemPieces, braced_item, by_item, by_piece, item_at, item_of, items_in, list_of, pieces_in, pieces_of, with_item}
use Rattle.tcl_model.specs.Pieces as grammar
use Rattle.text_model.specs.Row.{found, stops}
use Rattle.tcl_words.specs.ItemReads.{starts_item}
use Rattle.tcl_words.proofs.ItemFacts.{bare_goes, inner_end}
use Rattle.tcl_words.proofs.ItemGaps.{parting_starts}
use Rattle.tcl_words.proofs.ItemsOnce.{lists_once}
use Rattle.tcl_words.proofs.ItemsShorter.{end_short, piece_short, text_end_piece}

-- ---- pieces

-- these pieces stand at a place, and less is left after them
record ArePieces (form : grammar.Form) (text : List ℕ) (read : ItemPieces) : Type 0 where
  row : AreItemPieces form read.pieces text read.end
  short : (rest : List ℕ) → read.end ≡ Ok rest → length rest ≤ length text
  further : (rest : List ℕ) → read.end ≡ Ok rest → (read.pieces ≡ []) ⊎ (length rest < length text)

by_front : (n : ℕ) (form : grammar.Form) (text : List ℕ) → length text ≤ n → (f : grammar.PieceFront) → item_piece_at form text ≡ f → ArePieces form text (by_piece f (pieces_in n form))
by_front n form text h (stops end) e = record {
  row = e;
  short = λ rest s. end_short form text rest (e ∙ ap (λ (r : Result (List ℕ) TclKind). stops r) s);
  further = λ rest s. inl refl;
}
by_front n form [] h (found p rest) e = text_end_piece form rest p e
by_front zero form (b ∷ bs) h (found p rest) e = absurd (omega (arith, h))
by_front (suc m) form (b ∷ bs) h (found p rest) e =
    let shorter : length rest ≤ length bs = piece_short form b bs rest p e in
    let more = by_front m form rest (omega (arith, h, shorter)) (item_piece_at form rest) refl in
    record {
      row = (rest, e, more.row);
      short = λ left s. omega (arith, more.short left s, shorter);
      further = λ left s. inr (omega (arith, more.short left s, shorter));
    }

are_pieces : (form : grammar.Form) (text : List ℕ) → ArePieces form text (pieces_of form text)
are_pieces form text = by_front (length text) form text (omega arith) (item_piece_at form text) refl

-- ---- items

some_is : (r s : List ℕ) → Some r ≡ Some s → r ≡ s
some_is r s e = cc

open_short : (opens : List Open) (begins taken : Bool) (text rest : List ℕ) → after_open opens begins taken text ≡ Some rest → length rest ≤ length text
unfolding after_open
open_short [] begins taken text rest e = omega (arith, ap length (some_is text rest e))
open_short (o ∷ outer) begins taken [] rest e = let f : ⊥ = cc in absurd f
open_short (o ∷ outer) begins true (b ∷ bs) rest e = omega (arith, open_short (o ∷ outer) (b == 10) false bs rest e)
open_short (o ∷ outer) begins false (b ∷ bs) rest e = elim (cases_Bool (b == 92)) [
  | inl p ↦ let f : after_open (o ∷ outer) false true bs ≡ Some rest = rw p at e in omega (arith, open_short (o ∷ outer) false true bs rest f)
  | inr p ↦
      let f : after_open (opened o outer begins b) (leads_word b) false bs ≡ Some rest = rw p at e in
      omega (arith, open_short (opened o outer begins b) (leads_word b) false bs rest f)
]

-- this item stands at a byte and the bytes after it, and less is left after it
record IsOne (form : grammar.Form) (b : ℕ) (bs : List ℕ) (read : ItemFront) : Type 0 where
  is : IsItemOf form b bs read
  short : (item rest : List ℕ) → read ≡ found item rest → length rest ≤ length bs

item_rest : (i j r s : List ℕ) → ◌≡◌ {A = ItemFront} (found i r) (found j s) → r ≡ s
item_rest i j r s e = cc

no_item : {A : Type 0} (end : Option TclKind) (i r : List ℕ) → ◌≡◌ {A = ItemFront} (stops end) (found i r) → A
no_item end i r e = absurd (cc)

closed_rest : (pieces : List grammar.Piece) (end : Result (List ℕ) TclKind) (item rest : List ℕ) → ended_closed_item pieces end ≡ found item rest → end ≡ Ok rest
closed_rest pieces (Err kind) item rest e = no_item (Some kind) item rest e
closed_rest pieces (Ok left) item rest e = elim (cases_Bool (may_end_item left)) [
  | inl p ↦
      let f : found (text_of pieces) left ≡ found item rest = rw p at e in
      ap (λ (r : List ℕ). Ok r) (item_rest (text_of pieces) item left rest f)
  | inr p ↦ let f : stops (Some ExtraAfterBrace) ≡ found item rest = rw p at e in no_item (Some ExtraAfterBrace) item rest f
]

bare_rest : (pieces : List grammar.Piece) (end : Result (List ℕ) TclKind) (item rest : List ℕ) → ended_bare_item pieces end ≡ found item rest → end ≡ Ok rest
bare_rest pieces (Err kind) item rest e = no_item (Some kind) item rest e
bare_rest pieces (Ok left) item rest e = ap (λ (r : List ℕ). Ok r) (item_rest (text_of pieces) item left rest e)

-- a braced item, by where its brace closes
record IsOneBraced (bs : List ℕ) (closes : Option (List ℕ)) (read : ItemFront) : Type 0 where
  is : IsBracedItem bs closes read
  short : (item rest : List ℕ) → read ≡ found item rest → closes ≡ Some rest

ok_is : (r s : List ℕ) → ◌≡◌ {A = Result (List ℕ) TclKind} (Ok r) (Ok s) → r ≡ s
ok_is r s e = cc

braced_one : (bs : List ℕ) (closes : Option (List ℕ)) → IsOneBraced bs closes (braced_item bs closes)
braced_one bs None = record { is = refl; short = λ item rest e. no_item (Some Unclosed) item rest e }
braced_one bs (Some rest) =
    let inner : List ℕ = before bs (125 ∷ rest) in
    let inside = are_pieces grammar.braced inner in
    let read = pieces_of grammar.braced inner in
    let row : AreItemPieces grammar.braced read.pieces inner (Ok []) =
    subst (λ (r : Result (List ℕ) TclKind). AreItemPieces grammar.braced read.pieces inner r) (inner_end read.pieces inner read.end inside.row) inside.row in
    record {
      is = (read.pieces, row, refl);
      short = λ item left e. ap (λ (r : List ℕ). Some r) (ok_is rest left (closed_rest read.pieces (Ok rest) item left e));
    }

one_item : (form : grammar.Form) (b : ℕ) (bs : List ℕ) → starts_item (b ∷ bs) ≡ true → IsOne form b bs (item_of form b bs)
one_item grammar.braced b bs s =
    let closed = braced_one bs (after_brace bs) in
    record { is = closed.is; short = λ item rest e. open_short (brace ∷ []) false false bs rest (closed.short item rest e) }
one_item grammar.quoted b bs s =
    let inside = are_pieces grammar.quoted bs in
    let read = pieces_of grammar.quoted bs in
    record {
      is = (read.pieces, read.end, inside.row, refl);
      short = λ item rest e. inside.short rest (closed_rest read.pieces read.end item rest e);
    }
one_item grammar.bare b bs s =
    let inside = are_pieces grammar.bare (b ∷ bs) in
    let read = pieces_of grammar.bare (b ∷ bs) in
    record {
      is = (read.pieces, read.end, inside.row, refl);
      short = λ item rest e. let ends = bare_rest read.pieces read.end item rest e in shorter b bs s read.pieces read.end rest inside.row ends (inside.further rest ends);
    } where
      shorter : (b : ℕ) (bs : List ℕ) → starts_item (b ∷ bs) ≡ true → (pieces : List grammar.Piece) (end : Result (List ℕ) TclKind) (rest : List ℕ) → AreItemPieces grammar.bare pieces (b ∷ bs) end → end ≡ Ok rest → (pieces ≡ []) ⊎ (length rest < length (b ∷ bs)) → length rest ≤ length bs
      shorter b bs s pieces end rest row ends (inr less) = omega (arith, less)
      shorter b bs s pieces end rest row ends (inl none) =
          let first : AreItemPieces grammar.bare [] (b ∷ bs) end = subst (λ (ps : List grammar.Piece). AreItemPieces grammar.bare ps (b ∷ bs) end) none row in
          absurd (bare_goes b bs rest s (first ∙ ap (λ (r : Result (List ℕ) TclKind). stops r) ends))

-- ---- the list

-- one more item in front of a list
item_more : (item text rest : List ℕ) (others : Result (List (List ℕ)) TclKind) → StandsItem text (found item rest) → Lists rest others → Lists text (with_item item others)
item_more item text rest (Ok items) s all = (rest, s, all)
item_more item text rest (Err kind) s broken = (item ∷ broken.0, (rest, s, broken.1))

by_one : (n : ℕ) (text : List ℕ) (read : ItemFront) → StandsItem text read → ((item rest : List ℕ) → read ≡ found item rest → Lists rest (items_in n rest)) → Lists text (by_item read (items_in n))
by_one n text (stops None) s more = s
by_one n text (stops (Some kind)) s more = ([], s)
by_one n text (found item rest) s more = item_more item text rest (items_in n rest) s (more item rest refl)

parting_short : (xs : List ℕ) → length (after_parting xs) ≤ length xs
unfolding after_parting
parting_short [] = omega arith
parting_short (b ∷ bs) = elim (cases_Bool (parts_items b)) [
  | inl p ↦ rw p (omega (arith, parting_short bs))
  | inr p ↦ elim (cases_Bool (b == 92 && continues bs)) [
    | inl q ↦ rw (p, q) (omega (arith, parting_short bs))
    | inr q ↦ rw (p, q) (omega arith)
  ]
]

from_start : (n : ℕ) (text start : List ℕ) → after_parting text ≡ start → length start ≤ n → (start ≡ []) ⊎ (starts_item start ≡ true) → Lists text (by_item (item_at start) (items_in n))
from_start n text [] e h s = subst (λ (t : List ℕ). IsItem t (stops None)) (sym e) refl
from_start n text (b ∷ bs) e h (inl none) = let f : ⊥ = cc in absurd f
from_start zero text (b ∷ bs) e h (inr s) = absurd (omega (arith, h))
from_start (suc m) text (b ∷ bs) e h (inr s) =
    let here = one_item (form_by b) b bs s in
    by_one (suc m) text (item_of (form_by b) b bs) (subst (λ (t : List ℕ). IsItem t (item_of (form_by b) b bs)) (sym e) here.is)
    (λ item rest found_. from_start m rest (after_parting rest) refl (omega (arith, h, here.short item rest found_, parting_short rest)) (parting_starts rest))

-- what a text is read as, the grammar relates to it
pub list_of_stands : (text : List ℕ) → Lists text (list_of text)
unfolding list_of
list_of_stands text = from_start (length text) text (after_parting text) refl (omega (arith, parting_short text)) (parting_starts text)

-- and nothing else
pub list_of_is : (text : List ℕ) (r : Result (List (List ℕ)) TclKind) → Lists text r → list_of text ≡ r
list_of_is text r l = lists_once text (list_of text) r (list_of_stands text) l

pub is_list_of : (text : List ℕ) (r : Result (List (List ℕ)) TclKind) → list_of text ≡ r → Lists text r
is_list_of text r e = subst (λ (o : Result (List (List ℕ)) TclKind). Lists text o) e (list_of_stands text)
