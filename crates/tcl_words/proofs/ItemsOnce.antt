-- The grammar of lists relates one outcome: the items of a text, or one fault, and never two of them.
use Rattle.std.proofs.Common.{◌≡◌, ℕ, List, [], ◌∷◌, Option, Some, None, Result, Ok, Err, sym, ap, ◌∙◌}
use Rattle.source_types.specs.declared.kinds.TclKind.{TclKind}
use Rattle.text_model.specs.Bytes.{before}
use Rattle.text_model.specs.Enclosed.{after_brace}
use Rattle.tcl_model.specs.ListItems.{AreItemPieces, IsBracedItem, IsItem, IsItemOf, ItemFront, Lists, StandsItem, after_parting, ended_bare_item, ended_closed_item, form_by, item_piece_at}
use Rattle.tcl_model.specs.Pieces as grammar
use Rattle.text_model.specs.Row.{HasOne}
use Rattle.text_model.proofs.RowFacts.{row_once}

pieces_once : (form : grammar.Form) (ps qs : List grammar.Piece) (text : List ℕ) (e f : Result (List ℕ) TclKind) → AreItemPieces form ps text e → AreItemPieces form qs text f → (ps ≡ qs) × (e ≡ f)
pieces_once form ps qs text e f r s = row_once (λ place stands. item_piece_at form place ≡ stands) (λ p a b x y. sym x ∙ y) ps qs text e f r s

braced_once : (inside : List ℕ) (o : Option (List ℕ)) (f g : ItemFront) → IsBracedItem inside o f → IsBracedItem inside o g → f ≡ g
braced_once inside None f g x y = x ∙ sym y
braced_once inside (Some rest) f g x y =
    let one = pieces_once grammar.braced x.0 y.0 (before inside (125 ∷ rest)) (Ok []) (Ok []) x.1 y.1 in
    x.2 ∙ (ap (λ ps. ended_closed_item ps (Ok rest)) one.0 ∙ sym y.2)

item_once : (form : grammar.Form) (b : ℕ) (bs : List ℕ) (f g : ItemFront) → IsItemOf form b bs f → IsItemOf form b bs g → f ≡ g
item_once grammar.braced b bs f g x y = braced_once bs (after_brace bs) f g x y
item_once grammar.quoted b bs f g x y =
    let one = pieces_once grammar.quoted x.0 y.0 bs x.1 y.1 x.2 y.2 in
    x.3 ∙ (ap (λ ps. ended_closed_item ps x.1) one.0 ∙ (ap (λ e. ended_closed_item y.0 e) one.1 ∙ sym y.3))
item_once grammar.bare b bs f g x y =
    let one = pieces_once grammar.bare x.0 y.0 (b ∷ bs) x.1 y.1 x.2 y.2 in
    x.3 ∙ (ap (λ ps. ended_bare_item ps x.1) one.0 ∙ (ap (λ e. ended_bare_item y.0 e) one.1 ∙ sym y.3))

begins_once : (text : List ℕ) (f g : ItemFront) → IsItem text f → IsItem text g → f ≡ g
begins_once [] f g x y = x ∙ sym y
begins_once (b ∷ bs) f g x y = item_once (form_by b) b bs f g x y

stands_once : (text : List ℕ) → HasOne StandsItem text
stands_once text f g x y = begins_once (after_parting text) f g x y

no_end : (kind : TclKind) → None ≡ Some kind → ⊥
no_end kind h = cc

one_end : (f g : TclKind) → Some f ≡ Some g → f ≡ g
one_end f g h = cc

pub lists_once : (text : List ℕ) (r s : Result (List (List ℕ)) TclKind) → Lists text r → Lists text s → r ≡ s
lists_once text (Ok xs) (Ok ys) p q = ap (λ x. Ok x) (row_once StandsItem stands_once xs ys text None None p q).0
lists_once text (Ok xs) (Err g) p q = absurd (no_end g (row_once StandsItem stands_once xs q.0 text None (Some g) p q.1).1)
lists_once text (Err f) (Ok ys) p q = absurd (no_end f (row_once StandsItem stands_once ys p.0 text None (Some f) q p.1).1)
lists_once text (Err f) (Err g) p q = ap (λ x. Err x) (one_end f g (row_once StandsItem stands_once p.0 q.0 text (Some f) (Some g) p.1 q.1).1)
