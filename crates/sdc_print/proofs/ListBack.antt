-- Lists that are printed, read again: names and times with a blank between each two.
use Rattle.std.proofs.Common.{◌≡◌, ◌≤◌, ◌++◌, ℕ, zero, suc, true, false, List, [], ◌∷◌, Some, Ok, length, length-append, refl, sym, ap, ◌∙◌, arith, append-nil}
use Rattle.std.proofs.lemmas.Bool.{and_parts}
use Rattle.std.proofs.lemmas.Bool.Decides.{nat_tests}
use Rattle.std.specs.List.{list_all}
use Rattle.std.specs.Result.{result_ok}
use Rattle.tcl_model.specs.Commands.{may_follow}
use Rattle.tcl_model.specs.ListItems.{ItemFront, after_parting, ended_bare_item, form_by, item_piece_at, parts_items}
use Rattle.tcl_model.specs.ListReading.{ItemPieces, by_item, by_piece, item_at, item_of, items_in, items_of, list_of, pieces_in, with_item}
use Rattle.tcl_model.specs.Pieces as grammar
use Rattle.mode_model.specs.PrintedLine.{spaced}
use Rattle.text_model.specs.Row.{found, stops}
use Rattle.sdc_print.proofs.FileText.{AreItems, IsItem}
use Rattle.sdc_print.proofs.PlainWords.{Plain, bare_run, is_plain, plain_byte}

-- ---- a bare item

plain_parts : (b : ℕ) → is_plain b ≡ true → parts_items b ≡ false
plain_parts b p = grind (arith, nat_tests)

-- what may stand after an item here: nothing, or a blank
abbrev Ended : List ℕ → Type 0
Ended rest = (may_follow rest ≡ true) × (item_piece_at grammar.bare rest ≡ stops (Ok rest))

at_end : Ended []
unfolding item_piece_at
at_end = (refl, refl)

before_blank : (rest : List ℕ) → Ended (32 ∷ rest)
unfolding item_piece_at
before_blank rest = (refl, refl)

plain_piece : (b : ℕ) (bs : List ℕ) → is_plain b ≡ true → item_piece_at grammar.bare (b ∷ bs) ≡ grammar.with_run grammar.bare (b ∷ []) bs
unfolding item_piece_at
plain_piece b bs p = rw (plain_parts b p, (plain_byte b p).backslash) refl

abbrev ended_bare : ItemPieces → ItemFront
ended_bare read = ended_bare_item read.pieces read.end

bare_item : (b : ℕ) (bs rest : List ℕ) → is_plain b ≡ true → list_all is_plain bs ≡ true → Ended rest → item_of grammar.bare b (bs ++ rest) ≡ found (b ∷ bs) rest
bare_item b bs rest p all ends =
    let n : ℕ = length (bs ++ rest) in
    let first : item_piece_at grammar.bare (b ∷ (bs ++ rest)) ≡ found (grammar.text (b ∷ bs)) rest = plain_piece b (bs ++ rest) p ∙ bare_run b bs rest all ends.0 in
    ap (λ (f : grammar.PieceFront). ended_bare (by_piece f (pieces_in (suc n) grammar.bare))) first
    ∙ (ap (λ (f : grammar.PieceFront). ended_bare (by_piece (found (grammar.text (b ∷ bs)) rest) (λ place. by_piece f (pieces_in n grammar.bare)))) ends.1
    ∙ ap (λ (t : List ℕ). found t rest) (append-nil (b ∷ bs)))

plain_form : (b : ℕ) → Plain b → form_by b ≡ grammar.bare
plain_form b p = rw (p.brace, p.quote) refl

plain_start : (b : ℕ) (bs : List ℕ) → is_plain b ≡ true → after_parting (b ∷ bs) ≡ b ∷ bs
unfolding after_parting
plain_start b bs p = rw (plain_parts b p, (plain_byte b p).backslash) refl

-- an item, and the list after it
item_more : (n : ℕ) (text rest : List ℕ) → IsItem text → Ended rest → items_in (suc n) (text ++ rest) ≡ with_item text (items_in n rest)
item_more n [] rest item ends = absurd (omega (arith, item.some))
item_more n (b ∷ bs) rest item ends =
    let parts = and_parts (is_plain b) (list_all is_plain bs) item.plain in
    ap (λ (place : List ℕ). by_item (item_at place) (items_in n)) (plain_start b (bs ++ rest) parts.0)
    ∙ (ap (λ (form : grammar.Form). by_item (item_of form b (bs ++ rest)) (items_in n)) (plain_form b (plain_byte b parts.0))
    ∙ ap (λ (f : ItemFront). by_item f (items_in n)) (bare_item b bs rest parts.0 parts.1 ends))

-- ---- items with blanks between them

none_left : (n : ℕ) → items_in (suc n) [] ≡ Ok []
unfolding after_parting
none_left n = refl

after_blank : (n : ℕ) (rest : List ℕ) → items_in (suc n) (32 ∷ rest) ≡ items_in (suc n) rest
unfolding after_parting
after_blank n rest = refl

spaced_items : (n : ℕ) (texts : List (List ℕ)) → AreItems texts → length texts ≤ n → items_in (suc n) (spaced texts) ≡ Ok texts
spaced_items n [] a h = none_left n
spaced_items zero (text ∷ texts) a h = absurd (omega (arith, h))
spaced_items (suc m) (text ∷ []) a h =
    ap (items_in (suc (suc m))) (sym (append-nil text)) ∙ (item_more (suc m) text [] a.0 at_end ∙ ap (with_item text) (none_left m))
spaced_items (suc m) (text ∷ next ∷ texts) a h =
    item_more (suc m) text (32 ∷ spaced (next ∷ texts)) a.0 (before_blank (spaced (next ∷ texts)))
    ∙ ap (with_item text) (after_blank m (spaced (next ∷ texts)) ∙ spaced_items m (next ∷ texts) a.1 (omega (arith, h)))

-- there are no more items than bytes
few_items : (texts : List (List ℕ)) → AreItems texts → length texts ≤ length (spaced texts)
few_items [] a = omega arith
few_items (text ∷ []) a = omega (arith, a.0.some)
few_items (text ∷ next ∷ texts) a = omega (arith, length-append text (32 ∷ spaced (next ∷ texts)), few_items (next ∷ texts) a.1)

whole_spaced : (texts : List (List ℕ)) → AreItems texts → list_of (spaced texts) ≡ Ok texts
unfolding list_of
whole_spaced texts a = spaced_items (length (spaced texts)) texts a (few_items texts a)

pub list_spaced : (texts : List (List ℕ)) → AreItems texts → items_of (spaced texts) ≡ Some texts
list_spaced texts a = ap result_ok (whole_spaced texts a)
