-- Items of a list by their first byte.
use Rattle.std.proofs.Common.{◌≡◌, ◌<◌, ◌+◌, ◌-◌, ◌==◌, ◌||◌, ◌&&◌, inl, inr, ◌⊎◌, ℕ, true, false, List, [], ◌∷◌, Option, Some, None, Result, Ok, Err, drop, length, get_or, refl, sym, ap, subst, ◌∙◌, arith}
use Rattle.std.proofs.lemmas.Bool.{cases_Bool, ne_eqb, or_parts, not-true}
use Rattle.std.proofs.lemmas.List.{drop_more}
use Rattle.std.specs.Str.{IsUtf8}
use Rattle.sdc_base.specs.Gives.{Meets}
use Rattle.sdc_base.specs.declared.memory.Stop.{Stop}
use Rattle.sdc_base.specs.declared.memory.Stop.TheVariants.{NoMemory, Refused}
use Rattle.source_types.specs.declared.kinds.TclKind.{TclKind}
use Rattle.source_types.specs.declared.kinds.TclKind.TheVariants.{ExtraAfterBrace, Unclosed}
use Rattle.text_model.specs.Bytes.{before}
use Rattle.text_model.specs.Continued.{continues}
use Rattle.text_model.specs.Enclosed.{after_brace}
use Rattle.tcl_model.specs.ListItems.{AreItemPieces, IsBracedItem, IsItem, IsItemOf, ItemFront, ended_closed_item, form_by, item_piece_at, may_end_item, parts_items, text_of}
use Rattle.tcl_model.specs.Pieces as grammar
use Rattle.text_model.specs.Row.{found, stops}
use Rattle.tcl_words.specs.declared.lists.Item.{Item}
use Rattle.tcl_words.specs.declared.runs.Form.TheVariants.{Bare, Braced, Quoted}
use Rattle.tcl_words.specs.ItemReads.{ItemAt, ItemFrom, ItemPiecesFrom, ItemPiecesTo, starts_item}
use Rattle.tcl_words.specs.Nests.{ClosesAt}
use Rattle.tcl_words.specs.Steps.{between}
use Rattle.tcl_words.proofs.EscapeFacts.{backslash_goes}
use Rattle.tcl_words.proofs.PieceFacts.{inner_is}

-- ---- items by their first byte

brace_form : (b : ℕ) (bs : List ℕ) (front_ : ItemFront) → b ≡ 123 → IsItemOf grammar.braced 123 bs front_ → IsItem (b ∷ bs) front_
brace_form b bs front_ e i = subst (λ (c : ℕ). IsItem (c ∷ bs) front_) (sym e) i

quote_form : (b : ℕ) (bs : List ℕ) (front_ : ItemFront) → b ≡ 34 → IsItemOf grammar.quoted 34 bs front_ → IsItem (b ∷ bs) front_
quote_form b bs front_ e i = subst (λ (c : ℕ). IsItem (c ∷ bs) front_) (sym e) i

bare_form : (b : ℕ) (bs : List ℕ) (front_ : ItemFront) → (b == 123) ≡ false → (b == 34) ≡ false → IsItemOf grammar.bare b bs front_ → IsItem (b ∷ bs) front_
bare_form b bs front_ p q i = subst (λ (f : grammar.Form). IsItemOf f b bs front_) (sym (is_bare p q)) i where
  is_bare : (b == 123) ≡ false → (b == 34) ≡ false → form_by b ≡ grammar.bare
  is_bare p q = rw (p, q) refl

brace_here : (text : List ℕ) (from : ℕ) (front_ : ItemFront) → from < length text → get_or text from 0 ≡ 123 → IsBracedItem (drop (from + 1) text) (after_brace (drop (from + 1) text)) front_ → IsItem (drop from text) front_
brace_here text from front_ within e i =
    subst (λ (t : List ℕ). IsItem t front_) (sym (drop_more text from 0 within)) (brace_form (get_or text from 0) (drop (from + 1) text) front_ e i)

quote_here : (text : List ℕ) (from : ℕ) (front_ : ItemFront) → from < length text → get_or text from 0 ≡ 34 → IsItemOf grammar.quoted 34 (drop (from + 1) text) front_ → IsItem (drop from text) front_
quote_here text from front_ within e i =
    subst (λ (t : List ℕ). IsItem t front_) (sym (drop_more text from 0 within)) (quote_form (get_or text from 0) (drop (from + 1) text) front_ e i)

bare_here : (text : List ℕ) (from : ℕ) (front_ : ItemFront) → from < length text → (get_or text from 0 ≡ 123 → ⊥) → (get_or text from 0 ≡ 34 → ⊥) → IsItemOf grammar.bare (get_or text from 0) (drop (from + 1) text) front_ → IsItem (drop from text) front_
bare_here text from front_ within no_brace no_quote i =
    subst (λ (t : List ℕ). IsItem t front_) (sym (drop_more text from 0 within))
    (bare_form (get_or text from 0) (drop (from + 1) text) front_ (ne_eqb (get_or text from 0) 123 no_brace) (ne_eqb (get_or text from 0) 34 no_quote) i)

-- ---- a quoted item

closed : (item : List ℕ) (pieces : List grammar.Piece) (rest : List ℕ) → item ≡ text_of pieces → may_end_item rest ≡ true → found item rest ≡ ended_closed_item pieces (Ok rest)
closed item pieces rest e h = rw (h, e) refl

extra : (pieces : List grammar.Piece) (rest : List ℕ) → may_end_item rest ≡ false → stops (Some ExtraAfterBrace) ≡ ended_closed_item pieces (Ok rest)
extra pieces rest h = rw h refl

pub quoted_item : (text : List ℕ) (from : ℕ) (item : Item) → from < length text → get_or text from 0 ≡ 34 → ItemPiecesTo Quoted text (from + 1) item → may_end_item (drop item.end text) ≡ true → ItemAt text from item
quoted_item text from item within e p follows = record {
  stands = quote_here text from (found item.text (drop item.end text)) within e (p.pieces, Ok (drop item.end text), p.row, closed item.text p.pieces (drop item.end text) p.is follows);
  forward = omega (arith, p.forward);
  within = p.within;
  boundary = p.boundary;
}

pub quoted_extra : (text : List ℕ) (from : ℕ) (item : Item) → from < length text → get_or text from 0 ≡ 34 → ItemPiecesTo Quoted text (from + 1) item → may_end_item (drop item.end text) ≡ false → ItemFrom text from (Err ExtraAfterBrace)
quoted_extra text from item within e p follows =
    quote_here text from (stops (Some ExtraAfterBrace)) within e (p.pieces, Ok (drop item.end text), p.row, extra p.pieces (drop item.end text) follows)

pub quoted_error : (text : List ℕ) (from : ℕ) (kind : TclKind) → from < length text → get_or text from 0 ≡ 34 → ItemPiecesFrom Quoted text (from + 1) (Err kind) → ItemFrom text from (Err kind)
quoted_error text from kind within e p = quote_here text from (stops (Some kind)) within e (p.0, Err kind, p.1, refl)

-- ---- a braced item

pub braced_unclosed : (text : List ℕ) (from : ℕ) → from < length text → get_or text from 0 ≡ 123 → after_brace (drop (from + 1) text) ≡ None → ItemFrom text from (Err Unclosed)
braced_unclosed text from within e none =
    brace_here text from (stops (Some Unclosed)) within e
    (subst (λ (o : Option (List ℕ)). IsBracedItem (drop (from + 1) text) o (stops (Some Unclosed))) (sym none) refl)

braced_backslash : (rest : List ℕ) (end : Result (List ℕ) TclKind) → grammar.after_backslash grammar.braced rest ≡ stops end → ⊥
braced_backslash [] end e = cc
braced_backslash (b ∷ bs) end e = elim (cases_Bool (continues (b ∷ bs))) [
  | inl p ↦ let f : grammar.continued grammar.braced (b ∷ bs) ≡ stops end = rw p at e in cc
  | inr p ↦ let f : grammar.escaped grammar.braced b bs ≡ stops end = rw p at e in cc
]

-- a text of braces is read to its end
inner_stop : (inner : List ℕ) (end : Result (List ℕ) TclKind) → item_piece_at grammar.braced inner ≡ stops end → end ≡ Ok []
unfolding item_piece_at
inner_stop [] end e = let f : ◌≡◌ {A = Result (List ℕ) TclKind} (Ok []) end = cc in sym f
inner_stop (b ∷ bs) end e = elim (cases_Bool (b == 92)) [
  | inl p ↦ let f : grammar.after_backslash grammar.braced bs ≡ stops end = rw p at e in absurd (braced_backslash bs end f)
  | inr p ↦ let f : grammar.with_run grammar.braced (b ∷ []) bs ≡ stops end = rw p at e in absurd (no_stop f)
] where
  no_stop : grammar.with_run grammar.braced (b ∷ []) bs ≡ stops end → ⊥
  no_stop f = cc

pub inner_end : (pieces : List grammar.Piece) (inner : List ℕ) (end : Result (List ℕ) TclKind) → AreItemPieces grammar.braced pieces inner end → end ≡ Ok []
inner_end [] inner end r = inner_stop inner end r
inner_end (p ∷ pieces) inner end r = inner_end pieces r.0 end r.2

no_fault : (kind : TclKind) → ◌≡◌ {A = Result (List ℕ) TclKind} (Err kind) (Ok []) → ⊥
no_fault kind e = cc

pub braced_whole : (text inner : List ℕ) (from : ℕ) (kind : TclKind) → ItemPiecesFrom Braced inner 0 (Err kind) → ItemFrom text from (Err kind)
braced_whole text inner from kind p = absurd (no_fault kind (inner_end p.0 inner (Err kind) p.1))

pub braced_stop : (text inner : List ℕ) (from : ℕ) (stop : Stop TclKind) → Meets {T = Item} (Err stop) (ItemPiecesFrom Braced inner 0) → Meets {T = Item} (Err stop) (ItemFrom text from)
braced_stop text inner from (Refused kind) m = braced_whole text inner from kind m
braced_stop text inner from NoMemory m = tt

inner_row : (text inner : List ℕ) (from to : ℕ) (item : Item) → ClosesAt text (from + 1) to (after_brace (drop (from + 1) text)) → inner ≡ between text (from + 1) (to - 1) → (p : ItemPiecesTo Braced inner 0 item) → AreItemPieces grammar.braced p.pieces (before (drop (from + 1) text) (125 ∷ drop to text)) (Ok [])
inner_row text inner from to item c e p =
    let whole : AreItemPieces grammar.braced p.pieces inner (Ok []) = subst (λ (t : Result (List ℕ) TclKind). AreItemPieces grammar.braced p.pieces inner t) (inner_end p.pieces inner (Ok (drop item.end inner)) p.row) p.row in
    subst (λ (t : List ℕ). AreItemPieces grammar.braced p.pieces t (Ok [])) (e ∙ sym (inner_is text from to c.forward c.within)) whole

braced_front : (text : List ℕ) (from to : ℕ) (front_ : ItemFront) → ClosesAt text (from + 1) to (after_brace (drop (from + 1) text)) → from < length text → get_or text from 0 ≡ 123 → IsBracedItem (drop (from + 1) text) (Some (drop to text)) front_ → IsItem (drop from text) front_
braced_front text from to front_ c within e b =
    brace_here text from front_ within e (subst (λ (o : Option (List ℕ)). IsBracedItem (drop (from + 1) text) o front_) (sym c.is) b)

pub braced_item : (text inner : List ℕ) (from to : ℕ) (item : Item) → IsUtf8 text → from < length text → get_or text from 0 ≡ 123 → ClosesAt text (from + 1) to (after_brace (drop (from + 1) text)) → inner ≡ between text (from + 1) (to - 1) → ItemPiecesTo Braced inner 0 item → may_end_item (drop to text) ≡ true → ItemAt text from (record { text = item.text; end = to })
braced_item text inner from to item utf8 within e c i p follows = record {
  stands = braced_front text from to (found item.text (drop to text)) c within e (p.pieces, inner_row text inner from to item c i p, closed item.text p.pieces (drop to text) p.is follows);
  forward = omega (arith, c.forward);
  within = c.within;
  boundary = c.after utf8;
}

pub braced_extra : (text inner : List ℕ) (from to : ℕ) (item : Item) → from < length text → get_or text from 0 ≡ 123 → ClosesAt text (from + 1) to (after_brace (drop (from + 1) text)) → inner ≡ between text (from + 1) (to - 1) → ItemPiecesTo Braced inner 0 item → may_end_item (drop to text) ≡ false → ItemFrom text from (Err ExtraAfterBrace)
braced_extra text inner from to item within e c i p follows =
    braced_front text from to (stops (Some ExtraAfterBrace)) c within e (p.pieces, inner_row text inner from to item c i p, extra p.pieces (drop to text) follows)

-- ---- a bare item

-- a byte of an item begins a piece
pub bare_goes : (b : ℕ) (bs later : List ℕ) → starts_item (b ∷ bs) ≡ true → item_piece_at grammar.bare (b ∷ bs) ≡ stops (Ok later) → ⊥
unfolding item_piece_at
bare_goes b bs later s e =
    let none = or_parts (parts_items b) (b == 92 && continues bs) (not-true (parts_items b || (b == 92 && continues bs)) s) in
    elim (cases_Bool (b == 92)) [
      | inl p ↦
          let h : continues bs ≡ false = rw p at none.1 in
          let f : grammar.after_backslash grammar.bare bs ≡ stops (Ok later) = rw (none.0, p) at e in
          backslash_goes bs later h f
      | inr p ↦ let f : grammar.with_run grammar.bare (b ∷ []) bs ≡ stops (Ok later) = rw (none.0, p) at e in cc
    ]

pub bare_item : (text : List ℕ) (from : ℕ) (item : Item) → from < length text → starts_item (drop from text) ≡ true → (get_or text from 0 ≡ 123 → ⊥) → (get_or text from 0 ≡ 34 → ⊥) → ItemPiecesTo Bare text from item → ItemAt text from item
bare_item text from item within s no_brace no_quote p = record {
  stands = bare_here text from (found item.text (drop item.end text)) within no_brace no_quote (p.pieces, Ok (drop item.end text), row_here, ap (λ (t : List ℕ). found t (drop item.end text)) p.is);
  forward = longer p.further;
  within = p.within;
  boundary = p.boundary;
} where
  row_here : AreItemPieces grammar.bare p.pieces (get_or text from 0 ∷ drop (from + 1) text) (Ok (drop item.end text))
  row_here = subst (λ (t : List ℕ). AreItemPieces grammar.bare p.pieces t (Ok (drop item.end text))) (drop_more text from 0 within) p.row

  longer : (p.pieces ≡ []) ⊎ (from < item.end) → from < item.end
  longer (inr less) = less
  longer (inl none) =
      let row : AreItemPieces grammar.bare [] (get_or text from 0 ∷ drop (from + 1) text) (Ok (drop item.end text)) = subst (λ (ps : List grammar.Piece). AreItemPieces grammar.bare ps (get_or text from 0 ∷ drop (from + 1) text) (Ok (drop item.end text))) none row_here in
      absurd (bare_goes (get_or text from 0) (drop (from + 1) text) (drop item.end text) (subst (λ (t : List ℕ). starts_item t ≡ true) (drop_more text from 0 within) s) row)

pub bare_error : (text : List ℕ) (from : ℕ) (kind : TclKind) → from < length text → (get_or text from 0 ≡ 123 → ⊥) → (get_or text from 0 ≡ 34 → ⊥) → ItemPiecesFrom Bare text from (Err kind) → ItemFrom text from (Err kind)
bare_error text from kind within no_brace no_quote p =
    bare_here text from (stops (Some kind)) within no_brace no_quote
    (p.0, Err kind, subst (λ (t : List ℕ). AreItemPieces grammar.bare p.0 t (Err kind)) (drop_more text from 0 within) p.1, refl)
