-- A list that was made reads back: each item as it stands in the text, and the items in a row.
use Rattle.std.proofs.Common.{◌≡◌, ◌-◌, ◌==◌, ◌++◌, ◌&&◌, inl, inr, ℕ, Bool, true, false, List, [], ◌∷◌, Option, Some, None, Ok, take, length, refl, sym, ap, subst, ◌∙◌, arith, append_assoc}
use Rattle.std.proofs.lemmas.Bool.{cases_Bool, both_ways, or_parts}
use Rattle.std.proofs.lemmas.Bool.Decides.{nat_tests}
use Rattle.std.proofs.lemmas.List.{append-nil, length-append}
use Rattle.std.specs.List.{list_any}
use Rattle.text_model.specs.Bytes.{before, begins_with, after, front, leads_word}
use Rattle.text_model.specs.Continued.{continues}
use Rattle.text_model.specs.Enclosed.{after_open, brace}
use Rattle.tcl_model.specs.ListItems.{AreItemPieces, AreItems, IsBracedItem, IsItem, IsItemOf, Lists, StandsItem, after_parting, ended_closed_item, form_by, item_piece_at, may_end_item, parts_items, text_of}
use Rattle.tcl_model.specs.ListText.{in_braces, is_taken, item_text, list_text, more_items, needs_backslashes, needs_braces, plain_item, taken_as, with_backslashes}
use Rattle.tcl_model.specs.Pieces as grammar
use Rattle.text_model.specs.Row.{found, stops}
use Rattle.tcl_words.proofs.ItemGaps.{parting_nil, parting_other}
use Rattle.tcl_words.proofs.TakenFacts.{item_plain as plain_is, item_taken as taken_is}
use Rattle.tcl_words.proofs.TakenBack.{PiecesBack, RestBack, blank_back, end_back, item_back, no_newline_after, not_continued, taken_itself, with_none, with_other, with_taken}

-- ---- an item that stands bare

-- an item stands at a place, and no byte of it parts items
abbrev Stands : List ℕ → List ℕ → List ℕ → Type 0
Stands item place rest = IsItem place (found item rest) × (after_parting place ≡ place)

bare_by : (b : ℕ) → (b == 123) ≡ false → (b == 34) ≡ false → form_by b ≡ grammar.bare
bare_by b p q = rw (p, q) refl

bare_stands : (item : List ℕ) (b : ℕ) (bs rest : List ℕ) → (b == 123) ≡ false → (b == 34) ≡ false → parts_items b ≡ false → (b == 92 && continues bs) ≡ false → PiecesBack item (b ∷ bs) rest → Stands item (b ∷ bs) rest
bare_stands item b bs rest p q s c back = (
  subst (λ (f : grammar.Form). IsItemOf f b bs (found item rest)) (sym (bare_by b p q))
      (back.0, Ok rest, back.1, ap (λ (t : List ℕ). found t rest) (sym back.2)),
  parting_other b bs s c,
)

-- the byte after a backslash continues no line
taken_line : (b : ℕ) (t : List ℕ) → is_taken b ≡ true → begins_with 10 t ≡ false → continues (taken_as b ∷ t) ≡ false
taken_line b t p h = elim (cases_Bool (b == 10)) [
  | inl q ↦ rw q refl
  | inr q ↦ elim (cases_Bool (b == 9)) [
    | inl r ↦ rw (q, r) refl
    | inr r ↦ subst (λ (c : ℕ). continues (c ∷ t) ≡ false) (sym (taken_itself b q r)) (not_continued b t q h)
  ]
]

first_other : (b : ℕ) (t : List ℕ) → (b == 92) ≡ false → (b == 92 && continues t) ≡ false
first_other b t p = rw p refl

backslashes_stand : (b : ℕ) (bs rest : List ℕ) → RestBack rest → Stands (b ∷ bs) (with_backslashes (b ∷ bs) ++ rest) rest
backslashes_stand b bs rest r = elim (cases_Bool (is_taken b)) [
  | inl p ↦
      let e : 92 ∷ (taken_as b ∷ (with_backslashes bs ++ rest)) ≡ with_backslashes (b ∷ bs) ++ rest = ap (λ (t : List ℕ). t ++ rest) (sym (with_taken b bs p)) in
      subst (λ (t : List ℕ). Stands (b ∷ bs) t rest) e
      (bare_stands (b ∷ bs) 92 (taken_as b ∷ (with_backslashes bs ++ rest)) rest refl refl refl
      (taken_line b (with_backslashes bs ++ rest) p (no_newline_after bs rest r.4))
      (subst (λ (t : List ℕ). PiecesBack (b ∷ bs) t rest) (sym e) (item_back (b ∷ bs) rest r).whole))
  | inr p ↦
      let e : b ∷ (with_backslashes bs ++ rest) ≡ with_backslashes (b ∷ bs) ++ rest = ap (λ (t : List ℕ). t ++ rest) (sym (with_other b bs p)) in
      let q : (b == 123) ≡ false = grind (arith, nat_tests) in
      let s : (b == 34) ≡ false = grind (arith, nat_tests) in
      let t : parts_items b ≡ false = grind (arith, nat_tests) in
      let u : (b == 92) ≡ false = grind (arith, nat_tests) in
      subst (λ (t : List ℕ). Stands (b ∷ bs) t rest) e
      (bare_stands (b ∷ bs) b (with_backslashes bs ++ rest) rest q s t (first_other b (with_backslashes bs ++ rest) u)
      (subst (λ (t : List ℕ). PiecesBack (b ∷ bs) t rest) (sym e) (item_back (b ∷ bs) rest r).whole))
]

any_parts : (test : ℕ → Bool) (b : ℕ) (bs : List ℕ) → list_any test (b ∷ bs) ≡ false → (test b ≡ false) × (list_any test bs ≡ false)
any_parts test b bs h = let parts = or_parts (test b) (list_any test bs) h in (parts.0, parts.1)

same_without : (item : List ℕ) → list_any needs_backslashes item ≡ false → list_any needs_braces item ≡ false → with_backslashes item ≡ item
same_without [] p q = with_none
same_without (b ∷ bs) p q =
    let first = any_parts needs_backslashes b bs p in
    let second = any_parts needs_braces b bs q in
    let u : is_taken b ≡ false = neither b first.0 second.0 in
    with_other b bs u ∙ ap (λ (t : List ℕ). b ∷ t) (same_without bs first.1 second.1) where
      neither : (c : ℕ) → needs_backslashes c ≡ false → needs_braces c ≡ false → is_taken c ≡ false
      neither c f g = grind (arith, nat_tests)

-- ---- an item in braces

brace_closes : (begins : Bool) (rest : List ℕ) → after_open (brace ∷ []) begins false (125 ∷ rest) ≡ Some rest
unfolding after_open
brace_closes begins rest = refl

brace_passes : (b : ℕ) (begins : Bool) (bs : List ℕ) → (b == 92) ≡ false → (b == 123) ≡ false → (b == 125) ≡ false → after_open (brace ∷ []) begins false (b ∷ bs) ≡ after_open (brace ∷ []) (leads_word b) false bs
unfolding after_open
brace_passes b begins bs p q r = rw (p, q, r) refl

brace_back : (item rest : List ℕ) (begins : Bool) → list_any needs_backslashes item ≡ false → after_open (brace ∷ []) begins false (item ++ 125 ∷ rest) ≡ Some rest
brace_back [] rest begins h = brace_closes begins rest
brace_back (b ∷ bs) rest begins h =
    let parts = any_parts needs_backslashes b bs h in
    let p : (b == 92) ≡ false = backslash b parts.0 in
    let q : (b == 123) ≡ false = opens b parts.0 in
    let r : (b == 125) ≡ false = closes b parts.0 in
    brace_passes b begins (bs ++ 125 ∷ rest) p q r ∙ brace_back bs rest (leads_word b) parts.1 where
      backslash : (c : ℕ) → needs_backslashes c ≡ false → (c == 92) ≡ false
      backslash c f = grind (arith, nat_tests)

      opens : (c : ℕ) → needs_backslashes c ≡ false → (c == 123) ≡ false
      opens c f = grind (arith, nat_tests)

      closes : (c : ℕ) → needs_backslashes c ≡ false → (c == 125) ≡ false
      closes c f = grind (arith, nat_tests)

take_front : (xs ys : List ℕ) → take (length xs) (xs ++ ys) ≡ xs
take_front [] ys = refl
take_front (x ∷ xs) ys = ap (λ (t : List ℕ). x ∷ t) (take_front xs ys)

before_brace : (item rest : List ℕ) → before (item ++ 125 ∷ rest) (125 ∷ rest) ≡ item
before_brace item rest =
    let n : length (item ++ 125 ∷ rest) - length (125 ∷ rest) ≡ length item = omega (arith, length-append item (125 ∷ rest)) in
    ap (λ (k : ℕ). take k (item ++ 125 ∷ rest)) n ∙ take_front item (125 ∷ rest)

inside_end : item_piece_at grammar.braced [] ≡ stops (Ok [])
unfolding item_piece_at
inside_end = refl

inside_first : (b : ℕ) (bs : List ℕ) → (b == 92) ≡ false → item_piece_at grammar.braced (b ∷ bs) ≡ grammar.with_run grammar.braced (b ∷ []) bs
unfolding item_piece_at
inside_first b bs p = rw p refl

inside_front : (bs : List ℕ) → list_any needs_backslashes bs ≡ false → front (grammar.is_itself grammar.braced) bs ≡ bs
unfolding front
inside_front [] h = refl
inside_front (b ∷ bs) h =
    let parts = any_parts needs_backslashes b bs h in
    let p : grammar.is_itself grammar.braced b ≡ true = passes b parts.0 in
    rw p (ap (λ (t : List ℕ). b ∷ t) (inside_front bs parts.1)) where
      passes : (c : ℕ) → needs_backslashes c ≡ false → grammar.is_itself grammar.braced c ≡ true
      passes c f = grind (arith, nat_tests)

inside_after : (bs : List ℕ) → list_any needs_backslashes bs ≡ false → after (grammar.is_itself grammar.braced) bs ≡ []
unfolding after
inside_after [] h = refl
inside_after (b ∷ bs) h =
    let parts = any_parts needs_backslashes b bs h in
    let p : grammar.is_itself grammar.braced b ≡ true = passes b parts.0 in
    rw p (inside_after bs parts.1) where
      passes : (c : ℕ) → needs_backslashes c ≡ false → grammar.is_itself grammar.braced c ≡ true
      passes c f = grind (arith, nat_tests)

abbrev InsideBack : List ℕ → Type 0
InsideBack item = (pieces : List grammar.Piece) × AreItemPieces grammar.braced pieces item (Ok []) × (text_of pieces ≡ item)

inside_back : (item : List ℕ) → list_any needs_backslashes item ≡ false → InsideBack item
inside_back [] h = ([], inside_end, refl)
inside_back (b ∷ bs) h =
    let parts = any_parts needs_backslashes b bs h in
    let p : (b == 92) ≡ false = backslash b parts.0 in
    let whole : grammar.with_run grammar.braced (b ∷ []) bs ≡ found (grammar.text (b ∷ bs)) [] =
    ap (λ (t : List ℕ). found (grammar.text (b ∷ t)) (after (grammar.is_itself grammar.braced) bs)) (inside_front bs parts.1)
    ∙ ap (λ (t : List ℕ). found (grammar.text (b ∷ bs)) t) (inside_after bs parts.1) in
    (grammar.text (b ∷ bs) ∷ [], ([], inside_first b bs p ∙ whole, inside_end), append-nil (b ∷ bs)) where
      backslash : (c : ℕ) → needs_backslashes c ≡ false → (c == 92) ≡ false
      backslash c f = grind (arith, nat_tests)

closed_back : (pieces : List grammar.Piece) (item rest : List ℕ) → text_of pieces ≡ item → may_end_item rest ≡ true → found item rest ≡ ended_closed_item pieces (Ok rest)
closed_back pieces item rest e h = rw (h, e) refl

braces_stand : (item rest : List ℕ) → list_any needs_backslashes item ≡ false → RestBack rest → Stands item (123 ∷ (item ++ 125 ∷ rest)) rest
braces_stand item rest h r =
    let inside = inside_back item h in
    let row : AreItemPieces grammar.braced inside.0 (before (item ++ 125 ∷ rest) (125 ∷ rest)) (Ok []) = subst (λ (t : List ℕ). AreItemPieces grammar.braced inside.0 t (Ok [])) (sym (before_brace item rest)) inside.1 in (
      subst (λ (o : Option (List ℕ)). IsBracedItem (item ++ 125 ∷ rest) o (found item rest)) (sym (brace_back item rest false h))
          (inside.0, row, closed_back inside.0 item rest inside.2 r.3),
      parting_other 123 (item ++ 125 ∷ rest) refl refl,
    )

braces_place : (item rest : List ℕ) → 123 ∷ (item ++ 125 ∷ rest) ≡ in_braces item ++ rest
braces_place item rest = ap (λ (t : List ℕ). 123 ∷ t) (sym (append_assoc item (125 ∷ []) rest))

-- ---- an item as it stands in a list

plain_stands : (item rest : List ℕ) → list_any needs_backslashes item ≡ false → RestBack rest → Stands item (plain_item item ++ rest) rest
plain_stands [] rest h r = subst (λ (t : List ℕ). Stands [] t rest) (braces_place [] rest) (braces_stand [] rest h r)
plain_stands (b ∷ bs) rest h r = elim (cases_Bool (list_any needs_braces (b ∷ bs))) [
  | inl p ↦
      let e : in_braces (b ∷ bs) ≡ plain_item (b ∷ bs) = rw p refl in
      subst (λ (t : List ℕ). Stands (b ∷ bs) t rest) (braces_place (b ∷ bs) rest ∙ ap (λ (t : List ℕ). t ++ rest) e) (braces_stand (b ∷ bs) rest h r)
  | inr p ↦
      let e : b ∷ bs ≡ plain_item (b ∷ bs) = rw p refl in
      subst (λ (t : List ℕ). Stands (b ∷ bs) t rest) (ap (λ (t : List ℕ). t ++ rest) (same_without (b ∷ bs) h p ∙ e)) (backslashes_stand b bs rest r)
]

item_stands : (item rest : List ℕ) → RestBack rest → Stands item (item_text item ++ rest) rest
item_stands item rest r = elim (cases_Bool (list_any needs_backslashes item)) [
  | inl p ↦ subst (λ (t : List ℕ). Stands item (t ++ rest) rest) (sym (taken_is item p)) (some item p)
  | inr p ↦ subst (λ (t : List ℕ). Stands item (t ++ rest) rest) (sym (plain_is item p)) (plain_stands item rest p r)
] where
  some : (xs : List ℕ) → list_any needs_backslashes xs ≡ true → Stands xs (with_backslashes xs ++ rest) rest
  some [] p = absurd (both_ways false refl p)
  some (b ∷ bs) p = backslashes_stand b bs rest r

more_back : (items : List (List ℕ)) → RestBack (more_items items)
more_back [] = end_back
more_back (item ∷ items) = blank_back (item_text item ++ more_items items)

stands_there : (item place rest : List ℕ) → Stands item place rest → StandsItem place (found item rest)
stands_there item place rest s = subst (λ (t : List ℕ). IsItem t (found item rest)) (sym s.1) s.0

after_blank : (place : List ℕ) → after_parting (32 ∷ place) ≡ after_parting place
unfolding after_parting
after_blank place = refl

ends_there : AreItems [] [] None
ends_there = subst (λ (t : List ℕ). IsItem t (stops None)) (sym parting_nil) refl

rows_back : (items : List (List ℕ)) → AreItems items (more_items items) None
rows_back [] = ends_there
rows_back (item ∷ items) =
    let there = stands_there item (item_text item ++ more_items items) (more_items items) (item_stands item (more_items items) (more_back items)) in (
      more_items items,
      subst (λ (t : List ℕ). IsItem t (found item (more_items items))) (sym (after_blank (item_text item ++ more_items items))) there,
      rows_back items,
    )

pub list_back : (items : List (List ℕ)) → Lists (list_text items) (Ok items)
list_back [] = ends_there
list_back (item ∷ items) = (
  more_items items,
  stands_there item (item_text item ++ more_items items) (more_items items) (item_stands item (more_items items) (more_back items)),
  rows_back items,
)
