-- An item that was made with backslashes reads back, whatever follows it in a list.
use Rattle.std.proofs.Common.{◌≡◌, ◌==◌, ◌++◌, ◌&&◌, inl, inr, ℕ, Bool, true, false, List, [], ◌∷◌, Ok, refl, sym, ap, subst, ◌∙◌, arith}
use Rattle.std.proofs.lemmas.Bool.{cases_Bool, eqb-true}
use Rattle.std.proofs.lemmas.Bool.Decides.{nat_tests}
use Rattle.text_model.specs.Bytes.{begins_with, after, front}
use Rattle.text_model.specs.Continued.{continues}
use Rattle.tcl_model.specs.ListItems.{AreItemPieces, item_piece_at, may_end_item, parts_items, text_of}
use Rattle.tcl_model.specs.ListText.{is_taken, taken_as, with_backslashes}
use Rattle.tcl_model.specs.Pieces as grammar
use Rattle.text_model.specs.Row.{found, stops}

-- ---- what follows an item of a list that was made: the end, or a blank

abbrev pub RestBack : List ℕ → Type 0
RestBack rest = (item_piece_at grammar.bare rest ≡ stops (Ok rest)) × (front (grammar.is_itself grammar.bare) rest ≡ []) × (after (grammar.is_itself grammar.bare) rest ≡ rest) × (may_end_item rest ≡ true) × (begins_with 10 rest ≡ false)

pub blank_back : (bs : List ℕ) → RestBack (32 ∷ bs)
unfolding item_piece_at front after
blank_back bs = (refl, refl, refl, refl, refl)

pub end_back : RestBack []
unfolding item_piece_at front after
end_back = (refl, refl, refl, refl, refl)

-- ---- an item with its backslashes

abbrev pub PiecesBack : List ℕ → List ℕ → List ℕ → Type 0
PiecesBack item place rest = (pieces : List grammar.Piece) × AreItemPieces grammar.bare pieces place (Ok rest) × (text_of pieces ≡ item)

-- an item reads back from its beginning, and after the run at its beginning
pub record Back (item rest : List ℕ) : Type 0 where
  pub whole : PiecesBack item (with_backslashes item ++ rest) rest
  pub pieces : List grammar.Piece
  pub row : AreItemPieces grammar.bare pieces (after (grammar.is_itself grammar.bare) (with_backslashes item ++ rest)) (Ok rest)
  pub run : front (grammar.is_itself grammar.bare) (with_backslashes item ++ rest) ++ text_of pieces ≡ item

-- where no run stands at the beginning
stands_back : (item rest place : List ℕ) → place ≡ with_backslashes item ++ rest → front (grammar.is_itself grammar.bare) place ≡ [] → after (grammar.is_itself grammar.bare) place ≡ place → PiecesBack item place rest → Back item rest
stands_back item rest place e f g p = record {
  whole = subst (λ (t : List ℕ). PiecesBack item t rest) e p;
  pieces = p.0;
  row = subst (λ (t : List ℕ). AreItemPieces grammar.bare p.0 t (Ok rest)) (sym g ∙ ap (after (grammar.is_itself grammar.bare)) e) p.1;
  run = ap (λ (t : List ℕ). t ++ text_of p.0) (sym (ap (front (grammar.is_itself grammar.bare)) e) ∙ f) ∙ p.2;
}

pub with_none : with_backslashes [] ≡ []
unfolding with_backslashes
with_none = refl

pub with_taken : (b : ℕ) (bs : List ℕ) → is_taken b ≡ true → with_backslashes (b ∷ bs) ≡ 92 ∷ (taken_as b ∷ with_backslashes bs)
unfolding with_backslashes
with_taken b bs p = rw p refl

pub with_other : (b : ℕ) (bs : List ℕ) → is_taken b ≡ false → with_backslashes (b ∷ bs) ≡ b ∷ with_backslashes bs
unfolding with_backslashes
with_other b bs p = rw p refl

backslash_front : (bs : List ℕ) → front (grammar.is_itself grammar.bare) (92 ∷ bs) ≡ []
unfolding front
backslash_front bs = refl

backslash_after : (bs : List ℕ) → after (grammar.is_itself grammar.bare) (92 ∷ bs) ≡ 92 ∷ bs
unfolding after
backslash_after bs = refl

-- a byte after its backslash
newline_piece : (bs : List ℕ) → item_piece_at grammar.bare (92 ∷ (110 ∷ bs)) ≡ found (grammar.text (10 ∷ [])) bs
unfolding item_piece_at
newline_piece bs = refl

tab_piece : (bs : List ℕ) → item_piece_at grammar.bare (92 ∷ (116 ∷ bs)) ≡ found (grammar.text (9 ∷ [])) bs
unfolding item_piece_at
tab_piece bs = refl

other_piece : (b : ℕ) (bs : List ℕ) → continues (b ∷ bs) ≡ false → (b == 110) ≡ false → (b == 116) ≡ false → item_piece_at grammar.bare (92 ∷ (b ∷ bs)) ≡ grammar.with_run grammar.bare (b ∷ []) bs
unfolding item_piece_at
other_piece b bs p q r = rw (p, q, r) refl

-- a byte without one
plain_piece : (b : ℕ) (bs : List ℕ) → parts_items b ≡ false → (b == 92) ≡ false → item_piece_at grammar.bare (b ∷ bs) ≡ grammar.with_run grammar.bare (b ∷ []) bs
unfolding item_piece_at
plain_piece b bs p q = rw (p, q) refl

untaken_piece : (b : ℕ) (bs : List ℕ) → is_taken b ≡ false → item_piece_at grammar.bare (b ∷ bs) ≡ grammar.with_run grammar.bare (b ∷ []) bs
untaken_piece b bs u =
    let p : parts_items b ≡ false = grind (arith, nat_tests) in
    let q : (b == 92) ≡ false = grind (arith, nat_tests) in
    plain_piece b bs p q

front_pass : (b : ℕ) (bs : List ℕ) → grammar.is_itself grammar.bare b ≡ true → front (grammar.is_itself grammar.bare) (b ∷ bs) ≡ b ∷ front (grammar.is_itself grammar.bare) bs
unfolding front
front_pass b bs p = rw p refl

front_fail : (b : ℕ) (bs : List ℕ) → grammar.is_itself grammar.bare b ≡ false → front (grammar.is_itself grammar.bare) (b ∷ bs) ≡ []
unfolding front
front_fail b bs p = rw p refl

after_pass : (b : ℕ) (bs : List ℕ) → grammar.is_itself grammar.bare b ≡ true → after (grammar.is_itself grammar.bare) (b ∷ bs) ≡ after (grammar.is_itself grammar.bare) bs
unfolding after
after_pass b bs p = rw p refl

after_fail : (b : ℕ) (bs : List ℕ) → grammar.is_itself grammar.bare b ≡ false → after (grammar.is_itself grammar.bare) (b ∷ bs) ≡ b ∷ bs
unfolding after
after_fail b bs p = rw p refl

-- a byte and the run after it, then the pieces after the run
run_pieces : (b : ℕ) (bs rest place : List ℕ) → item_piece_at grammar.bare place ≡ grammar.with_run grammar.bare (b ∷ []) (with_backslashes bs ++ rest) → Back bs rest → PiecesBack (b ∷ bs) place rest
run_pieces b bs rest place e back = (
  grammar.text (b ∷ front (grammar.is_itself grammar.bare) (with_backslashes bs ++ rest)) ∷ back.pieces,
  (after (grammar.is_itself grammar.bare) (with_backslashes bs ++ rest), e, back.row),
  ap (λ (t : List ℕ). b ∷ t) back.run,
)

-- a byte alone, then the whole item after it
one_piece : (b : ℕ) (bs rest place : List ℕ) → item_piece_at grammar.bare place ≡ found (grammar.text (b ∷ [])) (with_backslashes bs ++ rest) → Back bs rest → PiecesBack (b ∷ bs) place rest
one_piece b bs rest place e back =
    (grammar.text (b ∷ []) ∷ back.whole.0, (with_backslashes bs ++ rest, e, back.whole.1), ap (λ (t : List ℕ). b ∷ t) back.whole.2)

pub no_newline_after : (bs rest : List ℕ) → begins_with 10 rest ≡ false → begins_with 10 (with_backslashes bs ++ rest) ≡ false
no_newline_after [] rest h = subst (λ (t : List ℕ). begins_with 10 (t ++ rest) ≡ false) (sym with_none) h
no_newline_after (b ∷ bs) rest h = elim (cases_Bool (is_taken b)) [
  | inl p ↦ subst (λ (t : List ℕ). begins_with 10 (t ++ rest) ≡ false) (sym (with_taken b bs p)) refl
  | inr p ↦
      let q : (b == 10) ≡ false = grind (arith, nat_tests) in
      subst (λ (t : List ℕ). begins_with 10 (t ++ rest) ≡ false) (sym (with_other b bs p)) q
]

pub not_continued : (b : ℕ) (t : List ℕ) → (b == 10) ≡ false → begins_with 10 t ≡ false → continues (b ∷ t) ≡ false
not_continued b t p q = rw (p, q) (both (b == 13)) where
  both : (x : Bool) → (x && false) ≡ false
  both true = refl
  both false = refl

pub taken_itself : (b : ℕ) → (b == 10) ≡ false → (b == 9) ≡ false → taken_as b ≡ b
taken_itself b p q = rw (p, q) refl

taken_piece : (b : ℕ) (bs rest : List ℕ) → is_taken b ≡ true → begins_with 10 rest ≡ false → Back bs rest → PiecesBack (b ∷ bs) (92 ∷ (taken_as b ∷ (with_backslashes bs ++ rest))) rest
taken_piece b bs rest p h back = elim (cases_Bool (b == 10)) [
  | inl q ↦
      let e : b ≡ 10 = eqb-true b 10 q in
      subst (λ (c : ℕ). PiecesBack (c ∷ bs) (92 ∷ (taken_as c ∷ (with_backslashes bs ++ rest))) rest) (sym e)
      (one_piece 10 bs rest (92 ∷ (110 ∷ (with_backslashes bs ++ rest))) (newline_piece (with_backslashes bs ++ rest)) back)
  | inr q ↦ elim (cases_Bool (b == 9)) [
    | inl r ↦
        let e : b ≡ 9 = eqb-true b 9 r in
        subst (λ (c : ℕ). PiecesBack (c ∷ bs) (92 ∷ (taken_as c ∷ (with_backslashes bs ++ rest))) rest) (sym e)
        (one_piece 9 bs rest (92 ∷ (116 ∷ (with_backslashes bs ++ rest))) (tab_piece (with_backslashes bs ++ rest)) back)
    | inr r ↦
        let n : (b == 110) ≡ false = grind (arith, nat_tests) in
        let t : (b == 116) ≡ false = grind (arith, nat_tests) in
        subst (λ (c : ℕ). PiecesBack (b ∷ bs) (92 ∷ (c ∷ (with_backslashes bs ++ rest))) rest) (sym (taken_itself b q r))
        (run_pieces b bs rest (92 ∷ (b ∷ (with_backslashes bs ++ rest)))
        (other_piece b (with_backslashes bs ++ rest) (not_continued b (with_backslashes bs ++ rest) q (no_newline_after bs rest h)) n t) back)
  ]
]

back_run : (b : ℕ) (bs rest : List ℕ) → is_taken b ≡ false → grammar.is_itself grammar.bare b ≡ true → Back bs rest → Back (b ∷ bs) rest
back_run b bs rest p q back =
    let e : b ∷ (with_backslashes bs ++ rest) ≡ with_backslashes (b ∷ bs) ++ rest = ap (λ (t : List ℕ). t ++ rest) (sym (with_other b bs p)) in
    record {
      whole = subst (λ (t : List ℕ). PiecesBack (b ∷ bs) t rest) e (run_pieces b bs rest (b ∷ (with_backslashes bs ++ rest)) (untaken_piece b (with_backslashes bs ++ rest) p) back);
      pieces = back.pieces;
      row = subst (λ (t : List ℕ). AreItemPieces grammar.bare back.pieces t (Ok rest)) (sym (after_pass b (with_backslashes bs ++ rest) q) ∙ ap (after (grammar.is_itself grammar.bare)) e) back.row;
      run =
          ap (λ (t : List ℕ). t ++ text_of back.pieces) (sym (ap (front (grammar.is_itself grammar.bare)) e) ∙ front_pass b (with_backslashes bs ++ rest) q)
          ∙ ap (λ (t : List ℕ). b ∷ t) back.run;
    }

pub item_back : (item rest : List ℕ) → RestBack rest → Back item rest
item_back [] rest r = stands_back [] rest rest (ap (λ (t : List ℕ). t ++ rest) (sym with_none)) r.1 r.2 ([], r.0, refl)
item_back (b ∷ bs) rest r =
    let back = item_back bs rest r in
    elim (cases_Bool (is_taken b)) [
      | inl p ↦
          stands_back (b ∷ bs) rest (92 ∷ (taken_as b ∷ (with_backslashes bs ++ rest))) (ap (λ (t : List ℕ). t ++ rest) (sym (with_taken b bs p)))
          (backslash_front (taken_as b ∷ (with_backslashes bs ++ rest))) (backslash_after (taken_as b ∷ (with_backslashes bs ++ rest)))
          (taken_piece b bs rest p r.4 back)
      | inr p ↦ elim (cases_Bool (grammar.is_itself grammar.bare b)) [
        | inl q ↦ back_run b bs rest p q back
        | inr q ↦
            stands_back (b ∷ bs) rest (b ∷ (with_backslashes bs ++ rest)) (ap (λ (t : List ℕ). t ++ rest) (sym (with_other b bs p)))
            (front_fail b (with_backslashes bs ++ rest) q) (after_fail b (with_backslashes bs ++ rest) q)
            (run_pieces b bs rest (b ∷ (with_backslashes bs ++ rest)) (untaken_piece b (with_backslashes bs ++ rest) p) back)
      ]
    ]
