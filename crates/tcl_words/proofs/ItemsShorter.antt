-- What is left of a text after a piece of an item, and after the end of one, is shorter.
use Rattle.std.proofs.Common.{◌≡◌, ◌≤◌, ◌+◌, ◌==◌, inl, inr, ℕ, List, [], ◌∷◌, Result, Ok, Err, length, if◌then◌else◌, ap, arith}
use Rattle.std.proofs.lemmas.Bool.{cases_Bool}
use Rattle.source_types.specs.declared.kinds.TclKind.{TclKind}
use Rattle.source_types.specs.declared.kinds.TclKind.TheVariants.{Unclosed}
use Rattle.text_model.specs.Bytes.{after, is_space}
use Rattle.text_model.specs.Continued.{after_continued, after_newline, continues}
use Rattle.tcl_model.specs.ListItems.{ends_item, item_piece_at}
use Rattle.tcl_model.specs.Pieces as grammar
use Rattle.text_model.specs.Row.{found, stops}
use Rattle.tcl_words.proofs.PieceFacts.{after_short}

newline_short : (xs : List ℕ) → length (after_newline xs) ≤ length xs
unfolding after_newline
newline_short [] = omega arith
newline_short (b ∷ bs) = elim (cases_Bool (b == 10)) [
  | inl p ↦ rw p (omega arith)
  | inr p ↦ rw p (omega (arith, newline_short bs))
]

continued_short : (xs : List ℕ) → length (after_continued xs) ≤ length xs
continued_short xs = omega (arith, after_short is_space (after_newline xs), newline_short xs)

rest_is : (p q : grammar.Piece) (r s : List ℕ) → ◌≡◌ {A = grammar.PieceFront} (found p r) (found q s) → r ≡ s
rest_is p q r s e = cc

end_is : (r s : List ℕ) → ◌≡◌ {A = grammar.PieceFront} (stops (Ok r)) (stops (Ok s)) → r ≡ s
end_is r s e = cc

no_found : {A : Type 0} (end : Result (List ℕ) TclKind) (p : grammar.Piece) (r : List ℕ) → ◌≡◌ {A = grammar.PieceFront} (stops end) (found p r) → A
no_found end p r e = absurd (cc)

-- after a piece
run_short : (form : grammar.Form) (bytes bs rest : List ℕ) (p : grammar.Piece) → grammar.with_run form bytes bs ≡ found p rest → length rest ≤ length bs
run_short form bytes bs rest p e =
    let same : after (grammar.is_itself form) bs ≡ rest = rest_is _ p _ rest e in
    omega (arith, ap length same, after_short (grammar.is_itself form) bs)

continued_piece : (form : grammar.Form) (bs rest : List ℕ) (p : grammar.Piece) → grammar.continued form bs ≡ found p rest → length rest ≤ length bs
continued_piece grammar.braced bs rest p e = let same : after_continued bs ≡ rest = rest_is _ p _ rest e in omega (arith, ap length same, continued_short bs)
continued_piece grammar.quoted bs rest p e = let same : after_continued bs ≡ rest = rest_is _ p _ rest e in omega (arith, ap length same, continued_short bs)
continued_piece grammar.bare bs rest p e = no_found (Ok (92 ∷ bs)) p rest e

abbrev outside : grammar.Form → ℕ → List ℕ → grammar.PieceFront
outside form b rest =
    if b == 110 then found (grammar.text (10 ∷ [])) rest
    else (if b == 116 then found (grammar.text (9 ∷ [])) rest
    else grammar.with_run form (b ∷ []) rest)

outside_piece : (form : grammar.Form) (b : ℕ) (bs rest : List ℕ) (p : grammar.Piece) → outside form b bs ≡ found p rest → length rest ≤ length bs
outside_piece form b bs rest p e = elim (cases_Bool (b == 110)) [
  | inl q ↦
      let f : found (grammar.text (10 ∷ [])) bs ≡ found p rest = rw q at e in
      omega (arith, ap length (rest_is (grammar.text (10 ∷ [])) p bs rest f))
  | inr q ↦ elim (cases_Bool (b == 116)) [
    | inl r ↦
        let f : found (grammar.text (9 ∷ [])) bs ≡ found p rest = rw (q, r) at e in
        omega (arith, ap length (rest_is (grammar.text (9 ∷ [])) p bs rest f))
    | inr r ↦ let f : grammar.with_run form (b ∷ []) bs ≡ found p rest = rw (q, r) at e in run_short form (b ∷ []) bs rest p f
  ]
]

escaped_piece : (form : grammar.Form) (b : ℕ) (bs rest : List ℕ) (p : grammar.Piece) → grammar.escaped form b bs ≡ found p rest → length rest ≤ length bs
escaped_piece grammar.braced b bs rest p e = run_short grammar.braced (92 ∷ (b ∷ [])) bs rest p e
escaped_piece grammar.quoted b bs rest p e = outside_piece grammar.quoted b bs rest p e
escaped_piece grammar.bare b bs rest p e = outside_piece grammar.bare b bs rest p e

backslash_piece : (form : grammar.Form) (bs rest : List ℕ) (p : grammar.Piece) → grammar.after_backslash form bs ≡ found p rest → length rest ≤ length bs
backslash_piece form [] rest p e = omega (arith, ap length (rest_is (grammar.text (92 ∷ [])) p [] rest e))
backslash_piece form (c ∷ cs) rest p e = elim (cases_Bool (continues (c ∷ cs))) [
  | inl q ↦ let f : grammar.continued form (c ∷ cs) ≡ found p rest = rw q at e in continued_piece form (c ∷ cs) rest p f
  | inr q ↦ let f : grammar.escaped form c cs ≡ found p rest = rw q at e in omega (arith, escaped_piece form c cs rest p f)
]

word_end_piece : {A : Type 0} (form : grammar.Form) (b : ℕ) (bs rest : List ℕ) (p : grammar.Piece) → grammar.at_word_end form b bs ≡ found p rest → A
word_end_piece grammar.braced b bs rest p e = no_found (Ok (b ∷ bs)) p rest e
word_end_piece grammar.quoted b bs rest p e = no_found (Ok bs) p rest e
word_end_piece grammar.bare b bs rest p e = no_found (Ok (b ∷ bs)) p rest e

pub piece_short : (form : grammar.Form) (b : ℕ) (bs rest : List ℕ) (p : grammar.Piece) → item_piece_at form (b ∷ bs) ≡ found p rest → length rest ≤ length bs
unfolding item_piece_at
piece_short form b bs rest p e = elim (cases_Bool (ends_item form b)) [
  | inl q ↦ let f : grammar.at_word_end form b bs ≡ found p rest = rw q at e in word_end_piece form b bs rest p f
  | inr q ↦ elim (cases_Bool (b == 92)) [
    | inl r ↦ let f : grammar.after_backslash form bs ≡ found p rest = rw (q, r) at e in backslash_piece form bs rest p f
    | inr r ↦ let f : grammar.with_run form (b ∷ []) bs ≡ found p rest = rw (q, r) at e in run_short form (b ∷ []) bs rest p f
  ]
]

pub text_end_piece : {A : Type 0} (form : grammar.Form) (rest : List ℕ) (p : grammar.Piece) → item_piece_at form [] ≡ found p rest → A
unfolding item_piece_at
text_end_piece grammar.braced rest p e = no_found (Ok []) p rest e
text_end_piece grammar.quoted rest p e = no_found (Err Unclosed) p rest e
text_end_piece grammar.bare rest p e = no_found (Ok []) p rest e

-- after the end of an item
no_end : {A : Type 0} (p : grammar.Piece) (r : List ℕ) (end : Result (List ℕ) TclKind) → ◌≡◌ {A = grammar.PieceFront} (found p r) (stops end) → A
no_end p r end e = absurd (cc)

outside_end : {A : Type 0} (form : grammar.Form) (b : ℕ) (bs : List ℕ) (end : Result (List ℕ) TclKind) → outside form b bs ≡ stops end → A
outside_end form b bs end e = elim (cases_Bool (b == 110)) [
  | inl q ↦ let f : found (grammar.text (10 ∷ [])) bs ≡ stops end = rw q at e in no_end (grammar.text (10 ∷ [])) bs end f
  | inr q ↦ elim (cases_Bool (b == 116)) [
    | inl r ↦ let f : found (grammar.text (9 ∷ [])) bs ≡ stops end = rw (q, r) at e in no_end (grammar.text (9 ∷ [])) bs end f
    | inr r ↦ let f : grammar.with_run form (b ∷ []) bs ≡ stops end = rw (q, r) at e in no_end _ _ end f
  ]
]

escaped_end : {A : Type 0} (form : grammar.Form) (b : ℕ) (bs : List ℕ) (end : Result (List ℕ) TclKind) → grammar.escaped form b bs ≡ stops end → A
escaped_end grammar.braced b bs end e = no_end _ _ end e
escaped_end grammar.quoted b bs end e = outside_end grammar.quoted b bs end e
escaped_end grammar.bare b bs end e = outside_end grammar.bare b bs end e

continued_end : (form : grammar.Form) (bs rest : List ℕ) → grammar.continued form bs ≡ stops (Ok rest) → length rest ≤ length bs + 1
continued_end grammar.braced bs rest e = no_end _ _ (Ok rest) e
continued_end grammar.quoted bs rest e = no_end _ _ (Ok rest) e
continued_end grammar.bare bs rest e = omega (arith, ap length (end_is (92 ∷ bs) rest e))

backslash_end : (form : grammar.Form) (bs rest : List ℕ) → grammar.after_backslash form bs ≡ stops (Ok rest) → length rest ≤ length bs + 1
backslash_end form [] rest e = no_end _ _ (Ok rest) e
backslash_end form (c ∷ cs) rest e = elim (cases_Bool (continues (c ∷ cs))) [
  | inl q ↦ let f : grammar.continued form (c ∷ cs) ≡ stops (Ok rest) = rw q at e in continued_end form (c ∷ cs) rest f
  | inr q ↦ let f : grammar.escaped form c cs ≡ stops (Ok rest) = rw q at e in escaped_end form c cs (Ok rest) f
]

word_end_short : (form : grammar.Form) (b : ℕ) (bs rest : List ℕ) → grammar.at_word_end form b bs ≡ stops (Ok rest) → length rest ≤ length bs + 1
word_end_short grammar.braced b bs rest e = omega (arith, ap length (end_is (b ∷ bs) rest e))
word_end_short grammar.quoted b bs rest e = omega (arith, ap length (end_is bs rest e))
word_end_short grammar.bare b bs rest e = omega (arith, ap length (end_is (b ∷ bs) rest e))

pub end_short : (form : grammar.Form) (text rest : List ℕ) → item_piece_at form text ≡ stops (Ok rest) → length rest ≤ length text
unfolding item_piece_at
end_short grammar.braced [] rest e = omega (arith, ap length (end_is [] rest e))
end_short grammar.quoted [] rest e = let f : ⊥ = cc in absurd f
end_short grammar.bare [] rest e = omega (arith, ap length (end_is [] rest e))
end_short form (b ∷ bs) rest e = elim (cases_Bool (ends_item form b)) [
  | inl q ↦ let f : grammar.at_word_end form b bs ≡ stops (Ok rest) = rw q at e in omega (arith, word_end_short form b bs rest f)
  | inr q ↦ elim (cases_Bool (b == 92)) [
    | inl r ↦ let f : grammar.after_backslash form bs ≡ stops (Ok rest) = rw (q, r) at e in omega (arith, backslash_end form bs rest f)
    | inr r ↦ let f : grammar.with_run form (b ∷ []) bs ≡ stops (Ok rest) = rw (q, r) at e in no_end _ _ (Ok rest) f
  ]
]
