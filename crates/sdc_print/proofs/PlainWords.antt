-- Words of the grammar that are printed: bare ones of plain bytes, and lists of them in braces.
use Rattle.std.proofs.Common.{◌≡◌, ◌<◌, ◌-◌, ◌==◌, ◌++◌, ◌||◌, ◌&&◌, inl, inr, ℕ, Bool, true, false, List, [], ◌∷◌, Some, Ok, take, length, refl, sym, ap, subst, ◌∙◌, arith, append_assoc}
use Rattle.std.specs.List.{list_all}
use Rattle.std.proofs.lemmas.Bool.{cases_Bool, both_ways, and_parts, or_parts}
use Rattle.std.proofs.lemmas.Bool.Decides.{nat_tests}
use Rattle.std.proofs.lemmas.List.{length-append, take_at, append-nil}
use Rattle.source_types.specs.declared.commands.Part.TheVariants as part
use Rattle.source_types.specs.declared.commands.Word.{Word}
use Rattle.text_model.specs.Bytes.{before, after, front, is_end, is_name_byte, is_space, leads_word}
use Rattle.tcl_model.specs.Commands.{ArePieces, IsBare, IsBraced, IsWord, IsWordOf, StandsWord, bare_opens, ended_closed, may_follow, opening}
use Rattle.text_model.specs.Continued.{after_gap, continues, from_command, parting}
use Rattle.text_model.specs.Enclosed.{Open, after_brace, after_open, brace}
use Rattle.tcl_model.specs.Pieces as grammar
use Rattle.text_model.specs.Row.{found, stops}

-- a letter, a digit, or one of `_ . + -`, and a space beside them
abbrev pub is_plain : ℕ → Bool
is_plain b = is_name_byte b || b == 46 || b == 43 || b == 45

abbrev pub is_braced : ℕ → Bool
is_braced b = is_plain b || b == 32

plain_itself : (b : ℕ) → is_plain b ≡ true → grammar.is_itself grammar.bare b ≡ true
plain_itself b p = grind (arith, nat_tests)

braced_itself : (b : ℕ) → is_braced b ≡ true → grammar.is_itself grammar.braced b ≡ true
braced_itself b p = grind (arith, nat_tests)

-- a weaker test
pub all_pass : (p q : ℕ → Bool) → ((b : ℕ) → p b ≡ true → q b ≡ true) → (bs : List ℕ) → list_all p bs ≡ true → list_all q bs ≡ true
all_pass p q weaker [] h = refl
all_pass p q weaker (b ∷ bs) h =
    let parts = and_parts (p b) (list_all p bs) h in
    rw (weaker b parts.0, all_pass p q weaker bs parts.1) refl

-- ---- what follows a word

follow_other : (rest : List ℕ) → may_follow rest ≡ true → front (grammar.is_itself grammar.bare) rest ≡ []
unfolding front
follow_other [] h = refl
follow_other (b ∷ bs) h = elim (cases_Bool (is_space b || is_end b)) [
  | inl p ↦ rw p refl
  | inr p ↦
      let h2 : (b == 92 && continues bs) ≡ true = rw p at h in
      let q : (b == 92) ≡ true = (and_parts (b == 92) (continues bs) h2).0 in
      rw (p, q) refl
]

follow_after : (rest : List ℕ) → may_follow rest ≡ true → after (grammar.is_itself grammar.bare) rest ≡ rest
unfolding after
follow_after [] h = refl
follow_after (b ∷ bs) h = elim (cases_Bool (is_space b || is_end b)) [
  | inl p ↦ rw p refl
  | inr p ↦
      let h2 : (b == 92 && continues bs) ≡ true = rw p at h in
      let q : (b == 92) ≡ true = (and_parts (b == 92) (continues bs) h2).0 in
      rw (p, q) refl
]

continued_stops : (rest : List ℕ) → continues rest ≡ true → grammar.after_backslash grammar.bare rest ≡ stops (Ok (92 ∷ rest))
continued_stops [] h = absurd (both_ways false refl h)
continued_stops (b ∷ bs) h = rw h refl

pub follow_stops : (rest : List ℕ) → may_follow rest ≡ true → grammar.piece_at grammar.bare rest ≡ stops (Ok rest)
unfolding grammar.piece_at
follow_stops [] h = refl
follow_stops (b ∷ bs) h = elim (cases_Bool (is_space b || is_end b)) [
  | inl p ↦ rw p refl
  | inr p ↦
      let h2 : (b == 92 && continues bs) ≡ true = rw p at h in
      let parts = and_parts (b == 92) (continues bs) h2 in
      let same : b ≡ 92 = grind (arith, nat_tests) in
      rw (p, parts.0) (continued_stops bs parts.1 ∙ ap (λ (c : ℕ). stops (Ok (c ∷ bs))) (sym same))
]

-- ---- runs

run_front : (test : ℕ → Bool) (xs rest : List ℕ) → list_all test xs ≡ true → front test (xs ++ rest) ≡ xs ++ front test rest
unfolding front
run_front test [] rest h = refl
run_front test (x ∷ xs) rest h =
    let parts = and_parts (test x) (list_all test xs) h in
    rw parts.0 (ap (λ (t : List ℕ). x ∷ t) (run_front test xs rest parts.1))

run_after : (test : ℕ → Bool) (xs rest : List ℕ) → list_all test xs ≡ true → after test (xs ++ rest) ≡ after test rest
unfolding after
run_after test [] rest h = refl
run_after test (x ∷ xs) rest h =
    let parts = and_parts (test x) (list_all test xs) h in
    rw parts.0 (run_after test xs rest parts.1)

-- ---- a bare word

pub record Plain (b : ℕ) : Type 0 where
  pub parts : (is_space b || is_end b) ≡ false
  pub comment : (b == 35) ≡ false
  pub backslash : (b == 92) ≡ false
  pub substitutes : (b == 36 || b == 91) ≡ false
  pub brace : (b == 123) ≡ false
  pub quote : (b == 34) ≡ false

pub plain_byte : (b : ℕ) → is_plain b ≡ true → Plain b
plain_byte b p = record {
  parts = grind (arith, nat_tests);
  comment = grind (arith, nat_tests);
  backslash = grind (arith, nat_tests);
  substitutes = grind (arith, nat_tests);
  brace = grind (arith, nat_tests);
  quote = grind (arith, nat_tests);
}

plain_first : (b : ℕ) (bs : List ℕ) → Plain b → from_command parting (b ∷ bs) ≡ b ∷ bs
unfolding from_command
plain_first b bs p = rw (p.parts, p.comment, p.backslash) refl

newline_ends : (b : ℕ) → is_end b ≡ false → (b == 10) ≡ false
newline_ends b p = (or_parts (b == 10) (b == 59) p).0

plain_gap : (b : ℕ) (bs : List ℕ) → Plain b → after_gap false (b ∷ bs) ≡ b ∷ bs
unfolding after_gap
plain_gap b bs p = let parts = or_parts (is_space b) (is_end b) p.parts in rw (parts.0, newline_ends b parts.1, p.backslash) refl

plain_opening : (b : ℕ) (bs : List ℕ) → Plain b → opening (b ∷ bs) ≡ bare_opens
plain_opening b bs p = let parts = or_parts (is_space b) (is_end b) p.parts in rw (parts.1, p.brace, p.quote) refl

plain_piece : (b : ℕ) (bs : List ℕ) → Plain b → grammar.piece_at grammar.bare (b ∷ bs) ≡ grammar.with_run grammar.bare (b ∷ []) bs
unfolding grammar.piece_at
plain_piece b bs p = rw (p.parts, p.backslash, p.substitutes) refl

abbrev pub text_word : List ℕ → Word
text_word text = record { parts = part.Text text ∷ [] }

-- a run of plain bytes ends where a word may
pub bare_run : (b : ℕ) (bs rest : List ℕ) → list_all is_plain bs ≡ true → may_follow rest ≡ true → grammar.with_run grammar.bare (b ∷ []) (bs ++ rest) ≡ found (grammar.text (b ∷ bs)) rest
bare_run b bs rest all follows =
    let self = all_pass is_plain (grammar.is_itself grammar.bare) plain_itself bs all in
    ap (λ (t : List ℕ). found (grammar.text (b ∷ t)) (after (grammar.is_itself grammar.bare) (bs ++ rest)))
    (run_front (grammar.is_itself grammar.bare) bs rest self ∙ (ap (λ (t : List ℕ). bs ++ t) (follow_other rest follows) ∙ append-nil bs))
    ∙ ap (λ (t : List ℕ). found (grammar.text (b ∷ bs)) t) (run_after (grammar.is_itself grammar.bare) bs rest self ∙ follow_after rest follows)

bare_piece : (b : ℕ) (bs rest : List ℕ) → Plain b → list_all is_plain bs ≡ true → may_follow rest ≡ true → grammar.piece_at grammar.bare (b ∷ (bs ++ rest)) ≡ found (grammar.text (b ∷ bs)) rest
bare_piece b bs rest p all follows = plain_piece b (bs ++ rest) p ∙ bare_run b bs rest all follows

bare_stands : (b : ℕ) (bs rest : List ℕ) → Plain b → list_all is_plain bs ≡ true → may_follow rest ≡ true → StandsWord (b ∷ (bs ++ rest)) (found (text_word (b ∷ bs)) rest)
bare_stands b bs rest p all follows =
    let word : IsBare (b ∷ (bs ++ rest)) (found (text_word (b ∷ bs)) rest) =
    (grammar.text (b ∷ bs) ∷ [], Ok rest, (rest, bare_piece b bs rest p all follows, follow_stops rest follows), refl) in
    rw (plain_gap b (bs ++ rest) p, plain_opening b (bs ++ rest) p) word

pub bare_is_word : (text : List ℕ) → 0 < length text → list_all is_plain text ≡ true → IsWord (text_word text) text
bare_is_word [] some all = absurd (omega arith)
bare_is_word (b ∷ bs) some all =
    let parts = and_parts (is_plain b) (list_all is_plain bs) all in
    let p = plain_byte b parts.0 in
    record {
      some = some;
      first = λ rest follows. plain_first b (bs ++ rest) p;
      stands = λ rest follows. bare_stands b bs rest p parts.1 follows;
    }

-- ---- a list in braces

record Inside (b : ℕ) : Type 0 where
  backslash : (b == 92) ≡ false
  opens : (b == 123) ≡ false
  closes : (b == 125) ≡ false

inside_byte : (b : ℕ) → is_braced b ≡ true → Inside b
inside_byte b p = record { backslash = grind (arith, nat_tests); opens = grind (arith, nat_tests); closes = grind (arith, nat_tests) }

-- a list is passed over to the brace that closes it
inside_step : (b : ℕ) (bs : List ℕ) (outer : List Open) (begins : Bool) → Inside b → after_open (brace ∷ outer) begins false (b ∷ bs) ≡ after_open (brace ∷ outer) (leads_word b) false bs
unfolding after_open
inside_step b bs outer begins p = rw (p.backslash, p.opens, p.closes) refl

inside_close : (bs : List ℕ) (outer : List Open) (begins : Bool) → after_open (brace ∷ outer) begins false (125 ∷ bs) ≡ after_open outer false false bs
unfolding after_open
inside_close bs outer begins = refl

pub inside_all : (text rest : List ℕ) (outer : List Open) (begins : Bool) → list_all is_braced text ≡ true → after_open (brace ∷ outer) begins false (text ++ 125 ∷ rest) ≡ after_open outer false false rest
inside_all [] rest outer begins h = inside_close rest outer begins
inside_all (b ∷ bs) rest outer begins h =
    let parts = and_parts (is_braced b) (list_all is_braced bs) h in
    inside_step b (bs ++ 125 ∷ rest) outer begins (inside_byte b parts.0) ∙ inside_all bs rest outer (leads_word b) parts.1

all_closed : (rest : List ℕ) → after_open [] false false rest ≡ Some rest
unfolding after_open
all_closed rest = refl

pub before_is : (text rest : List ℕ) → before (text ++ rest) rest ≡ text
before_is text rest =
    let n : length (text ++ rest) - length rest ≡ length text = omega (arith, length-append text rest) in
    ap (λ (k : ℕ). take k (text ++ rest)) n ∙ take_at text rest (length text) refl

braced_first : (bs : List ℕ) → from_command parting (123 ∷ bs) ≡ 123 ∷ bs
unfolding from_command
braced_first bs = refl

braced_gap : (bs : List ℕ) → after_gap false (123 ∷ bs) ≡ 123 ∷ bs
unfolding after_gap
braced_gap bs = refl

whole_front : (bs : List ℕ) → list_all (grammar.is_itself grammar.braced) bs ≡ true → front (grammar.is_itself grammar.braced) bs ≡ bs
unfolding front
whole_front [] h = refl
whole_front (b ∷ bs) h =
    let parts = and_parts (grammar.is_itself grammar.braced b) (list_all (grammar.is_itself grammar.braced) bs) h in
    rw parts.0 (ap (λ (t : List ℕ). b ∷ t) (whole_front bs parts.1))

whole_after : (bs : List ℕ) → list_all (grammar.is_itself grammar.braced) bs ≡ true → after (grammar.is_itself grammar.braced) bs ≡ []
unfolding after
whole_after [] h = refl
whole_after (b ∷ bs) h =
    let parts = and_parts (grammar.is_itself grammar.braced b) (list_all (grammar.is_itself grammar.braced) bs) h in
    rw parts.0 (whole_after bs parts.1)

first : (b : ℕ) (bs : List ℕ) → Inside b → grammar.piece_at grammar.braced (b ∷ bs) ≡ grammar.with_run grammar.braced (b ∷ []) bs
unfolding grammar.piece_at
first b bs p = rw p.backslash refl

-- a run of bytes that stand in braces here ends where the text does
inner_run : (b : ℕ) (bs : List ℕ) → list_all is_braced bs ≡ true → grammar.with_run grammar.braced (b ∷ []) bs ≡ found (grammar.text (b ∷ bs)) []
inner_run b bs h =
    let self = all_pass is_braced (grammar.is_itself grammar.braced) braced_itself bs h in
    ap (λ (t : List ℕ). found (grammar.text (b ∷ t)) (after (grammar.is_itself grammar.braced) bs)) (whole_front bs self)
    ∙ ap (λ (t : List ℕ). found (grammar.text (b ∷ bs)) t) (whole_after bs self)

inner_piece : (b : ℕ) (bs : List ℕ) → list_all is_braced (b ∷ bs) ≡ true → grammar.piece_at grammar.braced (b ∷ bs) ≡ found (grammar.text (b ∷ bs)) []
inner_piece b bs h =
    let parts = and_parts (is_braced b) (list_all is_braced bs) h in
    first b bs (inside_byte b parts.0) ∙ inner_run b bs parts.1

no_more : (bs : List ℕ) → grammar.piece_at grammar.braced [] ≡ stops (Ok [])
unfolding grammar.piece_at
no_more bs = refl

inner_stands : (text rest : List ℕ) → list_all is_braced text ≡ true → may_follow rest ≡ true → IsBraced (text ++ 125 ∷ rest) (Some rest) (found (text_word text) rest)
inner_stands text rest h follows =
    let same = before_is text (125 ∷ rest) in
    subst (λ (t : List ℕ). (pieces : List grammar.Piece) × ArePieces grammar.braced pieces t (Ok []) × (found (text_word text) rest ≡ ended_closed pieces (Ok rest))) (sym same) (row text h) where
      row : (inner : List ℕ) → list_all is_braced inner ≡ true → (pieces : List grammar.Piece) × ArePieces grammar.braced pieces inner (Ok []) × (found (text_word inner) rest ≡ ended_closed pieces (Ok rest))
      row [] k = ([], no_more [], rw follows refl)
      row (b ∷ bs) k = (grammar.text (b ∷ bs) ∷ [], ([], inner_piece b bs k, no_more []), rw follows refl)

braced_text : (text rest : List ℕ) → (123 ∷ (text ++ 125 ∷ [])) ++ rest ≡ 123 ∷ (text ++ 125 ∷ rest)
braced_text text rest = ap (λ (t : List ℕ). 123 ∷ t) (append_assoc text (125 ∷ []) rest)

braced_stands : (text rest : List ℕ) → list_all is_braced text ≡ true → may_follow rest ≡ true → StandsWord (123 ∷ (text ++ 125 ∷ rest)) (found (text_word text) rest)
braced_stands text rest h follows =
    let whole : IsBraced (text ++ 125 ∷ rest) (after_brace (text ++ 125 ∷ rest)) (found (text_word text) rest) =
    subst (λ o. IsBraced (text ++ 125 ∷ rest) o (found (text_word text) rest)) (sym (inside_all text rest [] false h ∙ all_closed rest)) (inner_stands text rest h follows) in
    subst (λ (t : List ℕ). IsWordOf (opening t) t (found (text_word text) rest)) (sym (braced_gap (text ++ 125 ∷ rest))) whole

pub braced_is_word : (text : List ℕ) → list_all is_braced text ≡ true → IsWord (text_word text) (123 ∷ (text ++ 125 ∷ []))
braced_is_word text h = record {
  some = omega arith;
  first = λ rest follows. braced_first ((text ++ 125 ∷ []) ++ rest);
  stands = λ rest follows. subst (λ (t : List ℕ). StandsWord t (found (text_word text) rest)) (sym (braced_text text rest)) (braced_stands text rest h follows);
}
