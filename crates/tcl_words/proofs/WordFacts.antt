-- Words of a command by their first byte.
use Rattle.std.proofs.Common.{◌≡◌, ◌<◌, ◌+◌, ◌-◌, ◌==◌, ◌||◌, ◌&&◌, inl, inr, ◌⊎◌, ℕ, true, false, not, List, [], ◌∷◌, Option, Some, None, Result, Ok, Err, drop, length, get_or, refl, sym, ap, subst, ◌∙◌, arith}
use Rattle.std.proofs.lemmas.Bool.{cases_Bool, ne_eqb, or_parts, not-true}
use Rattle.std.proofs.lemmas.List.{drop_more}
use Rattle.std.specs.Str.{IsUtf8}
use Rattle.sdc_base.specs.Gives.{Meets}
use Rattle.sdc_base.specs.declared.memory.Stop.{Stop}
use Rattle.sdc_base.specs.declared.memory.Stop.TheVariants.{NoMemory, Refused}
use Rattle.source_types.specs.declared.commands.Word.{Word}
use Rattle.source_types.specs.declared.kinds.TclKind.{TclKind}
use Rattle.source_types.specs.declared.kinds.TclKind.TheVariants.{BadWord, ExtraAfterBrace, Unclosed}
use Rattle.source_types.specs.declared.commands.Part.TheVariants as part
use Rattle.text_model.specs.Bytes.{before, begins_with, after, front, is_end, is_name_byte, is_space}
use Rattle.tcl_model.specs.Commands.{ArePieces, IsBraced, IsWordOf, WordFront, bare_opens, brace_opens, ended_closed, may_follow, opening, quote_opens}
use Rattle.text_model.specs.Continued.{continues}
use Rattle.text_model.specs.Enclosed.{after_brace, after_bracket}
use Rattle.tcl_model.specs.Pieces as grammar
use Rattle.text_model.specs.Row.{found, stops}
use Rattle.tcl_words.specs.declared.runs.Form.TheVariants.{Bare, Braced, Quoted}
use Rattle.tcl_words.specs.declared.spelled.Spelled.{Spelled}
use Rattle.tcl_words.specs.Nests.{ClosesAt}
use Rattle.tcl_words.specs.Reads.{PiecesFrom, PiecesTo, WordAt, WordFrom, starts}
use Rattle.tcl_words.specs.Steps.{between}
use Rattle.tcl_words.proofs.EscapeFacts.{backslash_goes}
use Rattle.tcl_words.proofs.PieceFacts.{inner_is}

-- ---- words by their first byte

opens_brace : (b : ℕ) (bs : List ℕ) → b ≡ 123 → opening (b ∷ bs) ≡ brace_opens bs
opens_brace b bs e = ap (λ (c : ℕ). opening (c ∷ bs)) e

opens_quote : (b : ℕ) (bs : List ℕ) → b ≡ 34 → opening (b ∷ bs) ≡ quote_opens bs
opens_quote b bs e = ap (λ (c : ℕ). opening (c ∷ bs)) e

opens_bare : (b : ℕ) (bs : List ℕ) → is_end b ≡ false → (b == 123) ≡ false → (b == 34) ≡ false → opening (b ∷ bs) ≡ bare_opens
opens_bare b bs p q r = rw (p, q, r) refl

brace_here : (text : List ℕ) (from : ℕ) → from < length text → get_or text from 0 ≡ 123 → opening (drop from text) ≡ brace_opens (drop (from + 1) text)
brace_here text from within e = ap opening (drop_more text from 0 within) ∙ opens_brace (get_or text from 0) (drop (from + 1) text) e

quote_here : (text : List ℕ) (from : ℕ) → from < length text → get_or text from 0 ≡ 34 → opening (drop from text) ≡ quote_opens (drop (from + 1) text)
quote_here text from within e = ap opening (drop_more text from 0 within) ∙ opens_quote (get_or text from 0) (drop (from + 1) text) e

-- a quoted word
pub quoted_word : (text : List ℕ) (from : ℕ) (spelled : Spelled) → from < length text → get_or text from 0 ≡ 34 → PiecesTo Quoted text (from + 1) spelled → may_follow (drop spelled.end text) ≡ true → WordAt text from spelled
quoted_word text from spelled within e p follows = record {
  stands = subst (λ o. IsWordOf o (drop from text) (found spelled.word (drop spelled.end text))) (sym (quote_here text from within e))
      (p.pieces, Ok (drop spelled.end text), p.row, closed (drop spelled.end text) follows);
  forward = omega (arith, p.forward);
  within = p.within;
  boundary = p.boundary;
} where
  closed : (rest : List ℕ) → may_follow rest ≡ true → found spelled.word rest ≡ ended_closed p.pieces (Ok rest)
  closed rest h = rw (h, p.word) refl

pub quoted_extra : (text : List ℕ) (from : ℕ) (spelled : Spelled) → from < length text → get_or text from 0 ≡ 34 → PiecesTo Quoted text (from + 1) spelled → may_follow (drop spelled.end text) ≡ false → WordFrom text from (Err ExtraAfterBrace)
quoted_extra text from spelled within e p follows =
    subst (λ o. IsWordOf o (drop from text) (stops (Err ExtraAfterBrace))) (sym (quote_here text from within e))
    (p.pieces, Ok (drop spelled.end text), p.row, extra (drop spelled.end text) follows) where
      extra : (rest : List ℕ) → may_follow rest ≡ false → stops (Err ExtraAfterBrace) ≡ ended_closed p.pieces (Ok rest)
      extra rest h = rw h refl

pub quoted_error : (text : List ℕ) (from : ℕ) (kind : TclKind) → from < length text → get_or text from 0 ≡ 34 → PiecesFrom Quoted text (from + 1) (Err kind) → WordFrom text from (Err kind)
quoted_error text from kind within e p =
    subst (λ o. IsWordOf o (drop from text) (stops (Err kind))) (sym (quote_here text from within e)) (p.0, Err kind, p.1, refl)

-- a braced word
pub braced_unclosed : (text : List ℕ) (from : ℕ) → from < length text → get_or text from 0 ≡ 123 → after_brace (drop (from + 1) text) ≡ None → WordFrom text from (Err Unclosed)
braced_unclosed text from within e none =
    subst (λ o. IsWordOf o (drop from text) (stops (Err Unclosed))) (sym (brace_here text from within e))
    (subst (λ o. IsBraced (drop (from + 1) text) o (stops (Err Unclosed))) (sym none) refl)

braced_backslash : (rest later : List ℕ) → grammar.after_backslash grammar.braced rest ≡ stops (Ok later) → ⊥
braced_backslash [] later e = cc
braced_backslash (b ∷ bs) later e = elim (cases_Bool (continues (b ∷ bs))) [
  | inl p ↦ let f : grammar.continued grammar.braced (b ∷ bs) ≡ stops (Ok later) = rw p at e in cc
  | inr p ↦ let f : grammar.escaped grammar.braced b bs ≡ stops (Ok later) = rw p at e in cc
]

-- a text of braces is read to its end
inner_stop : (inner rest : List ℕ) → grammar.piece_at grammar.braced inner ≡ stops (Ok rest) → rest ≡ []
unfolding grammar.piece_at
inner_stop [] rest e =
    let f : ◌≡◌ {A = Result (List ℕ) TclKind} (Ok []) (Ok rest) = cc in
    let g : ◌≡◌ {A = List ℕ} [] rest = cc in sym g
inner_stop (b ∷ bs) rest e = elim (cases_Bool (b == 92)) [
  | inl p ↦ let f : grammar.after_backslash grammar.braced bs ≡ stops (Ok rest) = rw p at e in absurd (braced_backslash bs rest f)
  | inr p ↦ let f : grammar.with_run grammar.braced (b ∷ []) bs ≡ stops (Ok rest) = rw p at e in absurd (no_stop f)
] where
  no_stop : grammar.with_run grammar.braced (b ∷ []) bs ≡ stops (Ok rest) → ⊥
  no_stop f = cc

inner_end : (pieces : List grammar.Piece) (inner rest : List ℕ) → ArePieces grammar.braced pieces inner (Ok rest) → rest ≡ []
inner_end [] inner rest r = inner_stop inner rest r
inner_end (p ∷ pieces) inner rest r = inner_end pieces r.0 rest r.2

braced_backslash_breaks : (rest : List ℕ) (kind : TclKind) → grammar.after_backslash grammar.braced rest ≡ stops (Err kind) → ⊥
braced_backslash_breaks [] kind e = cc
braced_backslash_breaks (b ∷ bs) kind e = elim (cases_Bool (continues (b ∷ bs))) [
  | inl p ↦ let f : grammar.continued grammar.braced (b ∷ bs) ≡ stops (Err kind) = rw p at e in cc
  | inr p ↦ let f : grammar.escaped grammar.braced b bs ≡ stops (Err kind) = rw p at e in cc
]

inner_unbroken : (inner : List ℕ) (kind : TclKind) → grammar.piece_at grammar.braced inner ≡ stops (Err kind) → ⊥
unfolding grammar.piece_at
inner_unbroken [] kind e = cc
inner_unbroken (b ∷ bs) kind e = elim (cases_Bool (b == 92)) [
  | inl p ↦ let f : grammar.after_backslash grammar.braced bs ≡ stops (Err kind) = rw p at e in braced_backslash_breaks bs kind f
  | inr p ↦ let f : grammar.with_run grammar.braced (b ∷ []) bs ≡ stops (Err kind) = rw p at e in cc
]

-- and never has a fault
pub inner_whole : (pieces : List grammar.Piece) (inner : List ℕ) (kind : TclKind) → ArePieces grammar.braced pieces inner (Err kind) → ⊥
inner_whole [] inner kind r = inner_unbroken inner kind r
inner_whole (p ∷ pieces) inner kind r = inner_whole pieces r.0 kind r.2

pub braced_whole : (text inner : List ℕ) (from : ℕ) (kind : TclKind) → PiecesFrom Braced inner 0 (Err kind) → WordFrom text from (Err kind)
braced_whole text inner from kind p = absurd (inner_whole p.0 inner kind p.1)

pub braced_stop : (text inner : List ℕ) (from : ℕ) (stop : Stop TclKind) → Meets {T = Spelled} (Err stop) (PiecesFrom Braced inner 0) → Meets {T = Spelled} (Err stop) (WordFrom text from)
braced_stop text inner from (Refused kind) m = braced_whole text inner from kind m
braced_stop text inner from NoMemory m = tt

braced_front : (text : List ℕ) (from to : ℕ) (front : WordFront) → ClosesAt text (from + 1) to (after_brace (drop (from + 1) text)) → from < length text → get_or text from 0 ≡ 123 → IsBraced (drop (from + 1) text) (Some (drop to text)) front → IsWordOf (opening (drop from text)) (drop from text) front
braced_front text from to front c within e b =
    subst (λ o. IsWordOf o (drop from text) front) (sym (brace_here text from within e))
    (subst (λ o. IsBraced (drop (from + 1) text) o front) (sym c.is) b)

pub inner_row : (text inner : List ℕ) (from to : ℕ) (spelled : Spelled) → ClosesAt text (from + 1) to (after_brace (drop (from + 1) text)) → inner ≡ between text (from + 1) (to - 1) → (p : PiecesTo Braced inner 0 spelled) → ArePieces grammar.braced p.pieces (before (drop (from + 1) text) (125 ∷ drop to text)) (Ok [])
inner_row text inner from to spelled c e p =
    let whole : ArePieces grammar.braced p.pieces inner (Ok []) = subst (λ (t : List ℕ). ArePieces grammar.braced p.pieces inner (Ok t)) (inner_end p.pieces inner (drop spelled.end inner) p.row) p.row in
    subst (λ (t : List ℕ). ArePieces grammar.braced p.pieces t (Ok [])) (e ∙ sym (inner_is text from to c.forward c.within)) whole

pub braced_word : (text inner : List ℕ) (from to : ℕ) (spelled : Spelled) → IsUtf8 text → from < length text → get_or text from 0 ≡ 123 → ClosesAt text (from + 1) to (after_brace (drop (from + 1) text)) → inner ≡ between text (from + 1) (to - 1) → PiecesTo Braced inner 0 spelled → may_follow (drop to text) ≡ true → WordAt text from (record { word = spelled.word; end = to })
braced_word text inner from to spelled utf8 within e c i p follows = record {
  stands = braced_front text from to (found spelled.word (drop to text)) c within e (p.pieces, inner_row text inner from to spelled c i p, closed (drop to text) follows);
  forward = omega (arith, c.forward);
  within = c.within;
  boundary = c.after utf8;
} where
  closed : (rest : List ℕ) → may_follow rest ≡ true → found spelled.word rest ≡ ended_closed p.pieces (Ok rest)
  closed rest h = rw (h, p.word) refl

pub braced_extra : (text inner : List ℕ) (from to : ℕ) (spelled : Spelled) → from < length text → get_or text from 0 ≡ 123 → ClosesAt text (from + 1) to (after_brace (drop (from + 1) text)) → inner ≡ between text (from + 1) (to - 1) → PiecesTo Braced inner 0 spelled → may_follow (drop to text) ≡ false → WordFrom text from (Err ExtraAfterBrace)
braced_extra text inner from to spelled within e c i p follows =
    braced_front text from to (stops (Err ExtraAfterBrace)) c within e (p.pieces, inner_row text inner from to spelled c i p, extra (drop to text) follows) where
      extra : (rest : List ℕ) → may_follow rest ≡ false → stops (Err ExtraAfterBrace) ≡ ended_closed p.pieces (Ok rest)
      extra rest h = rw h refl

-- ---- a bare word

plain_goes : (rest later : List ℕ) → grammar.plain_dollar rest ≡ stops (Ok later) → ⊥
plain_goes [] later e = cc
plain_goes (b ∷ bs) later e = elim (cases_Bool (b == 123)) [
  | inl p ↦ let f : grammar.braced_variable (front (λ c. not (c == 125)) bs) (after (λ c. not (c == 125)) bs) ≡ stops (Ok later) = rw p at e in variable (front (λ c. not (c == 125)) bs) (after (λ c. not (c == 125)) bs) f
  | inr p ↦ let f : found (grammar.text (36 ∷ [])) (b ∷ bs) ≡ stops (Ok later) = rw p at e in cc
] where
  variable : (name more : List ℕ) → grammar.braced_variable name more ≡ stops (Ok later) → ⊥
  variable name [] f = cc
  variable name (c ∷ cs) f = cc

dollar_goes : (name rest later : List ℕ) → grammar.after_dollar name rest ≡ stops (Ok later) → ⊥
dollar_goes [] rest later e = plain_goes rest later e
dollar_goes (b ∷ bs) rest later e = elim (cases_Bool (begins_with 40 rest)) [
  | inl p ↦ let f : stops (Err BadWord) ≡ stops (Ok later) = rw p at e in cc
  | inr p ↦ let f : found (grammar.other (part.Variable (b ∷ bs))) rest ≡ stops (Ok later) = rw p at e in cc
]

script_goes : (inside : List ℕ) (o : Option (List ℕ)) (later : List ℕ) → grammar.after_opening inside o ≡ stops (Ok later) → ⊥
script_goes inside None later e = cc
script_goes inside (Some rest) later e = cc

substituted_goes : (b : ℕ) (rest later : List ℕ) → grammar.substituted b rest ≡ stops (Ok later) → ⊥
substituted_goes b rest later e = elim (cases_Bool (b == 36)) [
  | inl p ↦ let f : grammar.after_dollar (front is_name_byte rest) (after is_name_byte rest) ≡ stops (Ok later) = rw p at e in dollar_goes (front is_name_byte rest) (after is_name_byte rest) later f
  | inr p ↦ let f : grammar.after_opening rest (after_bracket rest) ≡ stops (Ok later) = rw p at e in script_goes rest (after_bracket rest) later f
]

-- a byte of a word begins a piece
bare_goes : (b : ℕ) (bs later : List ℕ) → starts (b ∷ bs) ≡ true → grammar.piece_at grammar.bare (b ∷ bs) ≡ stops (Ok later) → ⊥
unfolding grammar.piece_at
bare_goes b bs later s e =
    let none = or_parts (is_space b || is_end b) (b == 92 && continues bs) (not-true (is_space b || is_end b || (b == 92 && continues bs)) s) in
    elim (cases_Bool (b == 92)) [
      | inl p ↦
          let h : continues bs ≡ false = rw p at none.1 in
          let f : grammar.after_backslash grammar.bare bs ≡ stops (Ok later) = rw (none.0, p) at e in
          backslash_goes bs later h f
      | inr p ↦ elim (cases_Bool (b == 36 || b == 91)) [
        | inl q ↦ let f : grammar.substituted b bs ≡ stops (Ok later) = rw (none.0, p, q) at e in substituted_goes b bs later f
        | inr q ↦ let f : grammar.with_run grammar.bare (b ∷ []) bs ≡ stops (Ok later) = rw (none.0, p, q) at e in cc
      ]
    ]

-- what a text from a place begins with
starts_within : (text : List ℕ) (from : ℕ) → starts (drop from text) ≡ true → from < length text → starts (get_or text from 0 ∷ drop (from + 1) text) ≡ true
starts_within text from s within = subst (λ (t : List ℕ). starts t ≡ true) (drop_more text from 0 within) s

bare_here : (text : List ℕ) (from : ℕ) → from < length text → starts (drop from text) ≡ true → (get_or text from 0 ≡ 123 → ⊥) → (get_or text from 0 ≡ 34 → ⊥) → opening (drop from text) ≡ bare_opens
bare_here text from within s no_brace no_quote =
    let b : ℕ = get_or text from 0 in
    let none = or_parts (is_space (get_or text from 0) || is_end (get_or text from 0)) (get_or text from 0 == 92 && continues (drop (from + 1) text))
    (not-true (is_space (get_or text from 0) || is_end (get_or text from 0) || (get_or text from 0 == 92 && continues (drop (from + 1) text))) (starts_within text from s within)) in
    let ends = or_parts (is_space (get_or text from 0)) (is_end (get_or text from 0)) none.0 in
    ap opening (drop_more text from 0 within)
    ∙ opens_bare (get_or text from 0) (drop (from + 1) text) ends.1 (ne_eqb (get_or text from 0) 123 no_brace) (ne_eqb (get_or text from 0) 34 no_quote)

pub bare_word : (text : List ℕ) (from : ℕ) (spelled : Spelled) → from < length text → starts (drop from text) ≡ true → (get_or text from 0 ≡ 123 → ⊥) → (get_or text from 0 ≡ 34 → ⊥) → PiecesTo Bare text from spelled → WordAt text from spelled
bare_word text from spelled within s no_brace no_quote p = record {
  stands = subst (λ o. IsWordOf o (drop from text) (found spelled.word (drop spelled.end text))) (sym (bare_here text from within s no_brace no_quote))
      (p.pieces, Ok (drop spelled.end text), p.row, ap (λ (w : Word). found w (drop spelled.end text)) p.word);
  forward = longer p.further;
  within = p.within;
  boundary = p.boundary;
} where
  longer : (p.pieces ≡ []) ⊎ (from < spelled.end) → from < spelled.end
  longer (inr less) = less
  longer (inl none) =
      let row : ArePieces grammar.bare [] (drop from text) (Ok (drop spelled.end text)) = subst (λ (ps : List grammar.Piece). ArePieces grammar.bare ps (drop from text) (Ok (drop spelled.end text))) none p.row in
      absurd (bare_goes (get_or text from 0) (drop (from + 1) text) (drop spelled.end text) (starts_within text from s within)
      (subst (λ (t : List ℕ). grammar.piece_at grammar.bare t ≡ stops (Ok (drop spelled.end text))) (drop_more text from 0 within) row))

pub bare_error : (text : List ℕ) (from : ℕ) (kind : TclKind) → from < length text → starts (drop from text) ≡ true → (get_or text from 0 ≡ 123 → ⊥) → (get_or text from 0 ≡ 34 → ⊥) → PiecesFrom Bare text from (Err kind) → WordFrom text from (Err kind)
bare_error text from kind within s no_brace no_quote p =
    subst (λ o. IsWordOf o (drop from text) (stops (Err kind))) (sym (bare_here text from within s no_brace no_quote)) (p.0, Err kind, p.1, refl)
