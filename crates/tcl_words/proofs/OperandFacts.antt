-- Operands of expressions that are words, at their places.
use Rattle.std.proofs.Common.{◌≡◌, ◌<◌, ◌+◌, ◌-◌, ℕ, List, [], ◌∷◌, None, Result, Ok, Err, drop, length, get_or, refl, sym, ap, subst, ◌∙◌, arith}
use Rattle.std.proofs.lemmas.List.{drop_more}
use Rattle.std.specs.Str.{IsCharBoundary, IsUtf8}
use Rattle.sdc_base.specs.Gives.{Meets}
use Rattle.sdc_base.specs.declared.memory.Stop.{Stop}
use Rattle.sdc_base.specs.declared.memory.Stop.TheVariants.{NoMemory, Refused}
use Rattle.source_types.specs.declared.commands.Word.{Word}
use Rattle.source_types.specs.declared.expressions.ExpressionToken.TheVariants as token
use Rattle.source_types.specs.declared.kinds.TclKind.{TclKind}
use Rattle.source_types.specs.declared.kinds.TclKind.TheVariants.{BadExpr}
use Rattle.text_model.specs.Enclosed.{after_brace}
use Rattle.tcl_model.specs.ExpressionTokens.{IsBracedToken, IsQuotedToken, TokenFront, malformed, script_token, variable_token}
use Rattle.tcl_model.specs.Pieces as grammar
use Rattle.text_model.specs.Row.{found, stops}
use Rattle.tcl_model.specs.WordParts.{word_of_pieces}
use Rattle.tcl_words.specs.declared.pieces.Piece.{Piece}
use Rattle.tcl_words.specs.declared.pieces.Step.{Step}
use Rattle.tcl_words.specs.declared.pieces.Step.TheVariants.{Ends, Found}
use Rattle.tcl_words.specs.declared.runs.Form.TheVariants.{Braced, Quoted}
use Rattle.tcl_words.specs.declared.spelled.Spelled.{Spelled}
use Rattle.tcl_words.specs.Nests.{ClosesAt}
use Rattle.tcl_words.specs.Operands.{IsFront, IsOnePiece, OperandAt, as_malformed}
use Rattle.tcl_words.specs.Reads.{PiecesFrom, PiecesTo}
use Rattle.tcl_words.specs.Steps.{StepAt, between, piece_of}
use Rattle.tcl_words.proofs.WordFacts.{inner_row, inner_whole}

-- ---- braced

pub braced_open : (text : List ℕ) (from : ℕ) → after_brace (drop (from + 1) text) ≡ None → OperandAt (IsBracedToken (drop (from + 1) text) (after_brace (drop (from + 1) text))) text from (Err BadExpr)
braced_open text from none =
    (refl, subst (λ o. IsBracedToken (drop (from + 1) text) o (stops malformed)) (sym none) refl)

pub braced_stop : (Stands : TokenFront → Type 0) (text inner : List ℕ) (from : ℕ) (stop : Stop TclKind) → Meets {T = Spelled} (Err stop) (PiecesFrom Braced inner 0) → Meets {T = Spelled} (Err stop) (OperandAt Stands text from)
braced_stop Stands text inner from (Refused kind) m = absurd (inner_whole m.0 inner kind m.1)
braced_stop Stands text inner from NoMemory m = tt

pub braced_found : (text inner : List ℕ) (from to : ℕ) (spelled : Spelled) → IsUtf8 text → ClosesAt text (from + 1) to (after_brace (drop (from + 1) text)) → inner ≡ between text (from + 1) (to - 1) → PiecesTo Braced inner 0 spelled → OperandAt (IsBracedToken (drop (from + 1) text) (after_brace (drop (from + 1) text))) text from (Ok (record { word = spelled.word; end = to }))
braced_found text inner from to spelled utf8 c e p = (
  subst (λ o. IsBracedToken (drop (from + 1) text) o (found (token.Word spelled.word) (drop to text))) (sym c.is)
      (p.pieces, inner_row text inner from to spelled c e p, ap (λ (w : Word). found (token.Word w) (drop to text)) p.word),
  omega (arith, c.forward),
  c.within,
  c.after utf8,
)

-- ---- quoted

pub quoted_found : (text : List ℕ) (from : ℕ) (spelled : Spelled) → PiecesTo Quoted text (from + 1) spelled → OperandAt (IsQuotedToken (drop (from + 1) text)) text from (Ok spelled)
quoted_found text from spelled p = (
  (p.pieces, Ok (drop spelled.end text), p.row, ap (λ (w : Word). found (token.Word w) (drop spelled.end text)) p.word),
  omega (arith, p.forward),
  p.within,
  p.boundary,
)

pub quoted_stop : (text : List ℕ) (from : ℕ) (stop other : Stop TclKind) → other ≡ as_malformed stop → Meets {T = Spelled} (Err stop) (PiecesFrom Quoted text (from + 1)) → Meets {T = Spelled} (Err other) (OperandAt (IsQuotedToken (drop (from + 1) text)) text from)
quoted_stop text from stop other e m =
    subst (λ (s : Stop TclKind). Meets {T = Spelled} (Err s) (OperandAt (IsQuotedToken (drop (from + 1) text)) text from)) (sym e) (as_stop stop m) where
      as_stop : (stop : Stop TclKind) → Meets {T = Spelled} (Err stop) (PiecesFrom Quoted text (from + 1)) → Meets {T = Spelled} (Err (as_malformed stop)) (OperandAt (IsQuotedToken (drop (from + 1) text)) text from)
      as_stop (Refused kind) m = (refl, (m.0, Err kind, m.1, refl))
      as_stop NoMemory m = tt

-- ---- substituted

dollar_is : (bs : List ℕ) → grammar.piece_at grammar.bare (36 ∷ bs) ≡ grammar.substituted 36 bs
unfolding grammar.piece_at
dollar_is bs = refl

bracket_is : (bs : List ℕ) → grammar.piece_at grammar.bare (91 ∷ bs) ≡ grammar.substituted 91 bs
unfolding grammar.piece_at
bracket_is bs = refl

-- the piece that stands at a place, by the byte there
dollar_here : (text : List ℕ) (from : ℕ) → from < length text → get_or text from 0 ≡ 36 → grammar.piece_at grammar.bare (drop from text) ≡ grammar.substituted 36 (drop (from + 1) text)
dollar_here text from within e =
    ap (grammar.piece_at grammar.bare) (drop_more text from 0 within ∙ ap (λ (b : ℕ). b ∷ drop (from + 1) text) e) ∙ dollar_is (drop (from + 1) text)

bracket_here : (text : List ℕ) (from : ℕ) → from < length text → get_or text from 0 ≡ 91 → grammar.piece_at grammar.bare (drop from text) ≡ grammar.substituted 91 (drop (from + 1) text)
bracket_here text from within e =
    ap (grammar.piece_at grammar.bare) (drop_more text from 0 within ∙ ap (λ (b : ℕ). b ∷ drop (from + 1) text) e) ∙ bracket_is (drop (from + 1) text)

-- a front that is given by the piece there
by_piece : (as_token : grammar.PieceFront → TokenFront) (text : List ℕ) (from : ℕ) (p q : grammar.PieceFront) (r : Result Spelled TclKind) → q ≡ p → OperandAt (IsFront (as_token q)) text from r → OperandAt (IsFront (as_token p)) text from r
by_piece as_token text from p q r e m = subst (λ (f : grammar.PieceFront). OperandAt (IsFront (as_token f)) text from r) e m

abbrev piece_here : List ℕ → ℕ → grammar.PieceFront
piece_here text from = grammar.piece_at grammar.bare (drop from text)

-- one piece, as the word of an operand
one_word : (as_token : grammar.PieceFront → TokenFront) (text : List ℕ) (from : ℕ) (piece : Piece) (r : Result Spelled (Stop TclKind)) → IsUtf8 text → IsCharBoundary text from → StepAt (piece_here text from) text from (Ok (Found piece)) → Meets r (IsOnePiece text piece) → as_token (found (piece_of text piece) (drop piece.next text)) ≡ found (token.Word (word_of_pieces (piece_of text piece ∷ []))) (drop piece.next text) → Meets r (OperandAt (IsFront (as_token (piece_here text from))) text from)
one_word as_token text from piece (Ok spelled) utf8 cuts step one e =
    let place : drop spelled.end text ≡ drop piece.next text = ap (λ (i : ℕ). drop i text) one.1 in
    let same : found (token.Word spelled.word) (drop spelled.end text) ≡ as_token (piece_here text from) =
    ap (λ (w : Word). found (token.Word w) (drop spelled.end text)) one.0
    ∙ (ap (λ (t : List ℕ). found (token.Word (word_of_pieces (piece_of text piece ∷ []))) t) place
    ∙ (sym e ∙ ap as_token (sym step.0))) in
    (same, omega (arith, one.1, step.1.forward), omega (arith, one.1, step.1.within), subst (λ (i : ℕ). IsCharBoundary text i) (sym one.1) (step.1.keeps_next utf8 cuts))
one_word as_token text from piece (Err (Refused kind)) utf8 cuts step one e = absurd one
one_word as_token text from piece (Err NoMemory) utf8 cuts step one e = tt

-- a front that is no operand
none_here : (as_token : grammar.PieceFront → TokenFront) (text : List ℕ) (from : ℕ) → as_token (piece_here text from) ≡ stops malformed → OperandAt (IsFront (as_token (piece_here text from))) text from (Err BadExpr)
none_here as_token text from e = (refl, sym e)

stop_here : (as_token : grammar.PieceFront → TokenFront) (text : List ℕ) (from : ℕ) (stop other : Stop TclKind) → ((kind : TclKind) → as_token (stops (Err kind)) ≡ stops malformed) → other ≡ as_malformed stop → Meets {T = Step} (Err stop) (StepAt (piece_here text from) text from) → Meets {T = Spelled} (Err other) (OperandAt (IsFront (as_token (piece_here text from))) text from)
stop_here as_token text from stop other h e m =
    subst (λ (s : Stop TclKind). Meets {T = Spelled} (Err s) (OperandAt (IsFront (as_token (piece_here text from))) text from)) (sym e) (as_stop stop m) where
      as_stop : (stop : Stop TclKind) → Meets {T = Step} (Err stop) (StepAt (piece_here text from) text from) → Meets {T = Spelled} (Err (as_malformed stop)) (OperandAt (IsFront (as_token (piece_here text from))) text from)
      as_stop (Refused kind) m = none_here as_token text from (ap as_token m ∙ h kind)
      as_stop NoMemory m = tt

abbrev variable_at : List ℕ → ℕ → TokenFront → Type 0
variable_at text from = IsFront (variable_token (grammar.substituted 36 (drop (from + 1) text)))

abbrev script_at : List ℕ → ℕ → TokenFront → Type 0
script_at text from = IsFront (script_token (grammar.substituted 91 (drop (from + 1) text)))

meets_by : (as_token : grammar.PieceFront → TokenFront) (text : List ℕ) (from : ℕ) (p q : grammar.PieceFront) (r : Result Spelled (Stop TclKind)) → q ≡ p → Meets r (OperandAt (IsFront (as_token q)) text from) → Meets r (OperandAt (IsFront (as_token p)) text from)
meets_by as_token text from p q r e m = subst (λ (f : grammar.PieceFront). Meets r (OperandAt (IsFront (as_token f)) text from)) e m

pub variable_found : (text : List ℕ) (from : ℕ) (piece : Piece) (r : Result Spelled (Stop TclKind)) → IsUtf8 text → IsCharBoundary text from → from < length text → get_or text from 0 ≡ 36 → StepAt (piece_here text from) text from (Ok (Found piece)) → variable_token (found (piece_of text piece) (drop piece.next text)) ≡ found (token.Word (word_of_pieces (piece_of text piece ∷ []))) (drop piece.next text) → Meets r (IsOnePiece text piece) → Meets r (OperandAt (variable_at text from) text from)
variable_found text from piece r utf8 cuts within e step is one =
    meets_by variable_token text from (grammar.substituted 36 (drop (from + 1) text)) (piece_here text from) r (dollar_here text from within e)
    (one_word variable_token text from piece r utf8 cuts step one is)

pub variable_text : (text : List ℕ) (from : ℕ) (piece : Piece) → from < length text → get_or text from 0 ≡ 36 → StepAt (piece_here text from) text from (Ok (Found piece)) → variable_token (found (piece_of text piece) (drop piece.next text)) ≡ stops malformed → OperandAt (variable_at text from) text from (Err BadExpr)
variable_text text from piece within e step is =
    by_piece variable_token text from (grammar.substituted 36 (drop (from + 1) text)) (piece_here text from) (Err BadExpr) (dollar_here text from within e)
    (none_here variable_token text from (ap variable_token step.0 ∙ is))

pub variable_ends : (text : List ℕ) (from to : ℕ) → from < length text → get_or text from 0 ≡ 36 → StepAt (piece_here text from) text from (Ok (Ends to)) → OperandAt (variable_at text from) text from (Err BadExpr)
variable_ends text from to within e step =
    by_piece variable_token text from (grammar.substituted 36 (drop (from + 1) text)) (piece_here text from) (Err BadExpr) (dollar_here text from within e)
    (none_here variable_token text from (ap variable_token step.0))

pub variable_stop : (text : List ℕ) (from : ℕ) (stop other : Stop TclKind) → from < length text → get_or text from 0 ≡ 36 → other ≡ as_malformed stop → Meets {T = Step} (Err stop) (StepAt (piece_here text from) text from) → Meets {T = Spelled} (Err other) (OperandAt (variable_at text from) text from)
variable_stop text from stop other within e same m =
    meets_by variable_token text from (grammar.substituted 36 (drop (from + 1) text)) (piece_here text from) (Err other) (dollar_here text from within e)
    (stop_here variable_token text from stop other (λ kind. refl) same m)

pub script_found : (text : List ℕ) (from : ℕ) (piece : Piece) (r : Result Spelled (Stop TclKind)) → IsUtf8 text → IsCharBoundary text from → from < length text → get_or text from 0 ≡ 91 → StepAt (piece_here text from) text from (Ok (Found piece)) → Meets r (IsOnePiece text piece) → Meets r (OperandAt (script_at text from) text from)
script_found text from piece r utf8 cuts within e step one =
    meets_by script_token text from (grammar.substituted 91 (drop (from + 1) text)) (piece_here text from) r (bracket_here text from within e)
    (one_word script_token text from piece r utf8 cuts step one refl)

pub script_ends : (text : List ℕ) (from to : ℕ) → from < length text → get_or text from 0 ≡ 91 → StepAt (piece_here text from) text from (Ok (Ends to)) → OperandAt (script_at text from) text from (Err BadExpr)
script_ends text from to within e step =
    by_piece script_token text from (grammar.substituted 91 (drop (from + 1) text)) (piece_here text from) (Err BadExpr) (bracket_here text from within e)
    (none_here script_token text from (ap script_token step.0))

pub script_stop : (text : List ℕ) (from : ℕ) (stop other : Stop TclKind) → from < length text → get_or text from 0 ≡ 91 → other ≡ as_malformed stop → Meets {T = Step} (Err stop) (StepAt (piece_here text from) text from) → Meets {T = Spelled} (Err other) (OperandAt (script_at text from) text from)
script_stop text from stop other within e same m =
    meets_by script_token text from (grammar.substituted 91 (drop (from + 1) text)) (piece_here text from) (Err other) (bracket_here text from within e)
    (stop_here script_token text from stop other (λ kind. refl) same m)
