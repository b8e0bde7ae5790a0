-- Tokens of an expression at their places: blanks before them, what begins with which byte, and that one stands there.
use Rattle.std.proofs.Common.{◌≡◌, ◌<◌, ◌≤◌, ◌+◌, ◌==◌, ◌||◌, ℕ, true, false, List, [], ◌∷◌, Option, Some, None, Result, Ok, Err, drop, length, get_or, refl, sym, ap, subst, ◌∙◌, arith}
use Rattle.std.proofs.lemmas.Bool.{ne_eqb}
use Rattle.std.proofs.lemmas.Bool.Decides.{nat_tests}
use Rattle.std.proofs.lemmas.List.{drop_more}
use Rattle.std.specs.Str.{IsCharBoundary, IsUtf8}
use Rattle.sdc_base.specs.Gives.{Meets}
use Rattle.sdc_base.specs.declared.memory.Stop.{Stop}
use Rattle.sdc_base.specs.declared.memory.Stop.TheVariants.{NoMemory, Refused}
use Rattle.source_types.specs.declared.kinds.TclKind.{TclKind}
use Rattle.text_model.specs.Bytes.{before, is_digit}
use Rattle.text_model.specs.Enclosed.{after_brace}
use Rattle.tcl_model.specs.ExpressionTokens.{IsBracedToken, IsQuotedToken, IsTokenOf, Lexeme, StandsToken, TokenFront, after_number, brace_opens, bracket_opens, closed_word, dollar_opens, from_token, is_passed, lexeme, all_read, number_opens, number_token, operator_front, other_byte, quote_opens, script_token, text_end, variable_token}
use Rattle.tcl_model.specs.Pieces as grammar
use Rattle.text_model.specs.Row.{HasOne, found, stops}
use Rattle.tcl_words.specs.declared.spelled.Spelled.{Spelled}
use Rattle.tcl_words.specs.Operands.{IsFront, OperandAt}
use Rattle.tcl_words.specs.Spans.{Keeps, LeadsTo}
use Rattle.tcl_words.proofs.OneOutcome.{pieces_once}
use Rattle.tcl_words.proofs.Refusals.{IsRefused, meets_refusal}
use Rattle.tcl_words.proofs.RunFacts.{drop_all, keeps_one}
use Rattle.tcl_eval.specs.declared.expressions.lexed.Lexed.{Lexed}
use Rattle.tcl_eval.specs.Lexing.{LexedAt, TokenFrom, word_token}

-- ---- blanks before a token

-- all from a place to another is passed over
pub record PassedTo (text : List ℕ) (from at : ℕ) : Type 0 where
  pub same : from_token (drop from text) ≡ from_token (drop at text)
  pub forward : from ≤ at
  pub within : at ≤ length text
  pub keeps : Keeps text from at

pub passed_none : (text : List ℕ) (from : ℕ) → from ≤ length text → PassedTo text from from
passed_none text from within = record { same = refl; forward = omega arith; within = within; keeps = λ utf8 cuts. cuts }

passed_small : (b : ℕ) (bs : List ℕ) → is_passed b bs ≡ true → b < 128
passed_small b bs p = grind (arith, nat_tests)

pass : (b : ℕ) (bs : List ℕ) → is_passed b bs ≡ true → from_token (b ∷ bs) ≡ from_token bs
unfolding from_token
pass b bs p = rw p refl

no_pass : (b : ℕ) (bs : List ℕ) → is_passed b bs ≡ false → from_token (b ∷ bs) ≡ b ∷ bs
unfolding from_token
no_pass b bs p = rw p refl

pass_end : from_token [] ≡ []
unfolding from_token
pass_end = refl

pub passed_more : (text : List ℕ) (from at : ℕ) → PassedTo text from at → at < length text → is_passed (get_or text at 0) (drop (at + 1) text) ≡ true → PassedTo text from (at + 1)
passed_more text from at passed within p = record {
  same = passed.same ∙ (ap from_token (drop_more text at 0 within) ∙ pass (get_or text at 0) (drop (at + 1) text) p);
  forward = omega (arith, passed.forward);
  within = omega (arith, within);
  keeps = λ utf8 cuts. keeps_one text at within (passed_small (get_or text at 0) (drop (at + 1) text) p) utf8 (passed.keeps utf8 cuts);
}

pub passed_token : (text : List ℕ) (from at : ℕ) → PassedTo text from at → at < length text → is_passed (get_or text at 0) (drop (at + 1) text) ≡ false → LeadsTo text from at (from_token (drop from text))
passed_token text from at passed within p = record {
  is = passed.same ∙ (ap from_token (drop_more text at 0 within) ∙ (no_pass (get_or text at 0) (drop (at + 1) text) p ∙ sym (drop_more text at 0 within)));
  forward = passed.forward;
  within = passed.within;
  keeps = passed.keeps;
}

pub passed_all : (text : List ℕ) (from at : ℕ) → PassedTo text from at → length text ≤ at → LeadsTo text from at (from_token (drop from text))
passed_all text from at passed ends =
    let e : at ≡ length text = omega (arith, passed.within, ends) in
    record {
      is = passed.same ∙ (ap from_token (drop_all text at e) ∙ (pass_end ∙ sym (drop_all text at e)));
      forward = passed.forward;
      within = passed.within;
      keeps = passed.keeps;
    }

-- ---- what begins with a byte

lexeme_here : (text : List ℕ) (at : ℕ) (l : Lexeme) (r : Result Lexed (Stop TclKind)) → lexeme (drop at text) ≡ l → Meets r (LexedAt (IsTokenOf l (drop at text)) text at) → Meets r (LexedAt (IsTokenOf (lexeme (drop at text)) (drop at text)) text at)
lexeme_here text at l r e m = subst (λ (k : Lexeme). Meets r (LexedAt (IsTokenOf k (drop at text)) text at)) (sym e) m

at_byte : (text : List ℕ) (at : ℕ) → at < length text → lexeme (drop at text) ≡ lexeme (get_or text at 0 ∷ drop (at + 1) text)
at_byte text at within = ap lexeme (drop_more text at 0 within)

byte_is : (text : List ℕ) (at b : ℕ) → at < length text → get_or text at 0 ≡ b → lexeme (drop at text) ≡ lexeme (b ∷ drop (at + 1) text)
byte_is text at b within e = at_byte text at within ∙ ap (λ (c : ℕ). lexeme (c ∷ drop (at + 1) text)) e

-- a word that was found, as a token
word_found : (Stands : TokenFront → Type 0) (text : List ℕ) (at : ℕ) (r : Result Spelled (Stop TclKind)) (s : Result Lexed (Stop TclKind)) → s ≡ word_token r → Meets r (OperandAt Stands text at) → Meets s (LexedAt Stands text at)
word_found Stands text at r s e m = subst (λ (x : Result Lexed (Stop TclKind)). Meets x (LexedAt Stands text at)) (sym e) (as_token r m) where
  as_token : (r : Result Spelled (Stop TclKind)) → Meets r (OperandAt Stands text at) → Meets (word_token r) (LexedAt Stands text at)
  as_token (Ok spelled) m = (m.0, m.1, m.2, λ utf8 cuts. m.3)
  as_token (Err (Refused kind)) m = m
  as_token (Err NoMemory) m = tt

pub brace_begins : (text : List ℕ) (at : ℕ) (r : Result Spelled (Stop TclKind)) (s : Result Lexed (Stop TclKind)) → at < length text → get_or text at 0 ≡ 123 → s ≡ word_token r → Meets r (OperandAt (IsBracedToken (drop (at + 1) text) (after_brace (drop (at + 1) text))) text at) → Meets s (LexedAt (IsTokenOf (lexeme (drop at text)) (drop at text)) text at)
brace_begins text at r s within b e m =
    lexeme_here text at (brace_opens (drop (at + 1) text)) s (byte_is text at 123 within b)
    (word_found (IsBracedToken (drop (at + 1) text) (after_brace (drop (at + 1) text))) text at r s e m)

pub quote_begins : (text : List ℕ) (at : ℕ) (r : Result Spelled (Stop TclKind)) (s : Result Lexed (Stop TclKind)) → at < length text → get_or text at 0 ≡ 34 → s ≡ word_token r → Meets r (OperandAt (IsQuotedToken (drop (at + 1) text)) text at) → Meets s (LexedAt (IsTokenOf (lexeme (drop at text)) (drop at text)) text at)
quote_begins text at r s within b e m =
    lexeme_here text at (quote_opens (drop (at + 1) text)) s (byte_is text at 34 within b)
    (word_found (IsQuotedToken (drop (at + 1) text)) text at r s e m)

pub dollar_begins : (text : List ℕ) (at : ℕ) (r : Result Spelled (Stop TclKind)) (s : Result Lexed (Stop TclKind)) → at < length text → get_or text at 0 ≡ 36 → s ≡ word_token r → Meets r (OperandAt (IsFront (variable_token (grammar.substituted 36 (drop (at + 1) text)))) text at) → Meets s (LexedAt (IsTokenOf (lexeme (drop at text)) (drop at text)) text at)
dollar_begins text at r s within b e m =
    lexeme_here text at (dollar_opens (drop (at + 1) text)) s (byte_is text at 36 within b)
    (word_found (IsFront (variable_token (grammar.substituted 36 (drop (at + 1) text)))) text at r s e m)

pub bracket_begins : (text : List ℕ) (at : ℕ) (r : Result Spelled (Stop TclKind)) (s : Result Lexed (Stop TclKind)) → at < length text → get_or text at 0 ≡ 91 → s ≡ word_token r → Meets r (OperandAt (IsFront (script_token (grammar.substituted 91 (drop (at + 1) text)))) text at) → Meets s (LexedAt (IsTokenOf (lexeme (drop at text)) (drop at text)) text at)
bracket_begins text at r s within b e m =
    lexeme_here text at (bracket_opens (drop (at + 1) text)) s (byte_is text at 91 within b)
    (word_found (IsFront (script_token (grammar.substituted 91 (drop (at + 1) text)))) text at r s e m)

-- none of the bytes with which a word begins
pub record NoWord (b : ℕ) : Type 0 where
  pub brace : b ≡ 123 → ⊥
  pub quote : b ≡ 34 → ⊥
  pub dollar : b ≡ 36 → ⊥
  pub bracket : b ≡ 91 → ⊥

number_lexeme : (b : ℕ) (bs : List ℕ) → NoWord b → (is_digit b || b == 46) ≡ true → lexeme (b ∷ bs) ≡ number_opens
number_lexeme b bs n p = rw (ne_eqb b 123 n.brace, ne_eqb b 34 n.quote, ne_eqb b 36 n.dollar, ne_eqb b 91 n.bracket, p) refl

other_lexeme : (b : ℕ) (bs : List ℕ) → NoWord b → (is_digit b || b == 46) ≡ false → lexeme (b ∷ bs) ≡ other_byte b bs
other_lexeme b bs n p = rw (ne_eqb b 123 n.brace, ne_eqb b 34 n.quote, ne_eqb b 36 n.dollar, ne_eqb b 91 n.bracket, p) refl

pub number_begins : (text : List ℕ) (at : ℕ) (r : Result Lexed TclKind) (s : Result Lexed (Stop TclKind)) → at < length text → (get_or text at 0 ≡ 123 → ⊥) → (get_or text at 0 ≡ 34 → ⊥) → (get_or text at 0 ≡ 36 → ⊥) → (get_or text at 0 ≡ 91 → ⊥) → (is_digit (get_or text at 0) || get_or text at 0 == 46) ≡ true → IsRefused r s → LexedAt (IsFront (number_token (drop at text) (after_number (drop at text)))) text at r → Meets s (LexedAt (IsTokenOf (lexeme (drop at text)) (drop at text)) text at)
number_begins text at r s within brace quote dollar bracket p e m =
    let n : NoWord (get_or text at 0) = record { brace = brace; quote = quote; dollar = dollar; bracket = bracket } in
    lexeme_here text at number_opens s (at_byte text at within ∙ number_lexeme (get_or text at 0) (drop (at + 1) text) n p)
    (meets_refusal r s (LexedAt (IsTokenOf number_opens (drop at text)) text at) e m)

pub other_begins : (text : List ℕ) (at : ℕ) (r : Result Lexed TclKind) (s : Result Lexed (Stop TclKind)) → at < length text → (get_or text at 0 ≡ 123 → ⊥) → (get_or text at 0 ≡ 34 → ⊥) → (get_or text at 0 ≡ 36 → ⊥) → (get_or text at 0 ≡ 91 → ⊥) → (is_digit (get_or text at 0) || get_or text at 0 == 46) ≡ false → IsRefused r s → LexedAt (IsFront (operator_front (get_or text at 0) (drop (at + 1) text))) text at r → Meets s (LexedAt (IsTokenOf (lexeme (drop at text)) (drop at text)) text at)
other_begins text at r s within brace quote dollar bracket p e m =
    let n : NoWord (get_or text at 0) = record { brace = brace; quote = quote; dollar = dollar; bracket = bracket } in
    lexeme_here text at (other_byte (get_or text at 0) (drop (at + 1) text)) s (at_byte text at within ∙ other_lexeme (get_or text at 0) (drop (at + 1) text) n p)
    (meets_refusal r s (LexedAt (IsTokenOf (other_byte (get_or text at 0) (drop (at + 1) text)) (drop at text)) text at) e m)

-- ---- after blanks

pub token_end : (text : List ℕ) (from at : ℕ) → LeadsTo text from at (from_token (drop from text)) → at ≡ length text → TokenFrom text from (Ok None)
token_end text from at leads e =
    subst (λ (t : List ℕ). IsTokenOf (lexeme t) t (stops all_read)) (sym (leads.is ∙ drop_all text at e)) refl

after_blanks : (text : List ℕ) (from at : ℕ) (front : TokenFront) → LeadsTo text from at (from_token (drop from text)) → IsTokenOf (lexeme (drop at text)) (drop at text) front → StandsToken (drop from text) front
after_blanks text from at front leads stands = subst (λ (t : List ℕ). IsTokenOf (lexeme t) t front) (sym leads.is) stands

pub token_found : (text : List ℕ) (from at : ℕ) (lexed : Lexed) → IsUtf8 text → IsCharBoundary text from → LeadsTo text from at (from_token (drop from text)) → LexedAt (IsTokenOf (lexeme (drop at text)) (drop at text)) text at (Ok lexed) → TokenFrom text from (Ok (Some lexed))
token_found text from at lexed utf8 cuts leads m =
    (after_blanks text from at (found lexed.token (drop lexed.end text)) leads m.0, omega (arith, leads.forward, m.1), m.2, m.3 utf8 (leads.keeps utf8 cuts))

-- ---- one token stands at a place

braced_once : (inside : List ℕ) (o : Option (List ℕ)) (f g : TokenFront) → IsBracedToken inside o f → IsBracedToken inside o g → f ≡ g
braced_once inside None f g x y = x ∙ sym y
braced_once inside (Some rest) f g x y =
    let one = pieces_once grammar.braced x.0 y.0 (before inside (125 ∷ rest)) (Ok []) (Ok []) x.1 y.1 in
    x.2 ∙ (ap (λ ps. closed_word ps (Ok rest)) one.0 ∙ sym y.2)

token_of_once : (l : Lexeme) (bytes : List ℕ) (f g : TokenFront) → IsTokenOf l bytes f → IsTokenOf l bytes g → f ≡ g
token_of_once text_end bytes f g x y = x ∙ sym y
token_of_once (brace_opens inside) bytes f g x y = braced_once inside (after_brace inside) f g x y
token_of_once (quote_opens inside) bytes f g x y =
    let one = pieces_once grammar.quoted x.0 y.0 inside x.1 y.1 x.2 y.2 in
    x.3 ∙ (ap (λ ps. closed_word ps x.1) one.0 ∙ (ap (λ e. closed_word y.0 e) one.1 ∙ sym y.3))
token_of_once (dollar_opens inside) bytes f g x y = x ∙ sym y
token_of_once (bracket_opens inside) bytes f g x y = x ∙ sym y
token_of_once number_opens bytes f g x y = x ∙ sym y
token_of_once (other_byte b bs) bytes f g x y = x ∙ sym y

pub token_once : (bytes : List ℕ) → HasOne StandsToken bytes
token_once bytes f g x y = token_of_once (lexeme (from_token bytes)) (from_token bytes) f g x y
