-- What was read at a place is the token that the grammar has there.
use Rattle.std.proofs.Common.{◌≡◌, ◌∙◌, ◌+◌, ◌<◌, ◌≤◌, ◌==◌, ◌∷◌, ℕ, Bool, true, false, List, [], Option, None, Some, drop, get_or, length, take, refl, sym, ap, subst, arith}
use Rattle.std.specs.Prelude.{◌||◌, ◌&&◌, nat_lt, not}
use Rattle.std.specs.List.{prefix_len}
use Rattle.std.specs.Str.{IsCharBoundary, IsUtf8}
use Rattle.std.proofs.lemmas.Bool.{and_parts}
use Rattle.std.proofs.lemmas.Bool.Decides.{nat_tests}
use Rattle.std.proofs.lemmas.List.{drop-drop, drop_more, length-drop}
use Rattle.std.proofs.lemmas.Str.{IsCharBoundary-after_ascii}
use Rattle.source_types.specs.declared.verilog_tokens.VerilogToken.{VerilogToken}
use Rattle.source_types.specs.declared.verilog_tokens.VerilogToken.TheVariants as kind
use Rattle.text_model.specs.Bytes.{is_digit, is_letter}
use Rattle.netlist_model.specs.VerilogConstants.{is_base_letter, lower, number_kind}
use Rattle.netlist_model.specs.VerilogTokens as grammar
use Rattle.netlist_model.specs.VerilogWords.{word_kind}
use Rattle.verilog_net.specs.declared.lexing.lexed.Lexed.{Lexed}
use Rattle.verilog_net.specs.declared.lexing.runs.Run.TheVariants.{Word, Number, Digits}
use Rattle.verilog_net.specs.Runs.{test_of}
use Rattle.verilog_net.specs.Seen.{IsLexed, has_base_letter}

same_lexed : (k j : VerilogToken) (t u : List ℕ) (b c : Option ℕ) (r s : List ℕ) → k ≡ j → t ≡ u → b ≡ c → r ≡ s → ◌≡◌ {A = grammar.Lexed} (record { kind = k; text = t; base = b; after = r }) (record { kind = j; text = u; base = c; after = s })
same_lexed k j t u b c r s e f g h = cc

-- ---- first bytes of a text

-- the first bytes of a text from a place on
first_lexed : (text bytes : List ℕ) (from at len : ℕ) (kind_of : List ℕ → VerilogToken) (lexed : Lexed)
    → drop from text ≡ bytes → lexed.text.now ≡ take len bytes → lexed.kind ≡ kind_of lexed.text.now → lexed.base ≡ None → lexed.next ≡ from + len → at < lexed.next → lexed.next ≤ length text
    → IsLexed text at (grammar.first_bytes kind_of len bytes) lexed
first_lexed text bytes from at len kind_of lexed begins is kind_is base next further within = record {
  is = same_lexed lexed.kind (kind_of (take len bytes)) lexed.text.now (take len bytes) lexed.base None (drop lexed.next text) (drop len bytes)
      (kind_is ∙ ap kind_of is) is base
      (ap (λ (i : ℕ). drop i text) next ∙ (sym (drop-drop len from text) ∙ ap (drop len) begins));
  further = further;
  within = within;
}

pub word_byte : (b : ℕ) → grammar.begins_word b ≡ true → test_of Word b ≡ true
word_byte b h = first (is_letter b) (is_digit b) (b == 95) (b == 36) h where
  first : (letter digit underscore dollar : Bool) → (letter || underscore) ≡ true → ((letter || digit || underscore) || dollar) ≡ true
  first true digit underscore dollar h = refl
  first false true underscore dollar h = refl
  first false false true dollar h = refl
  first false false false dollar h = cc

pub number_byte : (b : ℕ) → is_digit b ≡ true → test_of Number b ≡ true
number_byte b h = first (is_digit b) (b == 95) h where
  first : (digit underscore : Bool) → digit ≡ true → (digit || underscore) ≡ true
  first true underscore h = refl
  first false underscore h = cc

pub word_lexed : (text word : List ℕ) (at : ℕ) (lexed : Lexed) → at < length text
    → word ≡ take (prefix_len (test_of Word) (drop at text)) (drop at text) → length word ≡ prefix_len (test_of Word) (drop at text) → 0 < length word → at + length word ≤ length text
    → lexed.kind ≡ word_kind word → lexed.text.now ≡ word → lexed.base ≡ None → lexed.next ≡ at + length word
    → IsLexed text at (grammar.word_token (get_or text at 0 ∷ drop (at + 1) text)) lexed
word_lexed text word at lexed less is len some fits kind_is same base next =
    subst (λ (t : List ℕ). IsLexed text at (grammar.word_token t) lexed) (drop_more text at 0 less)
    (first_lexed text (drop at text) at at (prefix_len (test_of Word) (drop at text)) word_kind lexed refl (same ∙ is) (kind_is ∙ ap word_kind (sym same)) base
    (next ∙ ap (λ (n : ℕ). at + n) len) (omega (arith, next, some)) (omega (arith, next, fits)))

pub number_lexed : (text number : List ℕ) (at : ℕ) (lexed : Lexed) → at < length text
    → number ≡ take (prefix_len (test_of Number) (drop at text)) (drop at text) → length number ≡ prefix_len (test_of Number) (drop at text) → 0 < length number → at + length number ≤ length text
    → lexed.kind ≡ number_kind number → lexed.text.now ≡ number → lexed.base ≡ None → lexed.next ≡ at + length number
    → IsLexed text at (grammar.number_token (get_or text at 0 ∷ drop (at + 1) text)) lexed
number_lexed text number at lexed less is len some fits kind_is same base next =
    subst (λ (t : List ℕ). IsLexed text at (grammar.number_token t) lexed) (drop_more text at 0 less)
    (first_lexed text (drop at text) at at (prefix_len (test_of Number) (drop at text)) number_kind lexed refl (same ∙ is) (kind_is ∙ ap number_kind (sym same)) base
    (next ∙ ap (λ (n : ℕ). at + n) len) (omega (arith, next, some)) (omega (arith, next, fits)))

pub digits_lexed : (text digits : List ℕ) (at letter : ℕ) (lexed : Lexed) → at < length text
    → digits ≡ take (prefix_len (test_of Digits) (drop at text)) (drop at text) → length digits ≡ prefix_len (test_of Digits) (drop at text) → 0 < length digits → at + length digits ≤ length text
    → lexed.kind ≡ grammar.digits_kind letter digits → lexed.text.now ≡ digits → lexed.base ≡ None → lexed.next ≡ at + length digits
    → IsLexed text at (grammar.digits_token letter (get_or text at 0 ∷ drop (at + 1) text)) lexed
digits_lexed text digits at letter lexed less is len some fits kind_is same base next =
    subst (λ (t : List ℕ). IsLexed text at (grammar.digits_token letter t) lexed) (drop_more text at 0 less)
    (first_lexed text (drop at text) at at (prefix_len (test_of Digits) (drop at text)) (grammar.digits_kind letter) lexed refl (same ∙ is) (kind_is ∙ ap (grammar.digits_kind letter) (sym same)) base
    (next ∙ ap (λ (n : ℕ). at + n) len) (omega (arith, next, some)) (omega (arith, next, fits)))

-- right after a backslash no character is cut
pub after_backslash : (text : List ℕ) (at : ℕ) → IsUtf8 text → at < length text → get_or text at 0 ≡ 92 → IsCharBoundary text (at + 1)
after_backslash text at utf8 within is = IsCharBoundary-after_ascii text at utf8 within (omega (arith, is))

pub escaped_lexed : (text name : List ℕ) (at : ℕ) (lexed : Lexed) → at < length text
    → name ≡ take (prefix_len (λ b. not (grammar.is_blank b)) (drop (at + 1) text)) (drop (at + 1) text) → length name ≡ prefix_len (λ b. not (grammar.is_blank b)) (drop (at + 1) text) → at + 1 + length name ≤ length text
    → lexed.kind ≡ kind.Name → lexed.text.now ≡ name → lexed.base ≡ None → lexed.next ≡ at + 1 + length name
    → IsLexed text at (grammar.escaped_token (drop (at + 1) text)) lexed
escaped_lexed text name at lexed less is len fits kind_is same base next =
    first_lexed text (drop (at + 1) text) (at + 1) at (prefix_len (λ b. not (grammar.is_blank b)) (drop (at + 1) text)) (λ n. kind.Name) lexed refl (same ∙ is) kind_is base
    (next ∙ ap (λ (n : ℕ). at + 1 + n) len) (omega (arith, next)) (omega (arith, next, fits))

-- ---- marks and bases

pub mark_lexed : (text : List ℕ) (at : ℕ) (k : VerilogToken) (lexed : Lexed) → at < length text
    → lexed.kind ≡ k → lexed.text.now ≡ [] → lexed.base ≡ None → lexed.next ≡ at + 1
    → IsLexed text at (grammar.plain k [] (drop (at + 1) text)) lexed
mark_lexed text at k lexed less kind_is is base next = record {
  is = same_lexed lexed.kind k lexed.text.now [] lexed.base None (drop lexed.next text) (drop (at + 1) text) kind_is is base (ap (λ (i : ℕ). drop i text) next);
  further = omega (arith, next);
  within = omega (arith, next, less);
}

has_letter : (text : List ℕ) (at : ℕ) → has_base_letter text at ≡ true → (at < length text) × (is_base_letter (get_or text at 0) ≡ true)
has_letter text at h =
    let both = and_parts (nat_lt at (length text)) (is_base_letter (get_or text at 0)) h in
    let first : nat_lt at (length text) ≡ true = both.0 in
    (grind (arith, nat_tests), both.1)

pub base_within : (text : List ℕ) (at : ℕ) → has_base_letter text at ≡ true → at < length text
base_within text at h = (has_letter text at h).0

letter_small : (b : ℕ) → is_base_letter b ≡ true → b < 128
letter_small b h = grind (arith, nat_tests)

pub base_ascii : (text : List ℕ) (at : ℕ) → has_base_letter text at ≡ true → get_or text at 0 < 128
base_ascii text at h = letter_small (get_or text at 0) (has_letter text at h).1

letter_token : (b : ℕ) (bs : List ℕ) → is_base_letter b ≡ true → ◌≡◌ {A = grammar.Lexed} (record { kind = kind.Base; text = b ∷ []; base = Some (lower b); after = bs }) (grammar.base_token (b ∷ bs))
letter_token b bs h = rw h refl

pub base_lexed : (text : List ℕ) (at : ℕ) (lexed : Lexed) → has_base_letter text (at + 1) ≡ true
    → lexed.kind ≡ kind.Base → lexed.text.now ≡ get_or text (at + 1) 0 ∷ [] → lexed.base ≡ Some (lower (get_or text (at + 1) 0)) → lexed.next ≡ at + 2
    → IsLexed text at (grammar.base_token (drop (at + 1) text)) lexed
base_lexed text at lexed h kind_is is base next =
    let has = has_letter text (at + 1) h in
    let after : drop lexed.next text ≡ drop (at + 1 + 1) text = ap (λ (i : ℕ). drop i text) (omega (arith, next)) in
    record {
      is = same_lexed lexed.kind kind.Base lexed.text.now (get_or text (at + 1) 0 ∷ []) lexed.base (Some (lower (get_or text (at + 1) 0))) (drop lexed.next text) (drop (at + 1 + 1) text) kind_is is base after
          ∙ (letter_token (get_or text (at + 1) 0) (drop (at + 1 + 1) text) has.1 ∙ ap grammar.base_token (sym (drop_more text (at + 1) 0 has.0)));
      further = omega (arith, next);
      within = omega (arith, next, has.0);
    }

no_letter : (text : List ℕ) (at : ℕ) (rest : List ℕ) → drop at text ≡ rest → has_base_letter text at ≡ false → grammar.base_token rest ≡ grammar.plain kind.Other [] rest
no_letter text at [] e h = refl
no_letter text at (b ∷ bs) e h =
    let less : at < length text = omega (arith, ap length e, length-drop at text) in
    let same : get_or text at 0 ∷ drop (at + 1) text ≡ b ∷ bs = sym (drop_more text at 0 less) ∙ e in
    let head : get_or text at 0 ≡ b = cc in
    let inside : nat_lt at (length text) ≡ true = grind (arith, nat_tests) in
    let none : is_base_letter (get_or text at 0) ≡ false = ap (λ t. t && is_base_letter (get_or text at 0)) (sym inside) ∙ h in
    let last : is_base_letter b ≡ false = ap is_base_letter (sym head) ∙ none in
    rw last refl

pub no_base_lexed : (text : List ℕ) (at : ℕ) (lexed : Lexed) → at < length text → has_base_letter text (at + 1) ≡ false
    → lexed.kind ≡ kind.Other → lexed.text.now ≡ [] → lexed.base ≡ None → lexed.next ≡ at + 1
    → IsLexed text at (grammar.base_token (drop (at + 1) text)) lexed
no_base_lexed text at lexed less h kind_is is base next =
    subst (λ (t : grammar.Lexed). IsLexed text at t lexed) (sym (no_letter text (at + 1) (drop (at + 1) text) refl h))
    (mark_lexed text at kind.Other lexed less kind_is is base next)
