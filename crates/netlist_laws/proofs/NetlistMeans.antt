-- Bytes have a meaning as a netlist: their tokens stand in a row, since each leaves less text after it, and the
-- machine finds their first syntax error.
use Rattle.std.proofs.Common.{◌≡◌, ◌+◌, ◌<◌, ◌≤◌, ℕ, zero, suc, Bool, true, false, List, [], ◌∷◌, Option, None, Some, Result, drop, length, refl, sym, subst, inl, inr, arith}
use Rattle.std.specs.Prelude.{◌==◌, ◌||◌, not, if◌then◌else◌}
use Rattle.std.specs.List.{prefix_len}
use Rattle.std.specs.Str.{IsUtf8, is_utf8}
use Rattle.std.proofs.lemmas.Bool.{or_left}
use Rattle.std.proofs.lemmas.List.{length-drop}
use Rattle.std.proofs.lemmas.Str.{IsUtf8-from_is_utf8}
use Rattle.text_model.proofs.BrokenTexts.{no_text}
use Rattle.token_grammar.proofs.SyntaxErrors.{error_is}
use Rattle.token_grammar.proofs.Derivations.{by_option}
use Rattle.token_grammar.specs.Machine.{error_of}
use Rattle.sdc_base.proofs.CaseFacts.{by_bool}
use Rattle.sdc_base.specs.declared.memory.At.{At}
use Rattle.text_model.proofs.RowFacts.{not_both, same_place}
use Rattle.netlist_model.proofs.VerilogDecides.{decides, follow}
use Rattle.source_types.specs.declared.fault_kinds.VerilogKind.{VerilogKind}
use Rattle.source_types.specs.declared.fault_kinds.VerilogKind.TheVariants.{NotText}
use Rattle.source_types.specs.declared.netlists.Module.{Module}
use Rattle.source_types.specs.declared.verilog_tokens.VerilogSymbol.TheVariants.{Source}
use Rattle.source_types.specs.declared.verilog_tokens.VerilogToken.TheVariants as kind
use Rattle.text_model.specs.Bytes.{is_digit, is_letter}
use Rattle.text_model.specs.LastLine.{broken_text_line}
use Rattle.text_model.specs.Row.{Front, Row, found, stops}
use Rattle.netlist_model.specs.Verilog.{ReadsText, ReadsVerilog, fault, meaning}
use Rattle.netlist_model.specs.VerilogConstants.{is_base_letter, is_digits_byte, is_number_byte, lower}
use Rattle.netlist_model.specs.VerilogGrammar.{verilog}
use Rattle.netlist_model.specs.VerilogKinds.{kinds_of}
use Rattle.netlist_model.specs.VerilogTokens.{Gap, Lexed, Place, Token, base_token, begins_word, after_gap, between, closes, digits_token, ended_gap, escaped_token, first_place, front_after, gap_after, inside, is_blank, is_word_byte, mark_kind, number_token, opens, plain, plain_token, rest_of_line, token_at, token_after, word_token}

-- ---- what is left after a run of bytes

left : (len : ℕ) (text : List ℕ) → length (drop len text) ≤ length text
left len text = omega (arith, length-drop len text)

less_left : (test : ℕ → Bool) (b : ℕ) (bs : List ℕ) → test b ≡ true → length (drop (prefix_len test (b ∷ bs)) (b ∷ bs)) ≤ length bs
less_left test b bs passes =
    subst (λ t. length (drop (if t then 1 + prefix_len test bs else 0) (b ∷ bs)) ≤ length bs) (sym passes)
    (omega (arith, length-drop (1 + prefix_len test bs) (b ∷ bs)))

-- ---- a token is at least one byte

word_first : (letter digit underscore dollar : Bool) → (letter || underscore) ≡ true → ((letter || digit || underscore) || dollar) ≡ true
word_first true digit underscore dollar is = refl
word_first false true underscore dollar is = refl
word_first false false true dollar is = refl
word_first false false false dollar is = cc

abbrev Leaves : List ℕ → Lexed → Type 0
Leaves bs token = length token.after ≤ length bs

-- either of two tokens, by a test
either : (P : Lexed → Type 0) (test : Bool) (one other : Lexed) → (test ≡ true → P one) → (test ≡ false → P other) → P (if test then one else other)
either P true one other h k = h refl
either P false one other h k = k refl

base_leaves : (bs : List ℕ) → Leaves bs (base_token bs)
base_leaves [] = omega arith
base_leaves (b ∷ bs) =
    either (Leaves (b ∷ bs)) (is_base_letter b) (record { kind = kind.Base; text = b ∷ []; base = Some (lower b); after = bs }) (plain kind.Other [] (b ∷ bs))
    (λ is. omega arith)
    (λ is. omega arith)

plain_leaves : (b : ℕ) (bs : List ℕ) → Leaves bs (plain_token b bs)
plain_leaves b bs =
    either (Leaves bs) (begins_word b) (word_token (b ∷ bs)) (if is_digit b then number_token (b ∷ bs) else (if b == 92 then escaped_token bs else (if b == 39 then base_token bs else plain (mark_kind b) [] bs)))
    (λ is. less_left is_word_byte b bs (word_first (is_letter b) (is_digit b) (b == 95) (b == 36) is))
    (λ no_word. either (Leaves bs) (is_digit b) (number_token (b ∷ bs)) (if b == 92 then escaped_token bs else (if b == 39 then base_token bs else plain (mark_kind b) [] bs))
    (λ is. less_left is_number_byte b bs (or_left (is_digit b) (b == 95) is))
    (λ no_number. either (Leaves bs) (b == 92) (escaped_token bs) (if b == 39 then base_token bs else plain (mark_kind b) [] bs)
    (λ is. left (prefix_len (λ c. not (is_blank c)) bs) bs)
    (λ no_escape. either (Leaves bs) (b == 39) (base_token bs) (plain (mark_kind b) [] bs)
    (λ is. base_leaves bs)
    (λ is. omega arith))))

token_leaves : (base : Option ℕ) (b : ℕ) (bs : List ℕ) → Leaves bs (token_after base b bs)
token_leaves None b bs = plain_leaves b bs
token_leaves (Some letter) b bs =
    either (Leaves bs) (is_digits_byte b) (digits_token letter (b ∷ bs)) (plain_token b bs)
    (λ is. less_left is_digits_byte b bs is)
    (λ no_digits. plain_leaves b bs)

-- ---- a gap leaves no more text than there was

IsLeft : List ℕ → Option (List ℕ) → Type 0
IsLeft text None = Unit {0}
IsLeft text (Some rest) = length rest ≤ length text

ended_left : (gap : Gap) → IsLeft [] (ended_gap gap)
unfolding IsLeft
ended_left between = omega arith
ended_left rest_of_line = omega arith
ended_left (opens close) = tt
ended_left (inside close) = tt
ended_left closes = omega arith

more_left : (b : ℕ) (bs : List ℕ) (rest : Option (List ℕ)) → IsLeft bs rest → IsLeft (b ∷ bs) rest
unfolding IsLeft
more_left b bs None h = tt
more_left b bs (Some rest) h = omega (arith, h)

gap_left : (gap : Gap) (text : List ℕ) → IsLeft text (after_gap gap text)
unfolding IsLeft after_gap
gap_left gap [] = ended_left gap
gap_left gap (b ∷ bs) =
    by_option (λ next. IsLeft (b ∷ bs) (elim next [ None ↦ Some (b ∷ bs) | Some next ↦ after_gap next bs ])) (gap_after gap b bs)
    (λ next is. more_left b bs (after_gap next bs) (gap_left next bs))
    (λ is. omega arith)

-- ---- what stands at a place leaves less text

abbrev Leftover : Type 0
Leftover = Front Token Place (Unit {0})

Shorter : List ℕ → Leftover → Type 0
Shorter text front = (t : Token) (next : Place) → front ≡ found t next → length next.text < length text

stops_short : (text : List ℕ) → Shorter text (stops tt)
unfolding Shorter
stops_short text t next is = absurd (not_both t next tt (sym is))

found_short : (text : List ℕ) (t : Token) (place : Place) → length place.text < length text → Shorter text (found t place)
unfolding Shorter
found_short text t place short u other is = subst (λ (p : Place). length p.text < length text) (same_place t u place other is) short

has_text : (text : List ℕ) → after_gap between text ≡ None → 0 < length text
unfolding after_gap
has_text [] is = cc
has_text (b ∷ bs) is = omega arith

front_short : (place : Place) (rest : Option (List ℕ)) → after_gap between place.text ≡ rest → IsLeft place.text rest → Shorter place.text (front_after place rest)
unfolding IsLeft
front_short place None is h = found_short place.text _ _ (has_text place.text is)
front_short place (Some []) is h = stops_short place.text
front_short place (Some (b ∷ bs)) is h =
    let leaves = token_leaves place.base b bs in
    found_short place.text _ _ (omega (arith, leaves, h))

place_short : (place : Place) → Shorter place.text (token_at place)
unfolding token_at
place_short place = front_short place (after_gap between place.text) refl (gap_left between place.text)

token_short : (place : Place) (t : Token) (next : Place) → token_at place ≡ found t next → length next.text < length place.text
unfolding Shorter
token_short place t next is = place_short place t next is

-- ---- tokens of a text

-- the tokens from a place on, of which there are at most so many
abbrev tokens_from : ℕ → Place → List Token
tokens_from zero place = []
tokens_from (suc n) place = elim (token_at place) [ found t next ↦ t ∷ tokens_from n next | stops ending ↦ [] ]

abbrev StandFrom : List Token → Place → Type 0
StandFrom tokens place = Row (λ p front. token_at p ≡ front) tokens place tt

none_left : (place : Place) (front : Leftover) → token_at place ≡ front → length place.text ≤ 0 → StandFrom [] place
none_left place (stops tt) is short = is
none_left place (found t next) is short = absurd (omega (arith, token_short place t next is, short))

row_from : (n : ℕ) (place : Place) (front : Leftover) → token_at place ≡ front → ((next : Place) → length next.text < length place.text → StandFrom (tokens_from n next) next) → StandFrom (elim front [ found t next ↦ t ∷ tokens_from n next | stops ending ↦ [] ]) place
row_from n place (stops tt) is shorter = is
row_from n place (found t next) is shorter = (next, is, shorter next (token_short place t next is))

row : (fuel : ℕ) (place : Place) → length place.text ≤ fuel → StandFrom (tokens_from fuel place) place
row zero place short = none_left place (token_at place) refl short
row (suc fuel) place short = row_from fuel place (token_at place) refl (λ next less. row fuel next (omega (arith, less, short)))

abbrev tokens_in : List ℕ → List Token
tokens_in text = tokens_from (length text) (first_place text)

-- ---- bytes

abbrev meaning_of : List ℕ → List Token → Result (List Module) (At VerilogKind)
meaning_of bytes tokens = meaning bytes tokens (error_of verilog Source (kinds_of tokens))

-- what the bytes of a text are read as, by a function
abbrev pub read : List ℕ → Result (List Module) (At VerilogKind)
read bytes = meaning_of bytes (tokens_in bytes)

-- the bytes of a text mean what they are read as
pub text_read : (bytes : List ℕ) → IsUtf8 bytes → ReadsText bytes (read bytes)
text_read bytes text = record {
  tokens = tokens_in bytes;
  error = error_of verilog Source (kinds_of (tokens_in bytes));
  text = text;
  stand = row (length bytes) (first_place bytes) (omega arith);
  error_is = error_is verilog follow decides Source (kinds_of (tokens_in bytes));
  is = refl;
}

pub netlist_some : (bytes : List ℕ) → (outcome : Result (List Module) (At VerilogKind)) × ReadsVerilog bytes outcome
netlist_some bytes =
    by_bool (λ b. (outcome : Result (List Module) (At VerilogKind)) × ReadsVerilog bytes outcome) (is_utf8 bytes)
    (λ passes. (read bytes, inl (text_read bytes (IsUtf8-from_is_utf8 bytes passes))))
    (λ fails. (fault (broken_text_line bytes) NotText, inr (no_text bytes fails, refl)))
