-- Bytes have a meaning as a library: their tokens stand in a row, since each leaves less text after it, and the
-- machine finds their first syntax error.
use Rattle.std.proofs.Common.{◌≡◌, ◌+◌, ◌<◌, ◌≤◌, ℕ, zero, suc, Bool, true, List, [], ◌∷◌, ◌++◌, Result, Err, length, drop, take, refl, sym, ap, subst, inl, inr, arith}
use Rattle.std.specs.Prelude.{◌==◌, ◌||◌, not, nat_lt, if◌then◌else◌}
use Rattle.std.specs.List.{prefix_len}
use Rattle.std.specs.Str.{is_utf8}
use Rattle.std.proofs.lemmas.List.{length-drop}
use Rattle.std.proofs.lemmas.Str.{IsUtf8-from_is_utf8}
use Rattle.token_grammar.proofs.SyntaxErrors.{error_is}
use Rattle.token_grammar.specs.Machine.{error_of}
use Rattle.sdc_base.proofs.CaseFacts.{by_bool}
use Rattle.sdc_base.specs.declared.memory.At.{At}
use Rattle.library_model.proofs.LibertyDecides.{decides, follow}
use Rattle.source_types.specs.declared.kinds.LibKind.{LibKind}
use Rattle.source_types.specs.declared.kinds.LibKind.TheVariants.{NotText}
use Rattle.source_types.specs.declared.libraries.Library.{Library}
use Rattle.source_types.specs.declared.liberty_tokens.LibertySymbol.TheVariants as part
use Rattle.text_model.specs.LastLine.{broken_text_line}
use Rattle.library_model.specs.LibertyGrammar.{IsFormed, formed, kinds, liberty}
use Rattle.library_model.specs.LibertyText.{ReadsLibrary, read}
use Rattle.library_model.specs.LibertyTokens.{AreTokens, Character, Ending, IsLexed, Token, at_end, bare, bare_len, brackets_after, bytes_of, characters, front_after, gap_len, in_quotes, is_bare_byte, is_in_comment, is_unfinished, last_token, plain, quoted, quoted_front, sign, token_front, token_of, within_at_end}
use Rattle.text_model.specs.Row.{Front, found, stops}
use Rattle.text_model.proofs.RowFacts.{not_both, same_place}
use Rattle.text_model.proofs.BrokenTexts.{no_text}

-- ---- a token leaves less text after it

Shorter : List Character → Front Token (List Character) Ending → Type 0
Shorter text front = (t : Token) (rest : List Character) → front ≡ found t rest → length rest < length text

stops_short : (text : List Character) (ending : Ending) → Shorter text (stops ending)
unfolding Shorter
stops_short text ending t rest is = absurd (not_both t rest ending (sym is))

found_short : (text rest : List Character) (t : Token) → length rest < length text → Shorter text (found t rest)
unfolding Shorter
found_short text rest t short u other is = subst (λ (r : List Character). length r < length text) (same_place t u rest other is) short

quoted_short : (gap : List ℕ) (c : Character) (cs : List Character) (len : ℕ) → Shorter (c ∷ cs) (quoted_front gap c.line cs len)
quoted_short gap c cs len =
    by_bool (λ b. Shorter (c ∷ cs) (if b then found (token_of gap c.line quoted (take len cs)) (drop (len + 1) cs) else stops (in_quotes (token_of gap c.line quoted cs))))
    (nat_lt len (length cs))
    (λ is. found_short (c ∷ cs) (drop (len + 1) cs) (token_of gap c.line quoted (take len cs)) (omega (arith, length-drop (len + 1) cs)))
    (λ is. stops_short (c ∷ cs) (in_quotes (token_of gap c.line quoted cs)))

bare_more : (c : Character) (cs : List Character) → is_bare_byte 0 c.byte ≡ true → bare_len 0 (c ∷ cs) ≡ bare_len (brackets_after c.byte 0) cs + 1
bare_more c cs is = ap (λ b. if b then bare_len (brackets_after c.byte 0) cs + 1 else 0) is

drop_short : (n m : ℕ) (c : Character) (cs : List Character) → n ≡ m + 1 → length (drop n (c ∷ cs)) < length (c ∷ cs)
drop_short n m c cs is = omega (arith, is, length-drop n (c ∷ cs))

front_short : (gap : List ℕ) (text : List Character) → Shorter text (front_after gap text)
front_short gap [] = stops_short [] at_end
front_short gap (c ∷ cs) =
    by_bool (λ b. Shorter (c ∷ cs) (if b then quoted_front gap c.line cs (prefix_len (λ (d : Character). not (d.byte == 34)) cs)
    else (if is_bare_byte 0 c.byte then found (token_of gap c.line bare (take (bare_len 0 (c ∷ cs)) (c ∷ cs))) (drop (bare_len 0 (c ∷ cs)) (c ∷ cs))
    else found (token_of gap c.line sign (c ∷ [])) cs)))
    (c.byte == 34)
    (λ is. quoted_short gap c cs (prefix_len (λ (d : Character). not (d.byte == 34)) cs))
    (λ is. by_bool (λ b. Shorter (c ∷ cs) (if b then found (token_of gap c.line bare (take (bare_len 0 (c ∷ cs)) (c ∷ cs))) (drop (bare_len 0 (c ∷ cs)) (c ∷ cs))
    else found (token_of gap c.line sign (c ∷ [])) cs))
    (is_bare_byte 0 c.byte)
    (λ bare_byte. found_short (c ∷ cs) (drop (bare_len 0 (c ∷ cs)) (c ∷ cs)) (token_of gap c.line bare (take (bare_len 0 (c ∷ cs)) (c ∷ cs)))
    (drop_short (bare_len 0 (c ∷ cs)) (bare_len (brackets_after c.byte 0) cs) c cs (bare_more c cs bare_byte)))
    (λ other. found_short (c ∷ cs) cs (token_of gap c.line sign (c ∷ [])) (omega arith)))

token_short : (text : List Character) (t : Token) (rest : List Character) → token_front text ≡ found t rest → length rest < length text
unfolding Shorter
token_short text t rest is =
    let after : length rest < length (drop (gap_len text) text) = front_short (bytes_of (take (gap_len text) text)) (drop (gap_len text) text) t rest is in
    omega (arith, after, length-drop (gap_len text) text)

-- ---- tokens of a text

Tokens : List Character → Type 0
Tokens text = (tokens : List Token) × (ending : Ending) × AreTokens text tokens ending

row_from : (text : List Character) (front : Front Token (List Character) Ending) → token_front text ≡ front → ((rest : List Character) → length rest < length text → Tokens rest) → Tokens text
unfolding Tokens
row_from text (stops ending) is shorter = ([], ending, is)
row_from text (found t rest) is shorter =
    let more = shorter rest (token_short text t rest is) in (t ∷ more.0, more.1, (rest, is, more.2))

row : (fuel : ℕ) (text : List Character) → length text ≤ fuel → Tokens text
row zero text short = row_from text (token_front text) refl (λ rest less. absurd (omega (arith, less, short)))
row (suc fuel) text short = row_from text (token_front text) refl (λ rest less. row fuel rest (omega (arith, less, short)))

lexed : (text : List ℕ) → (tokens : List Token) × (unfinished : Bool) × IsLexed text tokens unfinished
unfolding Tokens
lexed text =
    let all = row (length (characters plain 1 text)) (characters plain 1 text) (omega arith) in
    (all.0 ++ last_token all.1, is_unfinished all.1 || is_in_comment (within_at_end plain text), record { stood = all.0; ending = all.1; row = all.2; all = refl; whole = refl })

-- ---- bytes

formed_some : (text : List ℕ) → (outcome : Result (List Token) ℕ) × IsFormed text outcome
formed_some text =
    let lex = lexed text in
    let place = error_of liberty part.Libraries (kinds 0 lex.0) in (
      formed text lex.0 lex.1 place,
      record {
        tokens = lex.0;
        unfinished = lex.1;
        place = place;
        lexed = lex.2;
        error_is = error_is liberty follow decides part.Libraries (kinds 0 lex.0);
        gives = refl;
      },
    )

pub library_some : (bytes : List ℕ) → (outcome : Result Library (At LibKind)) × ReadsLibrary bytes outcome
library_some bytes =
    by_bool (λ b. (outcome : Result Library (At LibKind)) × ReadsLibrary bytes outcome) (is_utf8 bytes)
    (λ passes. let some = formed_some bytes in (read some.0, inl (IsUtf8-from_is_utf8 bytes passes, (some.0, some.1, refl))))
    (λ fails. (Err (record { line = broken_text_line bytes; kind = NotText }), inr (no_text bytes fails, refl)))
