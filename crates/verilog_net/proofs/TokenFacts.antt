-- Tokens in a row, and places in a text.
use Rattle.std.proofs.Common.{◌≡◌, ◌∙◌, ◌+◌, ◌-◌, ◌<◌, ◌≤◌, ◌++◌, ◌∷◌, ℕ, List, [], Option, None, Some, append_assoc, drop, get_or, length, slice_get, take, refl, sym, ap, subst, arith}
use Rattle.std.proofs.lemmas.List.{drop_all, drop_more, length-drop, map-append}
use Rattle.std.proofs.lemmas.Option.{slice_get-map}
use Rattle.std.specs.Option.{option_map}
use Rattle.source_types.specs.declared.verilog_tokens.VerilogToken.{VerilogToken}
use Rattle.source_types.specs.declared.verilog_tokens.VerilogToken.TheVariants as kind
use Rattle.text_model.specs.Bytes.{before, line_after}
use Rattle.text_model.specs.LastLine.{last_line_of}
use Rattle.text_model.specs.Row.{Front, Row, found}
use Rattle.netlist_model.specs.Verilog.{line_of}
use Rattle.netlist_model.specs.VerilogTokens as grammar
use Rattle.verilog_net.specs.declared.lexing.lexed.Lexed.{Lexed}
use Rattle.verilog_net.specs.declared.lexing.tokens.Place.{Place}
use Rattle.verilog_net.specs.declared.lexing.tokens.Token.{Token}
use Rattle.verilog_net.specs.Seen.{IsLexed, front_seen, place_seen, rest_seen, token_seen, tokens_seen}

-- ---- places

same_place : (t u : List ℕ) (i j l m : ℕ) (b c : Option ℕ) → t ≡ u → i ≡ j → l ≡ m → b ≡ c → ◌≡◌ {A = grammar.Place} (record { text = t; at = i; line = l; base = b }) (record { text = u; at = j; line = m; base = c })
same_place t u i j l m b c e f g h = cc

same_token : (i j l m : ℕ) (k o : VerilogToken) (t u : List ℕ) → i ≡ j → l ≡ m → k ≡ o → t ≡ u → ◌≡◌ {A = grammar.Token} (record { at = i; line = l; kind = k; text = t }) (record { at = j; line = m; kind = o; text = u })
same_token i j l m k o t u e f g h = cc

same_front : (t u : grammar.Token) (p q : grammar.Place) → t ≡ u → p ≡ q → ◌≡◌ {A = Front grammar.Token grammar.Place (Unit {0})} (found t p) (found u q)
same_front t u p q e f = cc

-- the bytes between two places
between : (text : List ℕ) (from to : ℕ) → from ≤ to → to ≤ length text → before (drop from text) (drop to text) ≡ take (to - from) (drop from text)
between text from to forward within =
    let len : length (drop from text) - length (drop to text) ≡ to - from = omega (arith, forward, within, length-drop from text, length-drop to text) in
    ap (λ (n : ℕ). take n (drop from text)) len

-- the place of the text from a place on, after another place
moved : (text : List ℕ) (from to line at after : ℕ) (base other : Option ℕ) → from ≤ to → to ≤ length text → at ≡ from → after ≡ line_after (take (to - from) (drop from text)) line
    → ◌≡◌ {A = grammar.Place} (record { text = drop to text; at = to; line = after; base = base }) (grammar.place_of (record { text = drop from text; at = at; line = line; base = other }) (drop to text) base)
moved text from to line at after base other forward within same is =
    same_place (drop to text) (drop to text) to (at + (length (drop from text) - length (drop to text))) after (line_after (before (drop from text) (drop to text)) line) base base refl
    (omega (arith, forward, within, same, length-drop from text, length-drop to text))
    (is ∙ ap (λ (t : List ℕ). line_after t line) (sym (between text from to forward within)))
    refl

-- ---- the token at a place

pub lexed_within : (text : List ℕ) (at : ℕ) (wanted : grammar.Lexed) (lexed : Lexed) → IsLexed text at wanted lexed → lexed.next ≤ length text
lexed_within text at wanted lexed is = is.within

pub lexed_further : (text : List ℕ) (at : ℕ) (wanted : grammar.Lexed) (lexed : Lexed) → IsLexed text at wanted lexed → at < lexed.next
lexed_further text at wanted lexed is = is.further

abbrev pub ThePlace : Type 0
ThePlace = grammar.Place

-- a token that was read at a place
pub token_front : (text : List ℕ) (place after : Place) (begin line : ℕ) (token : Token) (lexed : Lexed) → place.at ≤ begin → begin < length text
    → line ≡ line_after (take (begin - place.at) (drop place.at text)) place.line
    → IsLexed text begin (grammar.token_after place.base (get_or text begin 0) (drop (begin + 1) text)) lexed
    → token_seen token ≡ record { at = begin; line = line; kind = lexed.kind; text = lexed.text.now }
    → after.at ≡ lexed.next → after.line ≡ line_after (take (lexed.next - begin) (drop begin text)) line → after.base ≡ lexed.base
    → front_seen text (Some (token, after)) ≡ grammar.front_after (place_seen text place) (Some (drop begin text))
token_front text place after begin line token lexed forward within first is seen at then base =
    let head : drop begin text ≡ get_or text begin 0 ∷ drop (begin + 1) text = drop_more text begin 0 within in
    let further : begin ≤ lexed.next = omega (arith, is.further) in
    let here : ◌≡◌ {A = ThePlace} (record { text = drop begin text; at = begin; line = line; base = place.base }) (grammar.place_of (place_seen text place) (drop begin text) place.base) =
    moved text place.at begin place.line place.at line place.base place.base forward (omega (arith, within)) refl first in
    let next : ◌≡◌ {A = ThePlace} (record { text = drop lexed.next text; at = lexed.next; line = after.line; base = lexed.base }) (grammar.place_of (record { text = drop begin text; at = begin; line = line; base = place.base }) (drop lexed.next text) lexed.base) =
    moved text begin lexed.next line begin after.line lexed.base place.base further is.within refl then in
    let told : place_seen text after ≡ record { text = drop lexed.next text; at = lexed.next; line = after.line; base = lexed.base } =
    same_place (drop after.at text) (drop lexed.next text) after.at lexed.next after.line after.line after.base lexed.base (ap (λ (i : ℕ). drop i text) at) at refl base in
    same_front (token_seen token) (record { at = begin; line = line; kind = lexed.kind; text = lexed.text.now }) (place_seen text after) (grammar.place_of (record { text = drop begin text; at = begin; line = line; base = place.base }) (drop lexed.next text) lexed.base) seen (told ∙ next)
    ∙ (as_lexed (record { text = drop begin text; at = begin; line = line; base = place.base }) text lexed (grammar.token_after place.base (get_or text begin 0) (drop (begin + 1) text)) is.is
    ∙ (ap (λ (p : ThePlace). grammar.token_here p (grammar.token_after place.base (get_or text begin 0) (drop (begin + 1) text))) here
    ∙ (ap (λ (t : List ℕ). grammar.token_here (grammar.place_of (place_seen text place) t place.base) (grammar.token_after place.base (get_or text begin 0) (drop (begin + 1) text))) head
    ∙ sym (ap (λ (t : List ℕ). grammar.front_after (place_seen text place) (Some t)) head)))) where
      as_lexed : (p : ThePlace) (text : List ℕ) (lexed : Lexed) (wanted : grammar.Lexed) → record { kind = lexed.kind; text = lexed.text.now; base = lexed.base; after = drop lexed.next text } ≡ wanted
          → ◌≡◌ {A = Front grammar.Token grammar.Place (Unit {0})} (found (record { at = p.at; line = p.line; kind = lexed.kind; text = lexed.text.now }) (grammar.place_of p (drop lexed.next text) lexed.base)) (grammar.token_here p wanted)
      as_lexed p text lexed wanted e = ap (grammar.token_here p) e

-- a comment or an attribute that has no end
pub unclosed_front : (text : List ℕ) (place after : Place) (token : Token) (line : ℕ) → place.at < length text
    → token_seen token ≡ record { at = place.at; line = line; kind = kind.Other; text = [] }
    → line ≡ line_after (take (length text - 1 - place.at) (drop place.at text)) place.line
    → after.at ≡ length text → after.line ≡ line_after (take (length text - place.at) (drop place.at text)) place.line → after.base ≡ None
    → front_seen text (Some (token, after)) ≡ grammar.unclosed (place_seen text place)
unclosed_front text place after token line within seen last at then base =
    let end : drop (length text) text ≡ [] = drop_all (length text) text (omega arith) in
    let len : length (drop place.at text) - 1 ≡ length text - 1 - place.at = omega (arith, within, length-drop place.at text) in
    let same : line ≡ last_line_of (drop place.at text) place.line = last ∙ ap (λ (n : ℕ). line_after (take n (drop place.at text)) place.line) (sym len) in
    let told : place_seen text after ≡ record { text = drop (length text) text; at = length text; line = after.line; base = None } =
    same_place (drop after.at text) (drop (length text) text) after.at (length text) after.line after.line after.base None (ap (λ (i : ℕ). drop i text) at) at refl base in
    let next : ◌≡◌ {A = ThePlace} (record { text = drop (length text) text; at = length text; line = after.line; base = None }) (grammar.place_of (place_seen text place) (drop (length text) text) None) =
    moved text place.at (length text) place.line place.at after.line None place.base (omega (arith, within)) (omega arith) refl then in
    let last_place : place_seen text after ≡ grammar.place_of (place_seen text place) [] None =
    told ∙ (next ∙ ap (λ (t : List ℕ). grammar.place_of (place_seen text place) t None) end) in
    let last_token : token_seen token ≡ record { at = place.at; line = last_line_of (drop place.at text) place.line; kind = kind.Other; text = [] } =
    seen ∙ same_token place.at place.at line (last_line_of (drop place.at text) place.line) kind.Other kind.Other [] [] refl same refl refl in
    same_front (token_seen token) (record { at = place.at; line = last_line_of (drop place.at text) place.line; kind = kind.Other; text = [] }) (place_seen text after) (grammar.place_of (place_seen text place) [] None) last_token last_place

-- ---- what stands at a place

front_is : (p : grammar.Place) (rest : Option (List ℕ)) → rest ≡ grammar.after_gap grammar.between p.text → grammar.front_after p rest ≡ grammar.token_at p
unfolding grammar.token_at
front_is p rest e = ap (grammar.front_after p) e

pub no_front : (text : List ℕ) (place : Place) (begin : ℕ) → rest_seen text (Some begin) ≡ grammar.after_gap grammar.between (drop place.at text) → begin ≡ length text → front_seen text None ≡ grammar.token_at (place_seen text place)
no_front text place begin gap end =
    ap (λ (t : List ℕ). grammar.front_after (place_seen text place) (Some t)) (sym (drop_all begin text (omega (arith, end))))
    ∙ front_is (place_seen text place) (Some (drop begin text)) gap

pub found_front : (text : List ℕ) (place : Place) (begin : ℕ) (step : Token × Place) → rest_seen text (Some begin) ≡ grammar.after_gap grammar.between (drop place.at text)
    → front_seen text (Some step) ≡ grammar.front_after (place_seen text place) (Some (drop begin text)) → front_seen text (Some step) ≡ grammar.token_at (place_seen text place)
found_front text place begin step gap is = is ∙ front_is (place_seen text place) (Some (drop begin text)) gap

pub unclosed_found : (text : List ℕ) (place : Place) (step : Token × Place) → rest_seen text None ≡ grammar.after_gap grammar.between (drop place.at text)
    → front_seen text (Some step) ≡ grammar.unclosed (place_seen text place) → front_seen text (Some step) ≡ grammar.token_at (place_seen text place)
unclosed_found text place step gap is = is ∙ front_is (place_seen text place) None gap

some_none : {A : Type 0} (x : A) → ◌≡◌ {A = Option A} None (Some x) → ⊥
some_none x h = cc

no_gap : grammar.after_gap grammar.between [] ≡ Some []
unfolding grammar.after_gap
no_gap = refl

pub unclosed_within : (text : List ℕ) (place : Place) → place.at ≤ length text → rest_seen text None ≡ grammar.after_gap grammar.between (drop place.at text) → place.at < length text
unclosed_within text place within gap = has (drop place.at text) refl where
  has : (rest : List ℕ) → drop place.at text ≡ rest → place.at < length text
  has [] e = absurd (some_none [] (gap ∙ (ap (grammar.after_gap grammar.between) e ∙ no_gap)))
  has (b ∷ bs) e = omega (arith, ap length e, length-drop place.at text)

-- ---- tokens in a row

pub append_none : {A : Type 0} (xs : List A) → xs ++ [] ≡ xs
append_none [] = refl
append_none (x ∷ xs) = ap (λ ys. x ∷ ys) (append_none xs)

-- the tokens so far, and that whatever goes on from a place goes on after them
pub record ReadSoFar (text : List ℕ) (tokens : List Token) (place : Place) : Type 0 where
  pub within : place.at ≤ length text
  pub goes : (more : List grammar.Token) → Row (λ p front. grammar.token_at p ≡ front) more (place_seen text place) tt
      → Row (λ p front. grammar.token_at p ≡ front) (tokens_seen tokens ++ more) (grammar.first_place text) tt

pub first_read : (text : List ℕ) (tokens : List Token) → tokens ≡ [] → ReadSoFar text tokens (record { at = 0; line = 1; base = None })
first_read text tokens none = record {
  within = omega arith;
  goes = λ more row. subst (λ (ts : List Token). Row (λ p front. grammar.token_at p ≡ front) (tokens_seen ts ++ more) (grammar.first_place text) tt) (sym none) row;
}

pub one_more : (text : List ℕ) (tokens more : List Token) (place next : Place) (token : Token) → ReadSoFar text tokens place → more ≡ tokens ++ token ∷ [] → next.at ≤ length text
    → front_seen text (Some (token, next)) ≡ grammar.token_at (place_seen text place) → ReadSoFar text more next
one_more text tokens more place next token so_far is within step = record {
  within = within;
  goes = λ rest row.
      let longer = so_far.goes (token_seen token ∷ rest) (place_seen text next, sym step, row) in
      let same : tokens_seen tokens ++ token_seen token ∷ rest ≡ tokens_seen more ++ rest =
      sym (append_assoc (tokens_seen tokens) (token_seen token ∷ []) rest) ∙ ap (λ ts. ts ++ rest) (sym (map-append token_seen tokens (token ∷ [])) ∙ ap tokens_seen (sym is)) in
      subst (λ (ts : List grammar.Token). Row (λ p front. grammar.token_at p ≡ front) ts (grammar.first_place text) tt) same longer;
}

pub all_read : (text : List ℕ) (tokens : List Token) (place : Place) → ReadSoFar text tokens place → front_seen text None ≡ grammar.token_at (place_seen text place) → grammar.AreTokens text (tokens_seen tokens)
all_read text tokens place so_far stop =
    subst (λ (ts : List grammar.Token). Row (λ p front. grammar.token_at p ≡ front) ts (grammar.first_place text) tt) (append_none (tokens_seen tokens)) (so_far.goes [] (sym stop))

-- ---- the token at a place of tokens

pub seen_at : (tokens : List Token) (place : ℕ) (o : Option Token) → o ≡ slice_get tokens place → line_of (slice_get (tokens_seen tokens) place) ≡ line_of (option_map token_seen o)
seen_at tokens place o is = ap line_of (slice_get-map token_seen tokens place ∙ ap (option_map token_seen) (sym is))
