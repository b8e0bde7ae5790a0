-- The first statement among tokens: those before it were passed over one by one.
use Rattle.std.proofs.Common.{◌≡◌, ◌++◌, ◌+◌, ◌-◌, ◌<◌, ◌≤◌, ◌==◌, ℕ, Bool, true, false, List, [], ◌∷◌, length, get_or, drop, take, sym, ap, subst, ◌∙◌, arith, append_assoc}
use Rattle.std.specs.Prelude.{if◌then◌else◌}
use Rattle.std.proofs.lemmas.List.{append-nil, drop_all, drop_more, get_or-drop, get_or_default, length-drop, map_push, take_more}
use Rattle.sdc_base.proofs.CaseFacts.{by_bool}
use Rattle.library_model.specs.LibertyGrammar.{level_after, sign_of}
use Rattle.library_model.specs.LibertyStatements as grammar
use Rattle.library_model.specs.LibertyStatements.{Statement, begins, cut, parentheses_after, place_after}
use Rattle.library_model.specs.LibertyTokens as liberty
use Rattle.lib_cells.specs.declared.syntax.statements.Place.{Place}
use Rattle.lib_cells.specs.declared.syntax.statements.Start.{Start}
use Rattle.lib_cells.specs.declared.scanning.tokens.Token.{Token}
use Rattle.lib_cells.specs.Seen.{token_seen, tokens_seen}
use Rattle.lib_cells.specs.Starts.{Begins, IsFew, IsStart, place_seen}

-- from a place on up to another one no statement begins
pub record StartSoFar (tokens : List Token) (from : ℕ) (place : grammar.Place) (start : Start) : Type 0 where
  pub before : (cut place (tokens_seen (drop from tokens))).0 ≡ tokens_seen (take (start.at - from) (drop from tokens)) ++ (cut (place_seen start.place) (tokens_seen (drop start.at tokens))).0
  pub statements : (cut place (tokens_seen (drop from tokens))).1 ≡ (cut (place_seen start.place) (tokens_seen (drop start.at tokens))).1
  pub forward : from ≤ start.at
  pub within : start.at ≤ length tokens
  pub few : IsFew (place_seen start.place) start.at

-- ---- counts

parentheses_few : (t : liberty.Token) (n : ℕ) → parentheses_after t n ≤ n + 1
parentheses_few t n =
    by_bool (λ b. (if b then n + 1 else (if sign_of t == 41 then n - 1 else n)) ≤ n + 1) (sign_of t == 40)
    (λ is. omega arith)
    (λ other. by_bool (λ b. (if b then n - 1 else n) ≤ n + 1) (sign_of t == 41) (λ is. omega arith) (λ not_it. omega arith))

levels_few : (t : liberty.Token) (n : ℕ) → level_after t n ≤ n + 1
levels_few t n =
    by_bool (λ b. (if b then n + 1 else (if sign_of t == 125 then n - 1 else n)) ≤ n + 1) (sign_of t == 123)
    (λ is. omega arith)
    (λ other. by_bool (λ b. (if b then n - 1 else n) ≤ n + 1) (sign_of t == 125) (λ is. omega arith) (λ not_it. omega arith))

numbers_few : (place : grammar.Place) (t : liberty.Token) → (place_after place t).number ≤ place.number + 1
numbers_few place t =
    by_bool (λ b. (if b then place.number + 1 else place.number) ≤ place.number + 1) (begins place t) (λ is. omega arith) (λ other. omega arith)

pub few_after : (place : grammar.Place) (t : liberty.Token) (at : ℕ) → IsFew place at → IsFew (place_after place t) (at + 1)
few_after place t at few = record {
  parentheses_are = omega (arith, parentheses_few t place.parentheses, few.parentheses_are);
  levels_are = omega (arith, levels_few t place.level, few.levels_are);
  numbers_are = omega (arith, numbers_few place t, few.numbers_are);
}

-- ---- one token

abbrev pub Cut : Type 0
Cut = List liberty.Token × List Statement

abbrev pub begun_if : grammar.Place → liberty.Token → Cut → Bool → Cut
begun_if place t after b =
    if b then ([], record { level = place.level; number = place.number; name = t; rest = after.0 } ∷ after.1)
    else (t ∷ after.0, after.1)

-- a token that begins no statement
cut_passes : (place : grammar.Place) (t : liberty.Token) (ts : List liberty.Token) → begins place t ≡ false → cut place (t ∷ ts) ≡ begun_if place t (cut (place_after place t) ts) false
cut_passes place t ts fails = ap (begun_if place t (cut (place_after place t) ts)) fails

-- one that begins one
pub cut_begins : (place : grammar.Place) (t : liberty.Token) (ts : List liberty.Token) → begins place t ≡ true → cut place (t ∷ ts) ≡ begun_if place t (cut (place_after place t) ts) true
cut_begins place t ts is = ap (begun_if place t (cut (place_after place t) ts)) is

pub drop_seen : (tokens : List Token) (at : ℕ) (token : Token) → at < length tokens → token ≡ get_or tokens at token → tokens_seen (drop at tokens) ≡ token_seen token ∷ tokens_seen (drop (at + 1) tokens)
drop_seen tokens at token inside is = ap tokens_seen (drop_more tokens at token inside ∙ ap (λ (t : Token). t ∷ drop (at + 1) tokens) (sym is))

take_seen : (tokens : List Token) (from at : ℕ) (token : Token) → from ≤ at → at < length tokens → token ≡ get_or tokens at token → tokens_seen (take (at + 1 - from) (drop from tokens)) ≡ tokens_seen (take (at - from) (drop from tokens)) ++ token_seen token ∷ []
take_seen tokens from at token forward inside is =
    let places : at + 1 - from ≡ at - from + 1 = omega (arith, forward) in
    let short : at - from < length (drop from tokens) = omega (arith, length-drop from tokens, forward, inside) in
    let sum : from + (at - from) ≡ at = omega (arith, forward) in
    let here : get_or (drop from tokens) (at - from) token ≡ token = get_or-drop from tokens (at - from) token ∙ (ap (λ (n : ℕ). get_or tokens n token) sum ∙ sym is) in
    ap (λ (n : ℕ). tokens_seen (take n (drop from tokens))) places
    ∙ (ap tokens_seen (take_more (drop from tokens) (at - from) token short ∙ ap (λ (t : Token). take (at - from) (drop from tokens) ++ t ∷ []) here)
    ∙ map_push token_seen (take (at - from) (drop from tokens)) token)

-- ---- the loop

nothing_between : (tokens : List Token) (from : ℕ) → tokens_seen (take (from - from) (drop from tokens)) ≡ []
nothing_between tokens from =
    let none : from - from ≡ 0 = omega arith in ap (λ (n : ℕ). tokens_seen (take n (drop from tokens))) none

pub item_is : (tokens : List Token) (at : ℕ) (d : Token) → at < length tokens → get_or tokens at d ≡ get_or tokens at (get_or tokens at d)
item_is tokens at d inside = get_or_default tokens at d (get_or tokens at d) inside

pub start_none : (tokens : List Token) (from : ℕ) (place : Place) (start : Start) → from ≤ length tokens → IsFew (place_seen place) from → start.at ≡ from → start.place ≡ place → StartSoFar tokens from (place_seen place) start
start_none tokens from place start within few at_is place_is = record {
  before =
      ap (λ (ts : List liberty.Token). ts ++ (cut (place_seen place) (tokens_seen (drop from tokens))).0) (sym (nothing_between tokens from))
      ∙ (ap (λ (n : ℕ). tokens_seen (take (n - from) (drop from tokens)) ++ (cut (place_seen place) (tokens_seen (drop n tokens))).0) (sym at_is)
      ∙ ap (λ (p : Place). tokens_seen (take (start.at - from) (drop from tokens)) ++ (cut (place_seen p) (tokens_seen (drop start.at tokens))).0) (sym place_is));
  statements =
      ap (λ (n : ℕ). (cut (place_seen place) (tokens_seen (drop n tokens))).1) (sym at_is)
      ∙ ap (λ (p : Place). (cut (place_seen p) (tokens_seen (drop start.at tokens))).1) (sym place_is);
  forward = omega (arith, at_is);
  within = omega (arith, at_is, within);
  few =
      subst (λ (p : Place). IsFew (place_seen p) start.at) (sym place_is)
      (subst (λ (n : ℕ). IsFew (place_seen place) n) (sym at_is) few);
}

pub start_more : (tokens : List Token) (from : ℕ) (place : grammar.Place) (start next : Start) (token : Token) → StartSoFar tokens from place start → start.at < length tokens → begins (place_seen start.place) (token_seen token) ≡ false → next.at ≡ start.at + 1 → place_seen next.place ≡ place_after (place_seen start.place) (token_seen token) → token ≡ get_or tokens start.at token → StartSoFar tokens from place next
start_more tokens from place start next token so_far inside fails at_is place_is token_is = record {
  before =
      so_far.before
      ∙ (ap (λ (c : Cut). seen_before ++ c.0) here
      ∙ (sym (append_assoc seen_before (token_seen token ∷ []) after.0)
      ∙ (ap (λ (ts : List liberty.Token). ts ++ after.0) (sym (take_seen tokens from start.at token so_far.forward inside token_is))
      ∙ (ap (λ (n : ℕ). tokens_seen (take (n - from) (drop from tokens)) ++ (cut (place_after (place_seen start.place) (token_seen token)) (tokens_seen (drop n tokens))).0) (sym at_is)
      ∙ ap (λ (p : grammar.Place). tokens_seen (take (next.at - from) (drop from tokens)) ++ (cut p (tokens_seen (drop next.at tokens))).0) (sym place_is)))));
  statements =
      so_far.statements
      ∙ (ap (λ (c : Cut). c.1) here
      ∙ (ap (λ (n : ℕ). (cut (place_after (place_seen start.place) (token_seen token)) (tokens_seen (drop n tokens))).1) (sym at_is)
      ∙ ap (λ (p : grammar.Place). (cut p (tokens_seen (drop next.at tokens))).1) (sym place_is)));
  forward = omega (arith, at_is, so_far.forward);
  within = omega (arith, at_is, inside);
  few =
      subst (λ (p : grammar.Place). IsFew p next.at) (sym place_is)
      (subst (λ (n : ℕ). IsFew (place_after (place_seen start.place) (token_seen token)) n) (sym at_is) (few_after (place_seen start.place) (token_seen token) start.at so_far.few));
} where
  seen_before : List liberty.Token
  seen_before = tokens_seen (take (start.at - from) (drop from tokens))

  after : Cut
  after = cut (place_after (place_seen start.place) (token_seen token)) (tokens_seen (drop (start.at + 1) tokens))

  here : cut (place_seen start.place) (tokens_seen (drop start.at tokens)) ≡ begun_if (place_seen start.place) (token_seen token) after false
  here =
      ap (cut (place_seen start.place)) (drop_seen tokens start.at token inside token_is)
      ∙ cut_passes (place_seen start.place) (token_seen token) (tokens_seen (drop (start.at + 1) tokens)) fails

-- what is cut where nothing stands before the first statement
at_start : (tokens : List Token) (from : ℕ) (place : grammar.Place) (start : Start) → StartSoFar tokens from place start → (cut (place_seen start.place) (tokens_seen (drop start.at tokens))).0 ≡ [] → Begins (place_seen start.place) (tokens_seen (drop start.at tokens)) → IsStart tokens from place start
at_start tokens from place start so_far nothing begins_there = record {
  before = so_far.before ∙ (ap (λ (ts : List liberty.Token). tokens_seen (take (start.at - from) (drop from tokens)) ++ ts) nothing ∙ append-nil (tokens_seen (take (start.at - from) (drop from tokens))));
  statements = so_far.statements;
  begins_there = begins_there;
  forward = so_far.forward;
  within = so_far.within;
  few = so_far.few;
}

pub start_found : (tokens : List Token) (from : ℕ) (place : grammar.Place) (start : Start) (token : Token) → StartSoFar tokens from place start → start.at < length tokens → token ≡ get_or tokens start.at token → begins (place_seen start.place) (token_seen token) ≡ true → IsStart tokens from place start
start_found tokens from place start token so_far inside token_is yes_it =
    let here = drop_seen tokens start.at token inside token_is in
    at_start tokens from place start so_far
    (ap (λ (ts : List liberty.Token). (cut (place_seen start.place) ts).0) here ∙ ap (λ (c : Cut). c.0) (cut_begins (place_seen start.place) (token_seen token) (tokens_seen (drop (start.at + 1) tokens)) yes_it))
    (subst (λ (ts : List liberty.Token). Begins (place_seen start.place) ts) (sym here) yes_it)

pub start_all : (tokens : List Token) (from : ℕ) (place : grammar.Place) (start : Start) → StartSoFar tokens from place start → length tokens ≤ start.at → IsStart tokens from place start
start_all tokens from place start so_far past =
    let none : tokens_seen (drop start.at tokens) ≡ [] = ap tokens_seen (drop_all start.at tokens past) in
    at_start tokens from place start so_far
    (ap (λ (ts : List liberty.Token). (cut (place_seen start.place) ts).0) none)
    (subst (λ (ts : List liberty.Token). Begins (place_seen start.place) ts) (sym none) tt)
