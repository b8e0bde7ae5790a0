-- Tokens cut at marks, up to a place.
use Rattle.std.proofs.Common.{◌≡◌, ◌∙◌, ◌+◌, ◌-◌, ◌<◌, ◌≤◌, ◌==◌, ◌++◌, ◌∷◌, ℕ, Bool, true, false, cond, List, [], Bor, append_assoc, drop, get_or, length, take, refl, sym, ap, arith}
use Rattle.std.specs.Prelude.{◌&&◌, if◌then◌else◌}
use Rattle.std.proofs.lemmas.List.{append-nil, drop_all, drop_more, get_or-drop, length-drop, map_push, take_more}
use Rattle.std.specs.List.{onto_first, slice_split}
use Rattle.sdc_base.proofs.CaseFacts.{by_bool}
use Rattle.source_types.specs.declared.verilog_tokens.VerilogToken.{VerilogToken}
use Rattle.source_types.specs.declared.verilog_tokens.VerilogToken.TheVariants as kind
use Rattle.netlist_model.specs.VerilogSyntax as grammar
use Rattle.netlist_model.specs.VerilogTokens as lexical
use Rattle.verilog_net.specs.declared.lexing.tokens.Token.{Token}
use Rattle.verilog_net.specs.Seen.{token_seen, tokens_seen}
use Rattle.verilog_net.specs.Syntax.{parts_seen}

-- tokens put before the first of some parts
abbrev pub after_front : List lexical.Token → List (List lexical.Token) → List (List lexical.Token)
after_front front [] = front ∷ []
after_front front (part ∷ parts) = (front ++ part) ∷ parts

onto_none : (x : lexical.Token) (parts : List (List lexical.Token)) → after_front [] (onto_first x parts) ≡ onto_first x parts
onto_none x [] = refl
onto_none x (part ∷ parts) = refl

onto_more : (front : List lexical.Token) (x : lexical.Token) (parts : List (List lexical.Token)) → after_front front (onto_first x parts) ≡ after_front (front ++ x ∷ []) parts
onto_more front x [] = refl
onto_more front x (part ∷ parts) = ap (λ p. p ∷ parts) (sym (append_assoc front (x ∷ []) part))

onto_is : (x : lexical.Token) (parts : List (List lexical.Token)) → grammar.onto x parts ≡ onto_first x parts
onto_is x [] = refl
onto_is x (part ∷ parts) = refl

split_none : (p : lexical.Token → Bool) (xs : List lexical.Token) → after_front [] (slice_split p xs) ≡ slice_split p xs
split_none p [] = refl
split_none p (x ∷ xs) = by_bool (λ t. after_front [] (cond t ([] ∷ slice_split p xs) (onto_first x (slice_split p xs))) ≡ cond t ([] ∷ slice_split p xs) (onto_first x (slice_split p xs))) (p x) (λ e. refl) (λ e. onto_none x (slice_split p xs))

-- what commas part, by whether the first token is one of them
abbrev comma_step : ℕ → lexical.Token → List lexical.Token → Bool → List (List lexical.Token)
comma_step depth x xs t = if t then [] ∷ grammar.parts_at depth xs else grammar.onto x (grammar.parts_at (grammar.depth_after depth x.kind) xs)

parts_front : (depth : ℕ) (xs : List lexical.Token) → after_front [] (grammar.parts_at depth xs) ≡ grammar.parts_at depth xs
parts_front depth [] = refl
parts_front depth (x ∷ xs) = by_bool (λ t. after_front [] (comma_step depth x xs t) ≡ comma_step depth x xs t) (depth == 0 && grammar.is kind.Comma x) (λ e. refl)
    (λ e. ap (after_front []) (onto_is x (grammar.parts_at (grammar.depth_after depth x.kind) xs)) ∙ (onto_none x (grammar.parts_at (grammar.depth_after depth x.kind) xs) ∙ sym (onto_is x (grammar.parts_at (grammar.depth_after depth x.kind) xs))))

-- the tokens from one place to another
abbrev pub stretch : List Token → ℕ → ℕ → List lexical.Token
stretch tokens from at = tokens_seen (take (at - from) (drop from tokens))

stretch_none : (tokens : List Token) (at : ℕ) → stretch tokens at at ≡ []
stretch_none tokens at = let none : at - at ≡ 0 = omega arith in rw none refl

stretch_more : (tokens : List Token) (from at : ℕ) (d : Token) → from ≤ at → at < length tokens → stretch tokens from (at + 1) ≡ stretch tokens from at ++ token_seen (get_or tokens at d) ∷ []
stretch_more tokens from at d forward inside =
    let n : at + 1 - from ≡ (at - from) + 1 = omega (arith, forward) in
    let less : at - from < length (drop from tokens) = omega (arith, forward, inside, length-drop from tokens) in
    let place : from + (at - from) ≡ at = omega (arith, forward) in
    ap (λ (m : ℕ). tokens_seen (take m (drop from tokens))) n
    ∙ (ap tokens_seen (take_more (drop from tokens) (at - from) d less)
    ∙ (map_push token_seen (take (at - from) (drop from tokens)) (get_or (drop from tokens) (at - from) d)
    ∙ ap (λ (t : Token). stretch tokens from at ++ token_seen t ∷ []) (get_or-drop from tokens (at - from) d ∙ ap (λ (i : ℕ). get_or tokens i d) place)))

-- one more part
part_more : (parts more : List (Bor (List Token))) (part : Bor (List Token)) (front : List lexical.Token) (rest : List (List lexical.Token)) → more ≡ parts ++ part ∷ [] → tokens_seen part.now ≡ front
    → parts_seen more ++ rest ≡ parts_seen parts ++ after_front front ([] ∷ rest)
part_more parts more part front rest is same =
    ap (λ (ps : List (Bor (List Token))). parts_seen ps ++ rest) is
    ∙ (ap (λ ps. ps ++ rest) (map_push (λ (p : Bor (List Token)). tokens_seen p.now) parts part)
    ∙ (append_assoc (parts_seen parts) (tokens_seen part.now ∷ []) rest
    ∙ ap (λ t. parts_seen parts ++ t ∷ rest) (same ∙ sym (append-nil front))))

-- ---- cut at the tokens of a kind

pub record CutSoFar (k : VerilogToken) (tokens : List Token) (from at : ℕ) (parts : List (Bor (List Token))) : Type 0 where
  pub forward : from ≤ at
  pub within : at ≤ length tokens
  pub all : parts_seen parts ++ after_front (stretch tokens from at) (slice_split (grammar.is k) (tokens_seen (drop at tokens))) ≡ slice_split (grammar.is k) (tokens_seen tokens)

pub cut_none : (k : VerilogToken) (tokens : List Token) (parts : List (Bor (List Token))) → parts ≡ [] → CutSoFar k tokens 0 0 parts
cut_none k tokens parts none = record {
  forward = omega arith;
  within = omega arith;
  all = ap (λ (ps : List (Bor (List Token))). parts_seen ps ++ after_front [] (slice_split (grammar.is k) (tokens_seen tokens))) none ∙ split_none (grammar.is k) (tokens_seen tokens);
}

split_at : (k : VerilogToken) (tokens : List Token) (at : ℕ) (d : Token) → at < length tokens → slice_split (grammar.is k) (tokens_seen (drop at tokens))
    ≡ cond (grammar.is k (token_seen (get_or tokens at d))) ([] ∷ slice_split (grammar.is k) (tokens_seen (drop (at + 1) tokens))) (onto_first (token_seen (get_or tokens at d)) (slice_split (grammar.is k) (tokens_seen (drop (at + 1) tokens))))
split_at k tokens at d inside = ap (λ (ts : List Token). slice_split (grammar.is k) (tokens_seen ts)) (drop_more tokens at d inside)

pub cut_here : (k : VerilogToken) (tokens : List Token) (from at : ℕ) (parts more : List (Bor (List Token))) (part : Bor (List Token)) (d : Token) → CutSoFar k tokens from at parts → at < length tokens
    → grammar.is k (token_seen (get_or tokens at d)) ≡ true → part.now ≡ take (at - from) (drop from tokens) → more ≡ parts ++ part ∷ [] → CutSoFar k tokens (at + 1) (at + 1) more
cut_here k tokens from at parts more part d so_far inside here is more_is =
    let rest = slice_split (grammar.is k) (tokens_seen (drop (at + 1) tokens)) in
    let cut_is : slice_split (grammar.is k) (tokens_seen (drop at tokens)) ≡ [] ∷ rest = split_at k tokens at d inside ∙ rw here refl in
    record {
      forward = omega arith;
      within = omega (arith, inside);
      all =
          ap (λ (f : List lexical.Token). parts_seen more ++ after_front f rest) (stretch_none tokens (at + 1))
          ∙ (ap (λ ps. parts_seen more ++ ps) (split_none (grammar.is k) (tokens_seen (drop (at + 1) tokens)))
          ∙ (part_more parts more part (stretch tokens from at) rest more_is (ap tokens_seen is)
          ∙ (ap (λ ps. parts_seen parts ++ after_front (stretch tokens from at) ps) (sym cut_is) ∙ so_far.all)));
    }

pub cut_not_here : (k : VerilogToken) (tokens : List Token) (from at : ℕ) (parts : List (Bor (List Token))) (d : Token) → CutSoFar k tokens from at parts → at < length tokens
    → grammar.is k (token_seen (get_or tokens at d)) ≡ false → CutSoFar k tokens from (at + 1) parts
cut_not_here k tokens from at parts d so_far inside here =
    let rest = slice_split (grammar.is k) (tokens_seen (drop (at + 1) tokens)) in
    let cut_is : slice_split (grammar.is k) (tokens_seen (drop at tokens)) ≡ onto_first (token_seen (get_or tokens at d)) rest = split_at k tokens at d inside ∙ rw here refl in
    record {
      forward = omega (arith, so_far.forward);
      within = omega (arith, inside);
      all =
          ap (λ (f : List lexical.Token). parts_seen parts ++ after_front f rest) (stretch_more tokens from at d so_far.forward inside)
          ∙ (ap (λ ps. parts_seen parts ++ ps) (sym (onto_more (stretch tokens from at) (token_seen (get_or tokens at d)) rest))
          ∙ (ap (λ ps. parts_seen parts ++ after_front (stretch tokens from at) ps) (sym cut_is) ∙ so_far.all));
    }

pub cut_all : (k : VerilogToken) (tokens : List Token) (from at : ℕ) (parts more : List (Bor (List Token))) (part : Bor (List Token)) → CutSoFar k tokens from at parts → length tokens ≤ at
    → part.now ≡ take (length tokens - from) (drop from tokens) → more ≡ parts ++ part ∷ [] → parts_seen more ≡ slice_split (grammar.is k) (tokens_seen tokens)
cut_all k tokens from at parts more part so_far end is more_is =
    let none : tokens_seen (drop at tokens) ≡ [] = ap tokens_seen (drop_all at tokens end) in
    let last : at ≡ length tokens = omega (arith, end, so_far.within) in
    sym (append-nil (parts_seen more))
    ∙ (part_more parts more part (stretch tokens from at) [] more_is (ap tokens_seen (is ∙ ap (λ (n : ℕ). take (n - from) (drop from tokens)) (sym last)))
    ∙ (ap (λ (ts : List lexical.Token). parts_seen parts ++ after_front (stretch tokens from at) (slice_split (grammar.is k) ts)) (sym none) ∙ so_far.all))

-- ---- cut at commas outside brackets

pub record PartsSoFar (tokens : List Token) (from at depth : ℕ) (parts : List (Bor (List Token))) : Type 0 where
  pub forward : from ≤ at
  pub within : at ≤ length tokens
  pub few : depth ≤ at
  pub all : parts_seen parts ++ after_front (stretch tokens from at) (grammar.parts_at depth (tokens_seen (drop at tokens))) ≡ grammar.parts_of (tokens_seen tokens)

pub parts_none : (tokens : List Token) (parts : List (Bor (List Token))) → parts ≡ [] → PartsSoFar tokens 0 0 0 parts
parts_none tokens parts none = record {
  forward = omega arith;
  within = omega arith;
  few = omega arith;
  all = ap (λ (ps : List (Bor (List Token))). parts_seen ps ++ after_front [] (grammar.parts_of (tokens_seen tokens))) none ∙ parts_front 0 (tokens_seen tokens);
}

comma_at : (depth : ℕ) (tokens : List Token) (at : ℕ) (d : Token) → at < length tokens → grammar.parts_at depth (tokens_seen (drop at tokens))
    ≡ comma_step depth (token_seen (get_or tokens at d)) (tokens_seen (drop (at + 1) tokens)) (depth == 0 && grammar.is kind.Comma (token_seen (get_or tokens at d)))
comma_at depth tokens at d inside = ap (λ (ts : List Token). grammar.parts_at depth (tokens_seen ts)) (drop_more tokens at d inside)

pub parts_here : (tokens : List Token) (from at depth : ℕ) (parts more : List (Bor (List Token))) (part : Bor (List Token)) (d : Token) (b : Bool) → PartsSoFar tokens from at depth parts → at < length tokens
    → b ≡ (depth == 0 && grammar.is kind.Comma (token_seen (get_or tokens at d))) → b ≡ true → part.now ≡ take (at - from) (drop from tokens) → more ≡ parts ++ part ∷ [] → PartsSoFar tokens (at + 1) (at + 1) depth more
parts_here tokens from at depth parts more part d b so_far inside test holds is more_is =
    let rest = grammar.parts_at depth (tokens_seen (drop (at + 1) tokens)) in
    let cut_is : grammar.parts_at depth (tokens_seen (drop at tokens)) ≡ [] ∷ rest =
    comma_at depth tokens at d inside ∙ ap (comma_step depth (token_seen (get_or tokens at d)) (tokens_seen (drop (at + 1) tokens))) (sym test ∙ holds) in
    record {
      forward = omega arith;
      within = omega (arith, inside);
      few = omega (arith, so_far.few);
      all =
          ap (λ (f : List lexical.Token). parts_seen more ++ after_front f rest) (stretch_none tokens (at + 1))
          ∙ (ap (λ ps. parts_seen more ++ ps) (parts_front depth (tokens_seen (drop (at + 1) tokens)))
          ∙ (part_more parts more part (stretch tokens from at) rest more_is (ap tokens_seen is)
          ∙ (ap (λ ps. parts_seen parts ++ after_front (stretch tokens from at) ps) (sym cut_is) ∙ so_far.all)));
    }

pub parts_not_here : (tokens : List Token) (from at depth next : ℕ) (parts : List (Bor (List Token))) (d : Token) (b : Bool) → PartsSoFar tokens from at depth parts → at < length tokens
    → b ≡ (depth == 0 && grammar.is kind.Comma (token_seen (get_or tokens at d))) → b ≡ false → next ≡ grammar.depth_after depth (get_or tokens at d).kind → next ≤ depth + 1 → PartsSoFar tokens from (at + 1) next parts
parts_not_here tokens from at depth next parts d b so_far inside test fails next_is next_few =
    let rest = grammar.parts_at next (tokens_seen (drop (at + 1) tokens)) in
    let cut_is : grammar.parts_at depth (tokens_seen (drop at tokens)) ≡ onto_first (token_seen (get_or tokens at d)) rest =
    comma_at depth tokens at d inside
    ∙ (ap (comma_step depth (token_seen (get_or tokens at d)) (tokens_seen (drop (at + 1) tokens))) (sym test ∙ fails)
    ∙ (ap (λ (n : ℕ). grammar.onto (token_seen (get_or tokens at d)) (grammar.parts_at n (tokens_seen (drop (at + 1) tokens)))) (sym next_is)
    ∙ onto_is (token_seen (get_or tokens at d)) rest)) in
    record {
      forward = omega (arith, so_far.forward);
      within = omega (arith, inside);
      few = omega (arith, so_far.few, next_few);
      all =
          ap (λ (f : List lexical.Token). parts_seen parts ++ after_front f rest) (stretch_more tokens from at d so_far.forward inside)
          ∙ (ap (λ ps. parts_seen parts ++ ps) (sym (onto_more (stretch tokens from at) (token_seen (get_or tokens at d)) rest))
          ∙ (ap (λ ps. parts_seen parts ++ after_front (stretch tokens from at) ps) (sym cut_is) ∙ so_far.all));
    }

pub parts_all : (tokens : List Token) (from at depth : ℕ) (parts more : List (Bor (List Token))) (part : Bor (List Token)) → PartsSoFar tokens from at depth parts → length tokens ≤ at
    → part.now ≡ take (length tokens - from) (drop from tokens) → more ≡ parts ++ part ∷ [] → parts_seen more ≡ grammar.parts_of (tokens_seen tokens)
parts_all tokens from at depth parts more part so_far end is more_is =
    let none : tokens_seen (drop at tokens) ≡ [] = ap tokens_seen (drop_all at tokens end) in
    let last : at ≡ length tokens = omega (arith, end, so_far.within) in
    sym (append-nil (parts_seen more))
    ∙ (part_more parts more part (stretch tokens from at) [] more_is (ap tokens_seen (is ∙ ap (λ (n : ℕ). take (n - from) (drop from tokens)) (sym last)))
    ∙ (ap (λ (ts : List lexical.Token). parts_seen parts ++ after_front (stretch tokens from at) (grammar.parts_at depth ts)) (sym none) ∙ so_far.all))
