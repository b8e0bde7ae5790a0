-- Slices of tokens that counts take, and the tokens in them.
use Rattle.std.proofs.Common.{◌≡◌, ◌∙◌, ◌+◌, ◌-◌, ◌∷◌, ℕ, Bool, true, false, cond, List, [], drop, length, not, take, refl, sym, ap, arith}
use Rattle.std.proofs.lemmas.List.{drop-map, drop_all, length-map, take-map, take_rest}
use Rattle.std.proofs.lemmas.List.Recursion.{is_position_or_len}
use Rattle.std.specs.Prelude.{◌||◌}
use Rattle.std.specs.List.{after_first, before_first, list_any, position_or_len, prefix_len}
use Rattle.source_types.specs.declared.verilog_tokens.VerilogToken.{VerilogToken}
use Rattle.netlist_model.specs.VerilogSyntax as grammar
use Rattle.netlist_model.specs.VerilogTokens as lexical
use Rattle.verilog_net.specs.declared.lexing.tokens.Token.{Token}
use Rattle.verilog_net.specs.Seen.{token_seen, tokens_seen}
use Rattle.verilog_net.specs.Syntax.{directions_len, is_direction_seen, others_len}

turned : (n : ℕ) (t : Bool) → cond (not t) (1 + n) 0 ≡ cond t 0 (1 + n)
turned n true = refl
turned n false = refl

len_seen : (p : lexical.Token → Bool) (xs : List Token) → prefix_len (λ (t : Token). not (p (token_seen t))) xs ≡ prefix_len (λ (t : lexical.Token). not (p t)) (tokens_seen xs)
len_seen p [] = refl
len_seen p (x ∷ xs) = ap (λ n. cond (not (p (token_seen x))) (1 + n) 0) (len_seen p xs)

len_is : (p : lexical.Token → Bool) (xs : List Token) → prefix_len (λ (t : Token). not (p (token_seen t))) xs ≡ position_or_len p (tokens_seen xs)
len_is p xs =
    len_seen p xs
    ∙ is_position_or_len (prefix_len (λ (t : lexical.Token). not (p t))) p refl (λ x ys. turned (prefix_len (λ (t : lexical.Token). not (p t)) ys) (p x)) (tokens_seen xs)

front_taken : (p : lexical.Token → Bool) (n : ℕ) (xs taken : List Token) → n ≡ prefix_len (λ (t : Token). not (p (token_seen t))) xs → taken ≡ take n xs → tokens_seen taken ≡ before_first p (tokens_seen xs)
front_taken p n xs taken count is =
    ap tokens_seen is ∙ (sym (take-map token_seen n xs) ∙ ap (λ k. take k (tokens_seen xs)) (count ∙ len_is p xs))

pub direction_taken : (n : ℕ) (xs taken : List Token) → n ≡ directions_len xs → taken ≡ take n xs → tokens_seen taken ≡ before_first grammar.is_direction (tokens_seen xs)
direction_taken n xs taken count is = front_taken grammar.is_direction n xs taken count is

pub before_taken : (k : VerilogToken) (n : ℕ) (xs taken : List Token) → n ≡ others_len k xs → taken ≡ take n xs → tokens_seen taken ≡ before_first (grammar.is k) (tokens_seen xs)
before_taken k n xs taken count is = front_taken (grammar.is k) n xs taken count is

-- what stands after the first token of a kind
after : (k : VerilogToken) (n : ℕ) (xs : List Token) → n ≡ others_len k xs → tokens_seen (drop (n + 1) xs) ≡ after_first (grammar.is k) (tokens_seen xs)
after k n xs count = sym (drop-map token_seen (n + 1) xs) ∙ ap (λ m. drop (m + 1) (tokens_seen xs)) (count ∙ len_is (grammar.is k) xs)

pub after_taken : (k : VerilogToken) (n : ℕ) (xs taken : List Token) → n ≡ others_len k xs → taken ≡ take (length xs - (n + 1)) (drop (n + 1) xs) → tokens_seen taken ≡ after_first (grammar.is k) (tokens_seen xs)
after_taken k n xs taken count is = ap tokens_seen (is ∙ take_rest xs (n + 1)) ∙ after k n xs count

pub after_none : (k : VerilogToken) (n : ℕ) (xs taken : List Token) → n ≡ others_len k xs → n ≡ length xs → taken ≡ take (length xs - n) (drop n xs) → tokens_seen taken ≡ after_first (grammar.is k) (tokens_seen xs)
after_none k n xs taken count all is =
    ap tokens_seen (is ∙ (take_rest xs n ∙ (drop_all n xs (omega (arith, all)) ∙ sym (drop_all (n + 1) xs (omega (arith, all)))))) ∙ after k n xs count

pub inner_taken : (n : ℕ) (xs taken : List Token) → n ≡ length xs - 1 → taken ≡ take n xs → tokens_seen taken ≡ take (length (tokens_seen xs) - 1) (tokens_seen xs)
inner_taken n xs taken count is =
    ap tokens_seen is ∙ (sym (take-map token_seen n xs) ∙ ap (λ k. take k (tokens_seen xs)) (count ∙ ap (λ k. k - 1) (sym (length-map xs token_seen))))

any_is : (xs : List Token) → list_any is_direction_seen xs ≡ list_any grammar.is_direction (tokens_seen xs)
any_is [] = refl
any_is (x ∷ xs) = ap (λ t. grammar.is_direction (token_seen x) || t) (any_is xs)

pub any_direction : (xs : List Token) (b : Bool) → b ≡ list_any is_direction_seen xs → b ≡ list_any grammar.is_direction (tokens_seen xs)
any_direction xs b is = is ∙ any_is xs
