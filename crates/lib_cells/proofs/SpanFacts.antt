-- The front of statements or of tokens that a count of them takes.
use Rattle.std.proofs.Common.{◌≡◌, ◌∙◌, ◌+◌, ◌==◌, ◌||◌, ℕ, Bool, true, false, cond, List, [], ◌∷◌, nat_lt, not, one-add, refl, ap, take}
use Rattle.std.specs.List.{list_any, prefix_len}
use Rattle.library_model.specs.LibertyGrammar.{sign_of}
use Rattle.library_model.specs.LibertyStatements.{front_of, within}
use Rattle.library_model.specs.LibertyTokens as grammar
use Rattle.lib_cells.specs.Said.{has_brace}
use Rattle.lib_cells.specs.Seen.{statement_seen, statements_seen, token_seen, tokens_seen}
use Rattle.lib_cells.specs.Spans.{deeper_len, goes_on, is_brace, stays_open}
use Rattle.lib_cells.specs.declared.syntax.statements.Statement.{Statement}
use Rattle.lib_cells.specs.declared.scanning.tokens.Token.{Token}

within_step : (level : ℕ) (x : Statement) (xs : List Statement) (n : ℕ) → statements_seen (take n xs) ≡ within level (statements_seen xs)
    → (t : Bool) → statements_seen (take (cond t (1 + n) 0) (x ∷ xs)) ≡ cond t (statement_seen x ∷ within level (statements_seen xs)) []
within_step level x xs n tail true = ap (λ m. statements_seen (take m (x ∷ xs))) (one-add n) ∙ ap (λ ss. statement_seen x ∷ ss) tail
within_step level x xs n tail false = refl

within_is : (level : ℕ) (xs : List Statement) → statements_seen (take (deeper_len level xs) xs) ≡ within level (statements_seen xs)
within_is level [] = refl
within_is level (x ∷ xs) = within_step level x xs (deeper_len level xs) (within_is level xs) (nat_lt level x.level)

pub within_taken : (level n : ℕ) (xs taken : List Statement) → n ≡ deeper_len level xs → taken ≡ take n xs
    → statements_seen taken ≡ within level (statements_seen xs)
within_taken level n xs taken e f = ap statements_seen (f ∙ ap (λ m. take m xs) e) ∙ within_is level xs

front_step : (test : grammar.Token → Bool) (x : Token) (xs : List Token) (n : ℕ) → tokens_seen (take n xs) ≡ front_of test (tokens_seen xs)
    → (t : Bool) → tokens_seen (take (cond t (1 + n) 0) (x ∷ xs)) ≡ cond t (token_seen x ∷ front_of test (tokens_seen xs)) []
front_step test x xs n tail true = ap (λ m. tokens_seen (take m (x ∷ xs))) (one-add n) ∙ ap (λ ts. token_seen x ∷ ts) tail
front_step test x xs n tail false = refl

front_is : (test : grammar.Token → Bool) (xs : List Token)
    → tokens_seen (take (prefix_len (λ (t : Token). test (token_seen t)) xs) xs) ≡ front_of test (tokens_seen xs)
front_is test [] = refl
front_is test (x ∷ xs) =
    front_step test x xs (prefix_len (λ (t : Token). test (token_seen t)) xs) (front_is test xs) (test (token_seen x))

pub end_taken : (n : ℕ) (xs taken : List Token) → n ≡ prefix_len goes_on xs → taken ≡ take n xs
    → tokens_seen taken ≡ front_of (λ u. not (sign_of u == 59 || sign_of u == 125)) (tokens_seen xs)
end_taken n xs taken e f =
    ap tokens_seen (f ∙ ap (λ m. take m xs) e) ∙ front_is (λ u. not (sign_of u == 59 || sign_of u == 125)) xs

pub parenthesis_taken : (n : ℕ) (xs taken : List Token) → n ≡ prefix_len stays_open xs → taken ≡ take n xs
    → tokens_seen taken ≡ front_of (λ t. not (sign_of t == 41)) (tokens_seen xs)
parenthesis_taken n xs taken e f = ap tokens_seen (f ∙ ap (λ m. take m xs) e) ∙ front_is (λ t. not (sign_of t == 41)) xs

brace_is : (xs : List Token) → list_any is_brace xs ≡ has_brace (tokens_seen xs)
brace_is [] = refl
brace_is (x ∷ xs) = ap (λ t. is_brace x || t) (brace_is xs)

pub brace_seen : (xs : List Token) (b : Bool) → b ≡ list_any is_brace xs → b ≡ has_brace (tokens_seen xs)
brace_seen xs b e = e ∙ brace_is xs
