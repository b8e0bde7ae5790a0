-- Texts of tokens and their syntax errors, for any kinds of token and any grammar that is given by a table. A
-- context-free
-- grammar in the form that the next token can decide (LL(1)); the form is this project's own. It reads: a symbol that
-- begins with a token is that token with the symbols of `next` after it, and a nullable symbol may also be nothing.
use Rattle.std.specs.Prelude.{◌≡◌, ◌+◌, ◌<◌, ◌++◌, Bool, true, List, [], ◌∷◌, Option, Some, None, length, take}
use Rattle.token_grammar.specs.declared.grammar.SyntaxError.{SyntaxError}
use Rattle.token_grammar.specs.declared.grammar.SyntaxError.TheVariants.{Token, End}

-- the table of a grammar
pub record Table (Symbol Kind : Type 0) : Type 0 where
  -- what stands after a token that a symbol begins with, or nothing where it does not begin with that token
  pub next : Symbol → Kind → Option (List Symbol)
  -- a symbol may be nothing
  pub nullable : Symbol → Bool

-- symbols, one after another, derive these tokens
pub data Derives {Symbol Kind : Type 0} (table : Table Symbol Kind) : List Symbol → List Kind → Type 0 where
  done : Derives table [] []
  begins : {symbol : Symbol} {kind : Kind} {after symbols : List Symbol} {kinds : List Kind}
      → table.next symbol kind ≡ Some after → Derives table (after ++ symbols) kinds
      → Derives table (symbol ∷ symbols) (kind ∷ kinds)
  skips : {symbol : Symbol} {symbols : List Symbol} {kinds : List Kind}
      → table.nullable symbol ≡ true → Derives table symbols kinds
      → Derives table (symbol ∷ symbols) kinds

-- tokens are a text of a symbol
abbrev pub IsText : {Symbol Kind : Type 0} → Table Symbol Kind → Symbol → List Kind → Type 0
IsText table start kinds = Derives table (start ∷ []) kinds

-- tokens are the front of a text
abbrev pub IsFront : {Symbol Kind : Type 0} → Table Symbol Kind → Symbol → List Kind → Type 0
IsFront {Kind = K} table start kinds = (more : List K) × IsText table start (kinds ++ more)

-- tokens are a text, or have a syntax error at the first token that no text has after those before it, or end too
-- early
abbrev pub ErrorIs : {Symbol Kind : Type 0} → Table Symbol Kind → Symbol → List Kind → Option SyntaxError → Type 0
ErrorIs table start kinds None = IsText table start kinds
ErrorIs table start kinds (Some (Token place)) =
    (place < length kinds) × IsFront table start (take place kinds) × (IsFront table start (take (place + 1) kinds) → ⊥)
ErrorIs table start kinds (Some End) = IsFront table start kinds × (IsText table start kinds → ⊥)
