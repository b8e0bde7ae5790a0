-- Tables in which the next token decides what a symbol is (the condition of LL(1) grammars, in this project's form), so
-- that the stack machine finds the first syntax error of every text. `follow` has, for each symbol, the tokens that
-- may stand
-- after it where it is nothing. It reads: each symbol derives something; a nullable symbol begins with no token that may
-- follow it; and `follow` covers whatever the right sides of the table put after a symbol.
use Rattle.std.specs.Prelude.{◌≡◌, ◌||◌, ◌&&◌, Bool, true, false, not, List, [], ◌∷◌, Option, Some, None, is_some}
use Rattle.token_grammar.specs.Texts.{Derives, Table}

-- a token may stand first in what these symbols derive, or after them all where `after` says so
abbrev pub may_begin : {Symbol Kind : Type 0} → Table Symbol Kind → List Symbol → Kind → Bool → Bool
may_begin table [] kind after = after
may_begin table (symbol ∷ symbols) kind after =
    is_some (table.next symbol kind) || (table.nullable symbol && may_begin table symbols kind after)

-- `follow` has a token for each of these symbols after which the token may stand
abbrev pub is_followed : {Symbol Kind : Type 0} → Table Symbol Kind → (Symbol → Kind → Bool) → List Symbol → Kind → Bool → Bool
is_followed table follow [] kind after = true
is_followed table follow (symbol ∷ symbols) kind after =
    (not (may_begin table symbols kind after) || follow symbol kind) && is_followed table follow symbols kind after

-- it has such tokens for what stands after a token, where anything does
abbrev pub is_covered : {Symbol Kind : Type 0} → Table Symbol Kind → (Symbol → Kind → Bool) → Option (List Symbol) → Kind → Bool → Bool
is_covered table follow None kind after = true
is_covered table follow (Some symbols) kind after = is_followed table follow symbols kind after

pub record Decides {Symbol Kind : Type 0} (table : Table Symbol Kind) (follow : Symbol → Kind → Bool) : Type 0 where
  pub productive : (symbol : Symbol) → (kinds : List Kind) × Derives table (symbol ∷ []) kinds
  pub apart : (symbol : Symbol) (kind : Kind)
      → (table.nullable symbol && (follow symbol kind && is_some (table.next symbol kind))) ≡ false
  pub covered : (symbol : Symbol) (kind later : Kind)
      → is_covered table follow (table.next symbol kind) later (follow symbol later) ≡ true
