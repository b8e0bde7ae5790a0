-- Spans of statements and of tokens of the code, by what the definitions of Liberty's texts say of each. This project's
-- own.
use Rattle.std.specs.Prelude.{◌==◌, ◌||◌, ℕ, Bool, not, List, nat_lt}
use Rattle.std.specs.List.{prefix_len}
use Rattle.library_model.specs.LibertyGrammar.{sign_of}
use Rattle.lib_cells.specs.Seen.{token_seen}
use Rattle.lib_cells.specs.declared.syntax.statements.Statement.{Statement}
use Rattle.lib_cells.specs.declared.scanning.tokens.Token.{Token}

-- the number of statements at the front that stand deeper than a level
abbrev pub deeper_len : ℕ → List Statement → ℕ
deeper_len level statements = prefix_len (λ (s : Statement). nat_lt level s.level) statements

-- a token is no end of a value
abbrev pub goes_on : Token → Bool
goes_on t = not (sign_of (token_seen t) == 59 || sign_of (token_seen t) == 125)

-- a token is no `)`
abbrev pub stays_open : Token → Bool
stays_open t = not (sign_of (token_seen t) == 41)

abbrev pub is_brace : Token → Bool
is_brace t = sign_of (token_seen t) == 123
