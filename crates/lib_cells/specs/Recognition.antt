-- The line of the first syntax error of a text, as the recogniser gives it. This project's own words.
-- The error is that of the grammar's table, and the outcome that of the definitions (`formed`).
use Rattle.std.specs.Prelude.{◌≡◌, ℕ, Bool, List, Option, Some, None, Result, Ok, Err}
use Rattle.token_grammar.specs.declared.grammar.SyntaxError.{SyntaxError}
use Rattle.token_grammar.specs.Texts.{ErrorIs}
use Rattle.source_types.specs.declared.liberty_tokens.LibertySymbol.TheVariants as part
use Rattle.library_model.specs.LibertyGrammar.{formed, kinds, liberty}
use Rattle.library_model.specs.LibertyTokens.{Token}

-- the tokens of a text that is one of the grammar, or the line of its first syntax error
abbrev pub outcome_of : List Token → Option ℕ → Result (List Token) ℕ
outcome_of tokens None = Ok tokens
outcome_of tokens (Some line) = Err line

-- a text has its first syntax error on a line, or none
pub record HasError (text : List ℕ) (tokens : List Token) (unfinished : Bool) (line : Option ℕ) : Type 0 where
  pub place : Option SyntaxError
  pub error_is : ErrorIs liberty part.Libraries (kinds 0 tokens) place
  pub gives : outcome_of tokens line ≡ formed text tokens unfinished place
