-- What the reader of an expression's tokens finds at a place of a text, as the grammar of tokens has it. This
-- project's own words for it.
use Rattle.std.specs.Prelude.{◌≡◌, ◌<◌, ◌≤◌, ◌+◌, ℕ, List, drop, length, slice_index, Option, Some, None, Result, Ok, Err}
use Rattle.std.specs.Str.{IsCharBoundary}
use Rattle.sdc_base.specs.declared.memory.Stop.{Stop}
use Rattle.source_types.specs.declared.expressions.BinaryOperator.{BinaryOperator}
use Rattle.source_types.specs.declared.expressions.ExpressionToken.TheVariants as token
use Rattle.source_types.specs.declared.kinds.TclKind.{TclKind}
use Rattle.source_types.specs.declared.kinds.TclKind.TheVariants.{BadExpr}
use Rattle.tcl_model.specs.ExpressionTokens.{StandsToken, TokenFront, all_read, malformed, operator_front, single, single_front}
use Rattle.text_model.specs.Row.{found, stops}
use Rattle.tcl_words.specs.declared.spelled.Spelled.{Spelled}
use Rattle.tcl_words.specs.Spans.{Keeps}
use Rattle.tcl_eval.specs.declared.expressions.lexed.Lexed.{Lexed}

-- the token that was found at a place is what the grammar has in front, or it has none
abbrev pub LexedAt : (TokenFront → Type 0) → List ℕ → ℕ → Result Lexed TclKind → Type 0
LexedAt Stands text at (Ok lexed) =
    Stands (found lexed.token (drop lexed.end text)) × (at < lexed.end) × (lexed.end ≤ length text) × Keeps text at lexed.end
LexedAt Stands text at (Err kind) = (kind ≡ BadExpr) × Stands (stops malformed)

-- the first token at or after a place, or the end of the text, or neither
abbrev pub TokenFrom : List ℕ → ℕ → Result (Option Lexed) TclKind → Type 0
TokenFrom text from (Ok None) = StandsToken (drop from text) (stops all_read)
TokenFrom text from (Ok (Some lexed)) =
    StandsToken (drop from text) (found lexed.token (drop lexed.end text)) × (from < lexed.end) × (lexed.end ≤ length text)
    × IsCharBoundary text lexed.end
TokenFrom text from (Err kind) = (kind ≡ BadExpr) × StandsToken (drop from text) (stops malformed)

-- the operator of two bytes at a place is what the grammar has in front, or it has what the first byte spells
abbrev pub PairAt : List ℕ → ℕ → Option BinaryOperator → Type 0
PairAt text at None = operator_front (slice_index text at) (drop (at + 1) text) ≡ single_front (single (slice_index text at)) (drop (at + 1) text)
PairAt text at (Some op) =
    (operator_front (slice_index text at) (drop (at + 1) text) ≡ found (token.Operator op) (drop (at + 2) text))
    × (at + 2 ≤ length text) × (slice_index text (at + 1) < 128)

-- a word as a token
abbrev pub word_token : Result Spelled (Stop TclKind) → Result Lexed (Stop TclKind)
word_token (Ok spelled) = Ok (record { token = token.Word spelled.word; end = spelled.end })
word_token (Err stop) = Err stop
