-- The tokens of an expression (Tcl): numbers, words, parentheses and operators. A tab, a carriage return, a newline
-- and a continued line count as a blank. What Tcl has beyond these tokens is malformed here: this project's own.
-- It reads: at the front of a text, after blanks, stands a token with the text after it, or the end, or neither.
use Rattle.std.specs.Prelude.{◌≡◌, ◌==◌, ◌||◌, ◌&&◌, ℕ, Bool, false, List, [], ◌∷◌, drop, Option, Some, None, Result, Ok, Err, if◌then◌else◌}
use Rattle.sdc_base.specs.declared.fixed.NumberError.{NumberError}
use Rattle.sdc_base.specs.declared.fixed.NumberError.TheVariants.{DivideByZero, NumberForm, NumberRange}
use Rattle.sdc_base.specs.Number.{Number, read_number}
use Rattle.source_types.specs.declared.expressions.BinaryOperator.{BinaryOperator}
use Rattle.source_types.specs.declared.expressions.BinaryOperator.TheVariants as operator
use Rattle.source_types.specs.declared.expressions.ExpressionToken.{ExpressionToken}
use Rattle.source_types.specs.declared.expressions.ExpressionToken.TheVariants as token
use Rattle.source_types.specs.declared.kinds.TclKind.{TclKind}
use Rattle.text_model.specs.Bytes.{before, begins_with, after, is_digit, is_space}
use Rattle.tcl_model.specs.Commands.{ArePieces}
use Rattle.text_model.specs.Continued.{continues}
use Rattle.text_model.specs.Enclosed.{after_brace}
use Rattle.tcl_model.specs.Pieces.{Piece, PieceFront, braced, other, quoted, substituted, text}
use Rattle.text_model.specs.Row.{Front, Row, found, stops}
use Rattle.tcl_model.specs.WordParts.{word_of_pieces}

-- what stops the tokens of a text
pub data Halt : Type 0 where
  all_read : Halt
  malformed : Halt

-- what stands at the front of a text
abbrev pub TokenFront : Type 0
TokenFront = Front ExpressionToken (List ℕ) Halt

-- what stands before a token: blanks, newlines, and the backslash of a continued line
abbrev pub is_passed : ℕ → List ℕ → Bool
is_passed b bs = is_space b || b == 10 || (b == 92 && continues bs)

-- the text from its first token on
unfoldable pub from_token : List ℕ → List ℕ
from_token [] = []
from_token (b ∷ bs) = if is_passed b bs then from_token bs else b ∷ bs

-- ---- operators and parentheses

-- the operator that two bytes spell
abbrev pub pair : ℕ → ℕ → Option BinaryOperator
pair b c =
    if b == 124 && c == 124 then Some operator.Or
    else if b == 38 && c == 38 then Some operator.And
    else if b == 61 && c == 61 then Some operator.Equal
    else if b == 33 && c == 61 then Some operator.NotEqual
    else if b == 101 && c == 113 then Some operator.TextEqual
    else if b == 110 && c == 101 then Some operator.TextNotEqual
    else if b == 60 && c == 61 then Some operator.LessEqual
    else if b == 62 && c == 61 then Some operator.GreaterEqual
    else None

-- the token that one byte spells
abbrev pub single : ℕ → Option ExpressionToken
single b =
    if b == 40 then Some token.Open
    else if b == 41 then Some token.Close
    else if b == 33 then Some token.Not
    else if b == 60 then Some (token.Operator operator.Less)
    else if b == 62 then Some (token.Operator operator.Greater)
    else if b == 43 then Some (token.Operator operator.Add)
    else if b == 45 then Some (token.Operator operator.Subtract)
    else if b == 42 then Some (token.Operator operator.Multiply)
    else if b == 47 then Some (token.Operator operator.Divide)
    else if b == 37 then Some (token.Operator operator.Remainder)
    else None

-- one token and the text after it, if there is one
abbrev pub single_front : Option ExpressionToken → List ℕ → TokenFront
single_front None rest = stops malformed
single_front (Some one) rest = found one rest

abbrev pub pair_front : Option BinaryOperator → ℕ → ℕ → List ℕ → TokenFront
pair_front None b c rest = single_front (single b) (c ∷ rest)
pair_front (Some op) b c rest = found (token.Operator op) rest

-- what begins with a byte, the longer spelling first
abbrev pub operator_front : ℕ → List ℕ → TokenFront
operator_front b [] = single_front (single b) []
operator_front b (c ∷ rest) = pair_front (pair b c) b c rest

-- ---- numbers

-- a text begins with a digit
abbrev pub begins_digits : List ℕ → Bool
begins_digits [] = false
begins_digits (b ∷ bs) = is_digit b

-- the text after the decimals of a number, where a point stands
abbrev pub after_decimals : List ℕ → List ℕ
after_decimals bytes = if begins_with 46 bytes then after is_digit (drop 1 bytes) else bytes

-- the text after a sign, where one stands
abbrev pub after_sign : List ℕ → List ℕ
after_sign bytes = if begins_with 43 bytes || begins_with 45 bytes then drop 1 bytes else bytes

-- the text after an exponent: an `e` or `E` is one only where digits follow, with or without a sign
abbrev pub begins_exponent : List ℕ → Bool
begins_exponent bytes = (begins_with 101 bytes || begins_with 69 bytes) && begins_digits (after_sign (drop 1 bytes))

abbrev pub after_exponent : List ℕ → List ℕ
after_exponent bytes = if begins_exponent bytes then after is_digit (after_sign (drop 1 bytes)) else bytes

-- the text after the longest number without a sign
abbrev pub after_number : List ℕ → List ℕ
after_number bytes = after_exponent (after_decimals (after is_digit bytes))

-- a number that was read, with the text after it; one that is out of range is a number all the same
abbrev pub number_front : Result Number NumberError → List ℕ → TokenFront
number_front (Err NumberForm) rest = stops malformed
number_front (Err NumberRange) rest = found (token.Number (Err NumberRange)) rest
number_front (Err DivideByZero) rest = stops malformed
number_front (Ok n) rest = found (token.Number (Ok n)) rest

-- the number that a text begins with, given the text after it
abbrev pub number_token : List ℕ → List ℕ → TokenFront
number_token bytes rest = number_front (read_number (before bytes rest)) rest

-- ---- words

-- a word of these pieces that a quote or a brace closed
abbrev pub closed_word : List Piece → Result (List ℕ) TclKind → TokenFront
closed_word pieces (Ok rest) = found (token.Word (word_of_pieces pieces)) rest
closed_word pieces (Err kind) = stops malformed

-- a braced text: the text after the opening brace, and the text after the closing one
abbrev pub IsBracedToken : List ℕ → Option (List ℕ) → TokenFront → Type 0
IsBracedToken inside None front = front ≡ stops malformed
IsBracedToken inside (Some rest) front =
    (pieces : List Piece) × ArePieces braced pieces (before inside (125 ∷ rest)) (Ok []) × (front ≡ closed_word pieces (Ok rest))

-- a quoted text, from the text after the opening quote
abbrev pub IsQuotedToken : List ℕ → TokenFront → Type 0
IsQuotedToken inside front =
    (pieces : List Piece) × (end : Result (List ℕ) TclKind) × ArePieces quoted pieces inside end × (front ≡ closed_word pieces end)

-- what stands at a `$`: a variable, but no `$` that is itself
abbrev pub variable_token : PieceFront → TokenFront
variable_token (found (text bytes) rest) = stops malformed
variable_token (found (other part) rest) = found (token.Word (word_of_pieces (other part ∷ []))) rest
variable_token (stops end) = stops malformed

-- what stands at a `[`: a script; that an index stands for itself is told where it is run
abbrev pub script_token : PieceFront → TokenFront
script_token (found piece rest) = found (token.Word (word_of_pieces (piece ∷ []))) rest
script_token (stops end) = stops malformed

-- ---- tokens

-- how a text goes on after blanks
pub data Lexeme : Type 0 where
  text_end : Lexeme
  brace_opens : List ℕ → Lexeme
  quote_opens : List ℕ → Lexeme
  dollar_opens : List ℕ → Lexeme
  bracket_opens : List ℕ → Lexeme
  number_opens : Lexeme
  other_byte : ℕ → List ℕ → Lexeme

abbrev pub lexeme : List ℕ → Lexeme
lexeme [] = text_end
lexeme (b ∷ bs) =
    if b == 123 then brace_opens bs
    else if b == 34 then quote_opens bs
    else if b == 36 then dollar_opens bs
    else if b == 91 then bracket_opens bs
    else if is_digit b || b == 46 then number_opens
    else other_byte b bs

abbrev pub IsTokenOf : Lexeme → List ℕ → TokenFront → Type 0
IsTokenOf text_end bytes front = front ≡ stops all_read
IsTokenOf (brace_opens inside) bytes front = IsBracedToken inside (after_brace inside) front
IsTokenOf (quote_opens inside) bytes front = IsQuotedToken inside front
IsTokenOf (dollar_opens inside) bytes front = front ≡ variable_token (substituted 36 inside)
IsTokenOf (bracket_opens inside) bytes front = front ≡ script_token (substituted 91 inside)
IsTokenOf number_opens bytes front = front ≡ number_token bytes (after_number bytes)
IsTokenOf (other_byte b bs) bytes front = front ≡ operator_front b bs

-- what stands at the front of a text, after blanks
abbrev pub StandsToken : List ℕ → TokenFront → Type 0
StandsToken bytes front = IsTokenOf (lexeme (from_token bytes)) (from_token bytes) front

-- these tokens stand in a row, and this stops them
abbrev pub AreTokens : List ExpressionToken → List ℕ → Halt → Type 0
AreTokens tokens bytes halt = Row StandsToken tokens bytes halt
