-- Tokens of structural Verilog (IEEE 1364-2005, lexical conventions): names, numbers, the parts of sized constants and
-- marks, with what stands between them passed over: blanks, comments, attributes and directive lines. It reads: from
-- a place on stands a token with the place after it, or the end of the text.
use Rattle.std.specs.Prelude.{◌≡◌, ◌==◌, ◌||◌, ◌&&◌, ◌+◌, ◌-◌, ℕ, Bool, not, List, [], ◌∷◌, Option, Some, None, drop, length, take, if◌then◌else◌}
use Rattle.std.specs.List.{prefix_len}
use Rattle.std.specs.Option.{option_map}
use Rattle.source_types.specs.declared.verilog_tokens.VerilogToken.{VerilogToken}
use Rattle.source_types.specs.declared.verilog_tokens.VerilogToken.TheVariants as kind
use Rattle.text_model.specs.Bytes.{before, begins_with, is_digit, is_letter, is_name_byte, line_after}
use Rattle.text_model.specs.LastLine.{last_line_of}
use Rattle.text_model.specs.Row.{Front, Row, found, stops}
use Rattle.netlist_model.specs.VerilogConstants.{are_digits, is_base_letter, is_digits_byte, is_number_byte, lower, number_kind}
use Rattle.netlist_model.specs.VerilogWords.{word_kind}

-- ---- what stands between tokens

-- a blank, a tab, a carriage return or a newline
abbrev pub is_blank : ℕ → Bool
is_blank b = b == 32 || b == 9 || b == 13 || b == 10

-- what is being passed over: nothing yet; the rest of a line; the star that opens what a star and this byte close; what
-- stands inside; and the last byte of what closes it
pub data Gap : Type 0 where
  between : Gap
  rest_of_line : Gap
  opens : ℕ → Gap
  inside : ℕ → Gap
  closes : Gap

-- the byte after a star that closes what these two bytes open: a comment or an attribute
abbrev pub closing : ℕ → List ℕ → Option ℕ
closing b rest =
    if begins_with 42 rest then (if b == 47 then Some 47 else (if b == 40 then Some 41 else None)) else None

-- two bytes begin a comment up to the end of the line, or one byte a directive
abbrev pub opens_line : ℕ → List ℕ → Bool
opens_line b rest = b == 96 || (b == 47 && begins_with 47 rest)

-- what is passed over after a byte; nothing where a token begins at the byte
abbrev pub gap_after : Gap → ℕ → List ℕ → Option Gap
gap_after between b bs =
    if is_blank b then Some between
    else (if opens_line b bs then Some rest_of_line else option_map opens (closing b bs))
gap_after rest_of_line b bs = Some (if b == 10 then between else rest_of_line)
gap_after (opens close) b bs = Some (inside close)
gap_after (inside close) b bs = Some (if b == 42 && begins_with close bs then closes else inside close)
gap_after closes b bs = Some between

-- the end of the text after a gap; none in a comment or an attribute that has no end
abbrev pub ended_gap : Gap → Option (List ℕ)
ended_gap between = Some []
ended_gap rest_of_line = Some []
ended_gap (opens close) = None
ended_gap (inside close) = None
ended_gap closes = Some []

-- the text after a gap, from its first token on
unfoldable pub after_gap : Gap → List ℕ → Option (List ℕ)
after_gap gap [] = ended_gap gap
after_gap gap (b ∷ bs) = elim (gap_after gap b bs) [ None ↦ Some (b ∷ bs) | Some next ↦ after_gap next bs ]

-- ---- the token at the front of a text

-- a kind of token, its text, the letter where it is a base, and the text after it
pub record Lexed : Type 0 where
  pub kind : VerilogToken
  pub text : List ℕ
  pub base : Option ℕ
  pub after : List ℕ

abbrev pub plain : VerilogToken → List ℕ → List ℕ → Lexed
plain k text rest = record { kind = k; text = text; base = None; after = rest }

-- a byte that a name may begin with: a letter or `_`
abbrev pub begins_word : ℕ → Bool
begins_word b = is_letter b || b == 95

-- a byte of a name: a letter, a digit, `_` or `$`
abbrev pub is_word_byte : ℕ → Bool
is_word_byte b = is_name_byte b || b == 36

-- the mark that a byte is
abbrev pub mark_kind : ℕ → VerilogToken
mark_kind b =
    if b == 40 then kind.Open else (if b == 41 then kind.Close
    else (if b == 91 then kind.OpenBracket else (if b == 93 then kind.CloseBracket
    else (if b == 123 then kind.OpenBrace else (if b == 125 then kind.CloseBrace
    else (if b == 44 then kind.Comma else (if b == 58 then kind.Colon
    else (if b == 59 then kind.Semicolon else (if b == 46 then kind.Dot
    else (if b == 61 then kind.Equals else kind.Other))))))))))

-- the first bytes of a text, as many as said, as a token of a kind that depends on them
abbrev pub first_bytes : (List ℕ → VerilogToken) → ℕ → List ℕ → Lexed
first_bytes kind_of len text = plain (kind_of (take len text)) (take len text) (drop len text)

-- a name or a keyword, and a number, from their first byte on
abbrev pub word_token : List ℕ → Lexed
word_token text = first_bytes word_kind (prefix_len is_word_byte text) text

abbrev pub number_token : List ℕ → Lexed
number_token text = first_bytes number_kind (prefix_len is_number_byte text) text

-- after a backslash: a name up to a blank
abbrev pub escaped_token : List ℕ → Lexed
escaped_token text = first_bytes (λ name. kind.Name) (prefix_len (λ b. not (is_blank b)) text) text

-- after an apostrophe: the letter of a base
abbrev pub base_token : List ℕ → Lexed
base_token [] = plain kind.Other [] []
base_token (b ∷ bs) =
    if is_base_letter b then record { kind = kind.Base; text = b ∷ []; base = Some (lower b); after = bs }
    else plain kind.Other [] (b ∷ bs)

-- the token that begins with a byte
abbrev pub plain_token : ℕ → List ℕ → Lexed
plain_token b bs =
    if begins_word b then word_token (b ∷ bs)
    else (if is_digit b then number_token (b ∷ bs)
    else (if b == 92 then escaped_token bs
    else (if b == 39 then base_token bs
    else plain (mark_kind b) [] bs)))

-- after a base: its digits, where some stand there
abbrev pub digits_kind : ℕ → List ℕ → VerilogToken
digits_kind letter digits = if are_digits letter digits then kind.Digits else kind.Other

abbrev pub digits_token : ℕ → List ℕ → Lexed
digits_token letter text = first_bytes (digits_kind letter) (prefix_len is_digits_byte text) text

abbrev pub token_after : Option ℕ → ℕ → List ℕ → Lexed
token_after None b bs = plain_token b bs
token_after (Some letter) b bs = if is_digits_byte b then digits_token letter (b ∷ bs) else plain_token b bs

-- ---- tokens in a row

-- a token, where it begins, and its text: of a name without the backslash, of a base its letter
pub record Token : Type 0 where
  pub at : ℕ
  pub line : ℕ
  pub kind : VerilogToken
  pub text : List ℕ

-- a text, where in the file it begins, and on which line; and the letter of a base right before it
pub record Place : Type 0 where
  pub text : List ℕ
  pub at : ℕ
  pub line : ℕ
  pub base : Option ℕ

-- the place of a rest of the text
abbrev pub place_of : Place → List ℕ → Option ℕ → Place
place_of place rest base = record {
  text = rest;
  at = place.at + (length place.text - length rest);
  line = line_after (before place.text rest) place.line;
  base = base;
}

-- the token at a place where none is passed over
abbrev pub token_here : Place → Lexed → Front Token Place (Unit {0})
token_here place token =
    found (record { at = place.at; line = place.line; kind = token.kind; text = token.text }) (place_of place token.after token.base)

-- what has no end stands on the line of the last byte, as a token that no text has
abbrev pub unclosed : Place → Front Token Place (Unit {0})
unclosed place =
    found (record { at = place.at; line = last_line_of place.text place.line; kind = kind.Other; text = [] }) (place_of place [] None)

abbrev pub front_after : Place → Option (List ℕ) → Front Token Place (Unit {0})
front_after place None = unclosed place
front_after place (Some []) = stops tt
front_after place (Some (b ∷ bs)) = token_here (place_of place (b ∷ bs) place.base) (token_after place.base b bs)

-- what stands at a place: a token, or the end of the text
unfoldable pub token_at : Place → Front Token Place (Unit {0})
token_at place = front_after place (after_gap between place.text)

abbrev pub first_place : List ℕ → Place
first_place text = record { text = text; at = 0; line = 1; base = None }

-- the tokens of a text
abbrev pub AreTokens : List ℕ → List Token → Type 0
AreTokens text tokens = Row (λ place front. token_at place ≡ front) tokens (first_place text) tt
