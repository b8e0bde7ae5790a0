-- The reader's tokens and places as the grammar of netlists has them. This project's own. Each function says for a
-- value of the code what it is in the definitions.
use Rattle.std.specs.Prelude.{◌≡◌, ◌<◌, ◌≤◌, ◌&&◌, ℕ, Bool, List, Option, Some, None, drop, length, map, nat_lt, slice_index}
use Rattle.text_model.specs.Row.{Front, found, stops}
use Rattle.netlist_model.specs.VerilogConstants.{is_base_letter}
use Rattle.netlist_model.specs.VerilogTokens as grammar
use Rattle.verilog_net.specs.declared.lexing.gaps.Gap.{Gap}
use Rattle.verilog_net.specs.declared.lexing.gaps.Gap.TheVariants as gap
use Rattle.verilog_net.specs.declared.lexing.lexed.Lexed.{Lexed}
use Rattle.verilog_net.specs.declared.lexing.tokens.Place.{Place}
use Rattle.verilog_net.specs.declared.lexing.tokens.Token.{Token}

-- what is being passed over
abbrev pub gap_seen : Gap → grammar.Gap
gap_seen gap.Between = grammar.between
gap_seen gap.RestOfLine = grammar.rest_of_line
gap_seen (gap.Opens close) = grammar.opens close
gap_seen (gap.Inside close) = grammar.inside close
gap_seen gap.Closes = grammar.closes

-- the text from a place on, where there is one
abbrev pub rest_seen : List ℕ → Option ℕ → Option (List ℕ)
rest_seen text None = None
rest_seen text (Some at) = Some (drop at text)

abbrev pub lexed_seen : List ℕ → Lexed → grammar.Lexed
lexed_seen text lexed = record { kind = lexed.kind; text = lexed.text.now; base = lexed.base; after = drop lexed.next text }

-- what was read at a place of a text is the token that is wanted there, and it is at least one byte
pub record IsLexed (text : List ℕ) (at : ℕ) (wanted : grammar.Lexed) (lexed : Lexed) : Type 0 where
  pub is : lexed_seen text lexed ≡ wanted
  pub further : at < lexed.next
  pub within : lexed.next ≤ length text

abbrev pub token_seen : Token → grammar.Token
token_seen token = record { at = token.at; line = token.line; kind = token.kind; text = token.text.now }

abbrev pub tokens_seen : List Token → List grammar.Token
tokens_seen tokens = map token_seen tokens

abbrev pub place_seen : List ℕ → Place → grammar.Place
place_seen text place = record { text = drop place.at text; at = place.at; line = place.line; base = place.base }

-- a token with the place after it, or the end of the text
abbrev pub front_seen : List ℕ → Option (Token × Place) → Front grammar.Token grammar.Place (Unit {0})
front_seen text None = stops tt
front_seen text (Some step) = found (token_seen step.0) (place_seen text step.1)

-- the letter of a base stands at a place
abbrev pub has_base_letter : List ℕ → ℕ → Bool
has_base_letter text at = nat_lt at (length text) && is_base_letter (slice_index text at)
