-- What the reader of tokens finds at the front of characters, and in all of them. This project's own words.
-- Characters are given by their bytes and their lines; what stands there is what the definitions say of the characters.
use Rattle.std.specs.Prelude.{◌≡◌, ◌<◌, ◌+◌, ◌++◌, ◌==◌, ℕ, List, not, length}
use Rattle.std.specs.List.{prefix_len}
use Rattle.library_model.specs.LibertyTokens as grammar
use Rattle.library_model.specs.LibertyTokens.{AreTokens, Character, Ending, at_end, front_after, in_quotes, is_unfinished, last_token, quoted_front, token_front}
use Rattle.text_model.specs.Row.{Front, found, stops}
use Rattle.lib_cells.specs.Characters.{Shows}
use Rattle.lib_cells.specs.declared.scanning.lexing.Lexed.{Lexed}
use Rattle.lib_cells.specs.declared.scanning.lexing.Step.{Step}
use Rattle.lib_cells.specs.declared.scanning.lexing.Step.TheVariants.{End, Found, InQuotes}
use Rattle.lib_cells.specs.Seen.{token_seen, tokens_seen}

-- a step is what stands at the front of characters
abbrev pub IsFront : Step → Front grammar.Token (List Character) Ending → Type 0
IsFront (Found token rest) front = (cs : List Character) × (front ≡ found (token_seen token) cs) × Shows rest.text.now rest.lines.now cs
IsFront (InQuotes token) front = front ≡ stops (in_quotes (token_seen token))
IsFront End front = front ≡ stops at_end

-- a step leaves less than so many bytes
abbrev pub LeavesLess : ℕ → Step → Type 0
LeavesLess n (Found token rest) = length rest.text.now < n
LeavesLess n (InQuotes token) = Unit {0}
LeavesLess n End = Unit {0}

-- the number of characters before the next quote
abbrev pub before_quote : List Character → ℕ
before_quote cs = prefix_len (λ (c : Character). not (c.byte == 34)) cs

-- a quoted text after its first quote, given what parts it from the token before and the line of the quote
pub record QuotedAt (gap : List ℕ) (line : ℕ) (text lines : List ℕ) (step : Step) : Type 0 where
  pub is : (cs : List Character) → Shows text lines cs → IsFront step (quoted_front gap line cs (before_quote cs))
  pub less : LeavesLess (length text + 1) step

-- a token that begins with the first character, given what parts it from the one before
pub record AfterAt (gap : List ℕ) (text lines : List ℕ) (step : Step) : Type 0 where
  pub is : (cs : List Character) → Shows text lines cs → IsFront step (front_after gap cs)
  pub less : LeavesLess (length text) step

-- a token at the front of characters
pub record TokenAt (text lines : List ℕ) (step : Step) : Type 0 where
  pub is : (cs : List Character) → Shows text lines cs → IsFront step (token_front cs)
  pub less : LeavesLess (length text) step

-- the tokens of characters were read, with one whose quotes have no end
pub record IsRead (cs : List Character) (lexed : Lexed) : Type 0 where
  pub stood : List grammar.Token
  pub ending : Ending
  pub row : AreTokens cs stood ending
  pub all : tokens_seen lexed.tokens.items ≡ stood ++ last_token ending
  pub whole : lexed.unfinished ≡ is_unfinished ending

pub record AreLexed (text lines : List ℕ) (lexed : Lexed) : Type 0 where
  pub is : (cs : List Character) → Shows text lines cs → IsRead cs lexed
