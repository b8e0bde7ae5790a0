-- What is open at a place while a brace or a bracket is passed over, as the grammar has it. This project's own.
-- The reader keeps what is open around the innermost with the outermost first, the grammar with the innermost first.
use Rattle.std.specs.Prelude.{◌≡◌, ◌<◌, ◌≤◌, ◌-◌, ◌++◌, ℕ, Bool, true, false, List, [], ◌∷◌, Option, Some, None, drop, length}
use Rattle.std.specs.Str.{IsCharBoundary, IsUtf8}
use Rattle.text_model.specs.Enclosed as grammar
use Rattle.tcl_words.specs.declared.enclosed.Open.{Open}
use Rattle.tcl_words.specs.declared.enclosed.Open.TheVariants.{Brace, Bracket, Quote}
use Rattle.tcl_words.specs.declared.enclosed.Change.{Change}
use Rattle.tcl_words.specs.declared.enclosed.Change.TheVariants.{Closes, Opens, Stays}
use Rattle.tcl_words.specs.declared.enclosed.Nest.{Nest}

abbrev pub open_of : Open → grammar.Open
open_of Bracket = grammar.bracket
open_of Quote = grammar.quote
open_of Brace = grammar.brace

-- what is open, the innermost first
abbrev pub opens_of : List Open → List grammar.Open
opens_of [] = []
opens_of (open_ ∷ opens) = opens_of opens ++ open_of open_ ∷ []

abbrev pub nest_of : Option Nest → List grammar.Open
nest_of None = []
nest_of (Some nest) = open_of nest.inner ∷ opens_of nest.outer.items

-- what is open after a change
abbrev pub changed : grammar.Open → List grammar.Open → Change → List grammar.Open
changed inner outer (Opens open_) = open_of open_ ∷ (inner ∷ outer)
changed inner outer Closes = outer
changed inner outer Stays = inner ∷ outer

-- whether a word may begin right after what opens it
abbrev pub begins_in : Open → Bool
begins_in Bracket = true
begins_in Quote = false
begins_in Brace = false

-- the text after what is opened before this text
abbrev pub after_of : Open → List ℕ → Option (List ℕ)
after_of open_ text = grammar.after_open (open_of open_ ∷ []) (begins_in open_) false text

-- the rest after it begins at a place, and the byte that closes it stands right before; or there is none
pub record ClosesAt (text : List ℕ) (from to : ℕ) (rest : Option (List ℕ)) : Type 0 where
  pub is : rest ≡ Some (drop to text)
  pub forward : from < to
  pub within : to ≤ length text
  pub before : IsUtf8 text → IsCharBoundary text (to - 1)
  pub after : IsUtf8 text → IsCharBoundary text to

abbrev pub ClosingAt : List ℕ → ℕ → Option (List ℕ) → Option ℕ → Type 0
ClosingAt text from rest None = rest ≡ None
ClosingAt text from rest (Some to) = ClosesAt text from to rest
