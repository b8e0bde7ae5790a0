-- Spans of a text by their places: where what the grammar gives as the text after something begins. This project's
-- own words for what a scanner finds. Each says what a rest of the text is, by the place where it begins.
use Rattle.std.specs.Prelude.{◌≡◌, ◌≤◌, ◌∷◌, ℕ, Bool, true, List, [], drop, length}
use Rattle.std.specs.Str.{IsCharBoundary, IsUtf8}
use Rattle.text_model.specs.Bytes.{is_end}

-- from a place that cuts no character one comes to another such place
abbrev pub Keeps : List ℕ → ℕ → ℕ → Type 0
Keeps text from to = IsUtf8 text → IsCharBoundary text from → IsCharBoundary text to

-- a rest of the text begins at a place, at or after another one
pub record LeadsTo (text : List ℕ) (from to : ℕ) (rest : List ℕ) : Type 0 where
  pub is : rest ≡ drop to text
  pub forward : from ≤ to
  pub within : to ≤ length text
  pub keeps : Keeps text from to

-- what one function gives from a place, another one gives from the next
pub record Moves (first second : List ℕ → List ℕ) (text : List ℕ) (at next : ℕ) : Type 0 where
  pub same : first (drop at text) ≡ second (drop next text)
  pub forward : at ≤ next
  pub within : next ≤ length text

-- what a function gives from a place it gives from the next; where both are one place, it is the text from there on
pub record StepsTo (rest_of : List ℕ → List ℕ) (text : List ℕ) (at next : ℕ) : Type 0 where
  pub moves : Moves rest_of rest_of text at next
  pub stays : next ≡ at → rest_of (drop at text) ≡ drop at text
  pub keeps : Keeps text at next

-- a command ends before this text
abbrev pub ends_command : List ℕ → Bool
ends_command [] = true
ends_command (b ∷ bs) = is_end b
