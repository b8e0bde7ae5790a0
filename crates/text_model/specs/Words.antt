-- Words of a command that are one text each, which is what most arguments are (Tcl).
-- It reads: a word of one part that is a text has this text, and any other word has none.
use Rattle.std.specs.Prelude.{ℕ, Bool, false, List, [], ◌∷◌, Option, Some, None, nat_eq}
use Rattle.std.specs.Cmp.Lexicographic.{pointwise}
use Rattle.std.specs.List.{list_any}
use Rattle.source_types.specs.declared.commands.Part.{Part}
use Rattle.source_types.specs.declared.commands.Part.TheVariants as part

-- two texts are the same
abbrev pub same_text : List ℕ → List ℕ → Bool
same_text = pointwise nat_eq

-- a name is among names
abbrev pub is_among : List (List ℕ) → List ℕ → Bool
is_among names name = list_any (λ other. same_text other name) names

-- the text of a word that is one text
abbrev pub only_text : List Part → Option (List ℕ)
only_text (part.Text text ∷ []) = Some text
only_text _ = None

-- the word is one text, and this one
unfoldable pub is_text : List Part → List ℕ → Bool
is_text (part.Text text ∷ []) expected = same_text text expected
is_text _ expected = false
