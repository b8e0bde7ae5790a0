-- Texts in which brackets of one kind stand in pairs, one pair in another or after it (Tcl, braces and brackets).
-- It reads: such a text is a byte, a byte after a backslash, or a pair with such a text in it, and such a text after.
use Rattle.std.specs.Prelude.{◌≡◌, ◌==◌, ◌++◌, ℕ, Bool, false, List, [], ◌∷◌, Option}
use Rattle.std.specs.List.{list_any}
use Rattle.text_model.specs.Enclosed.{after_open, bracket, quote}

-- the text after the bracket that is open here, where a word may begin here or not; and after the quote
abbrev pub in_bracket : Bool → List ℕ → Option (List ℕ)
in_bracket begins text = after_open (bracket ∷ []) begins false text

abbrev pub after_quote : List ℕ → Option (List ℕ)
after_quote text = after_open (quote ∷ []) false false text

-- a byte is one of these
abbrev pub is_one_of : List ℕ → ℕ → Bool
is_one_of bytes b = list_any (λ one. b == one) bytes

pub data Nest : Type 0 where
  nothing : Nest
  byte : ℕ → Nest → Nest
  taken : ℕ → Nest → Nest
  pair : Nest → Nest → Nest

-- its text, with these two as brackets
abbrev pub spelled : ℕ → ℕ → Nest → List ℕ
spelled left right nothing = []
spelled left right (byte b rest) = b ∷ spelled left right rest
spelled left right (taken b rest) = 92 ∷ (b ∷ spelled left right rest)
spelled left right (pair inside rest) = left ∷ (spelled left right inside ++ (right ∷ spelled left right rest))

-- none of its bytes is one of these, but for brackets in pairs and what a backslash takes out
abbrev pub HasNone : List ℕ → Nest → Type 0
HasNone bytes nothing = Unit {0}
HasNone bytes (byte b rest) = (is_one_of bytes b ≡ false) × HasNone bytes rest
HasNone bytes (taken b rest) = HasNone bytes rest
HasNone bytes (pair inside rest) = HasNone bytes inside × HasNone bytes rest
