-- The bytes that are left of a library's text once comments and the ends of continued lines are blanks (Liberty).
use Rattle.std.specs.Prelude.{◌==◌, ◌&&◌, ◌||◌, ◌++◌, ℕ, Bool, false, List, [], ◌∷◌}
use Rattle.text_model.specs.Bytes.{begins_with}
use Rattle.library_model.specs.LibertyTokens.{Within, shown, within_after}

-- the bytes of the characters of a text that stands in something
abbrev pub shown_text : Within → List ℕ → List ℕ
shown_text within [] = []
shown_text within (b ∷ bs) = shown within b bs ++ shown_text (within_after within b bs) bs

-- `*/` stands somewhere in a text
abbrev pub has_end : List ℕ → Bool
has_end [] = false
has_end (b ∷ bs) = (b == 42 && begins_with 47 bs) || has_end bs
