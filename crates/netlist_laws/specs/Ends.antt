-- Where a comment or an attribute ends (IEEE 1364-2005): at the first star with the byte after it that closes it.
use Rattle.std.specs.Prelude.{◌==◌, ◌&&◌, ◌||◌, ℕ, Bool, false, List, [], ◌∷◌}
use Rattle.text_model.specs.Bytes.{begins_with}

-- a star and this byte stand somewhere in a text, the one right after the other
abbrev pub has_end : ℕ → List ℕ → Bool
has_end close [] = false
has_end close (b ∷ bs) = (b == 42 && begins_with close bs) || has_end close bs
