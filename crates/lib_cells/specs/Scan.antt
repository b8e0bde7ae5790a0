-- How far the bytes of one kind reach at the front of a text. This project's own words for what a scanner counts.
-- `bare_bytes` is `bare_len` of the definitions over bytes without their lines.
use Rattle.std.specs.Prelude.{◌+◌, ◌==◌, ℕ, Bool, List, [], ◌∷◌, not, if◌then◌else◌}
use Rattle.library_model.specs.LibertyTokens.{brackets_after, is_bare_byte}

abbrev pub is_no_quote : ℕ → Bool
is_no_quote b = not (b == 34)

-- the number of bytes of the name or number at the front, inside so many square brackets of it
abbrev pub bare_bytes : ℕ → List ℕ → ℕ
bare_bytes brackets [] = 0
bare_bytes brackets (b ∷ bs) = if is_bare_byte brackets b then bare_bytes (brackets_after b brackets) bs + 1 else 0
