-- Names of pins, cells, nets and clocks. Which names may stand is this project's own rule, so that each list of names
-- that is printed is read again as it was.
use Rattle.std.specs.Prelude.{◌≡◌, ◌==◌, ◌&&◌, ℕ, Bool, true, false, not, List, [], ◌∷◌, length, Some, slice_get, nat_lt}
use Rattle.std.specs.List.{All, list_all, list_any}

-- a byte that no name has: `*`, `?`, `{`, `}`, `"`, `\`, a blank, a tab, a carriage return or a newline
abbrev pub is_bad_byte : ℕ → Bool
is_bad_byte b = list_any (λ bad. bad == b) (42 ∷ 63 ∷ 123 ∷ 125 ∷ 34 ∷ 92 ∷ 32 ∷ 9 ∷ 13 ∷ 10 ∷ [])

abbrev pub begins_with_dash : List ℕ → Bool
begins_with_dash [] = false
begins_with_dash (b ∷ bs) = b == 45

-- a name that can be printed in a list and read again: not empty, with no such byte, and with no `-` first
abbrev pub is_good_name : List ℕ → Bool
is_good_name name = nat_lt 0 (length name) && (list_all (λ b. not (is_bad_byte b)) name && not (begins_with_dash name))

-- no two of these names are one
abbrev pub AreDistinct : List (List ℕ) → Type 0
AreDistinct names = (i j : ℕ) (name : List ℕ) → slice_get names i ≡ Some name → slice_get names j ≡ Some name → i ≡ j

abbrev pub AreGoodNames : List (List ℕ) → Type 0
AreGoodNames names = All (λ name. is_good_name name ≡ true) names × AreDistinct names
