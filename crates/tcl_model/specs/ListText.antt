-- The text that a list is made of (Tcl, with this project's own rule of quoting). Items are parted by one blank each.
-- An item that is empty or has a byte that would part or open something stands in braces, one with a brace, a quote or
-- a backslash has backslashes instead, and any other stands as it is.
use Rattle.std.specs.Prelude.{◌++◌, ◌||◌, ◌==◌, ℕ, Bool, List, [], ◌∷◌, if◌then◌else◌}
use Rattle.std.specs.List.{list_any}
use Rattle.text_model.specs.Bytes.{is_space}

-- a byte for which an item needs braces: a space, a newline, `[`, `]`, `$`, `;` or `#`
abbrev pub needs_braces : ℕ → Bool
needs_braces b = is_space b || b == 10 || b == 91 || b == 93 || b == 36 || b == 59 || b == 35

-- a byte for which an item needs backslashes: a brace, a quote or a backslash
abbrev pub needs_backslashes : ℕ → Bool
needs_backslashes b = b == 123 || b == 125 || b == 34 || b == 92

-- a byte that has a backslash in an item with backslashes
abbrev pub is_taken : ℕ → Bool
is_taken b = needs_backslashes b || is_space b || b == 10

-- the byte after its backslash: `n` for a newline, `t` for a tab
abbrev pub taken_as : ℕ → ℕ
taken_as b = if b == 10 then 110 else (if b == 9 then 116 else b)

-- an item with its backslashes
unfoldable pub with_backslashes : List ℕ → List ℕ
with_backslashes [] = []
with_backslashes (b ∷ bs) = if is_taken b then 92 ∷ (taken_as b ∷ with_backslashes bs) else b ∷ with_backslashes bs

-- an item in braces
abbrev pub in_braces : List ℕ → List ℕ
in_braces item = 123 ∷ (item ++ 125 ∷ [])

-- an item without a brace, a quote or a backslash
abbrev pub plain_item : List ℕ → List ℕ
plain_item [] = in_braces []
plain_item (b ∷ bs) = if list_any needs_braces (b ∷ bs) then in_braces (b ∷ bs) else b ∷ bs

-- an item as it stands in a list
unfoldable pub item_text : List ℕ → List ℕ
item_text item = if list_any needs_backslashes item then with_backslashes item else plain_item item

-- items after another one, each after a blank
abbrev pub more_items : List (List ℕ) → List ℕ
more_items [] = []
more_items (item ∷ items) = 32 ∷ (item_text item ++ more_items items)

-- the text of a list
abbrev pub list_text : List (List ℕ) → List ℕ
list_text [] = []
list_text (item ∷ items) = item_text item ++ more_items items
