-- An item that is made with backslashes, run by run. This project's own words for what the maker of lists does.
-- A run of bytes without backslashes ends with the item, or before a byte that has one.
use Rattle.std.specs.Prelude.{◌≡◌, ◌<◌, ◌≤◌, ◌++◌, ℕ, Bool, true, false, not, List, [], ◌∷◌, drop, length, get_or}
use Rattle.std.specs.List.{list_any}
use Rattle.std.specs.Str.{IsCharBoundary}
use Rattle.text_model.specs.Bytes.{after}
use Rattle.tcl_model.specs.ListText.{is_taken, needs_braces, with_backslashes}
use Rattle.tcl_words.specs.Spans.{LeadsTo}

-- a byte that has no backslash
abbrev pub untaken : ℕ → Bool
untaken b = not (is_taken b)

-- an item without a brace, a quote or a backslash stands as it is
abbrev pub is_bare : List ℕ → Bool
is_bare [] = false
is_bare (b ∷ bs) = not (list_any needs_braces (b ∷ bs))

-- the run from a place ends at another one
pub record UntakenTo (item : List ℕ) (from to : ℕ) : Type 0 where
  pub leads : LeadsTo item from to (after untaken (drop from item))
  pub ends : to < length item → is_taken (get_or item to 0) ≡ true
  pub boundary : IsCharBoundary item to

-- the item is written up to a next place; with the rest it is what it was with the rest from the place before
pub record IsPushed (before item : List ℕ) (from : ℕ) (later : List ℕ) (next : ℕ) : Type 0 where
  pub same : later ++ with_backslashes (drop next item) ≡ before ++ with_backslashes (drop from item)
  pub forward : from < next
  pub within : next ≤ length item
  pub boundary : IsCharBoundary item next
