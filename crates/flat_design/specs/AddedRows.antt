-- Rows that are added to others. This project's own words.
-- It reads: after the old rows stand new ones, one for each of the things, in their order.
use Rattle.std.specs.Prelude.{◌≡◌, ◌++◌, List}
use Rattle.std.specs.List.{AllZip}

-- rows of these things are added
abbrev pub AddsRows : {A B : Type 0} → (A → B → Type 0) → List A → List B → List B → Type 0
AddsRows {B} R things old new = (more : List B) × (new ≡ old ++ more) × AllZip R things more
