-- The checks of a cell by what tells them apart (Liberty, `timing`). This project's own.
use Rattle.std.specs.Prelude.{◌≡◌, ℕ, Bool, List, [], ◌∷◌}
use Rattle.std.specs.BTreeSet.{BTreeSet, contains}
use Rattle.std.specs.Cmp.Lexicographic.{slice_cmp}
use Rattle.std.specs.List.{list_any}
use Rattle.std.specs.Ordering.{nat_cmp}
use Rattle.pin_types.specs.declared.library_cells.LibCheck.{LibCheck}
use Rattle.pin_types.specs.Nodes.{side_number}
use Rattle.pin_types.specs.Nodes.{edge_number}
use Rattle.text_model.specs.Words.{same_text}

-- the places of the pins of a check, its edge and its side
abbrev pub check_key : LibCheck → List ℕ
check_key check = check.pin ∷ check.clock ∷ edge_number check.clock_edge ∷ side_number check.side ∷ []

-- a check of a key is among checks
abbrev pub has_key : List LibCheck → List ℕ → Bool
has_key checks key = list_any (λ (check : LibCheck). same_text (check_key check) key) checks

-- the set has the keys of checks
abbrev pub HasKeys : BTreeSet (List ℕ) → List LibCheck → Type 0
HasKeys known checks = (key : List ℕ) → contains (slice_cmp nat_cmp) known key ≡ has_key checks key
