-- The arcs of a cell by the pins that they are between (Liberty, `timing`). This project's own.
use Rattle.std.specs.Prelude.{◌≡◌, ◌+◌, ℕ, Bool, true, false, not, List, [], ◌∷◌, if◌then◌else◌, Option, Some, None}
use Rattle.std.specs.BTreeMap.{BTreeMap, get}
use Rattle.std.specs.Cmp.Lexicographic.{slice_cmp}
use Rattle.std.specs.List.{prefix_len}
use Rattle.std.specs.Ordering.{nat_cmp}
use Rattle.pin_types.specs.declared.library_cells.LibArc.{LibArc}
use Rattle.library_model.specs.LibertyArcs.{is_same_pair}
use Rattle.text_model.specs.Words.{same_text}

abbrev pub launch_number : Bool → ℕ
launch_number true = 1
launch_number false = 0

-- the places of the pins of an arc, and whether it launches
abbrev pub pair_key : LibArc → List ℕ
pair_key arc = arc.from ∷ arc.to ∷ launch_number arc.launch ∷ []

-- the place of the first arc of a key, the first arc standing at a place
abbrev pub pair_from : ℕ → List LibArc → List ℕ → Option ℕ
pair_from place [] key = None
pair_from place (arc ∷ arcs) key = if same_text (pair_key arc) key then Some place else pair_from (place + 1) arcs key

-- the map has the places of arcs
abbrev pub HasPairs : BTreeMap (List ℕ) ℕ → List LibArc → Type 0
HasPairs places arcs = (key : List ℕ) → get (slice_cmp nat_cmp) places key ≡ pair_from 0 arcs key

-- the place of the first arc between the same pins as one, or the number of arcs
abbrev pub pair_place : List LibArc → LibArc → ℕ
pair_place arcs arc = prefix_len (λ other. not (is_same_pair other arc)) arcs
