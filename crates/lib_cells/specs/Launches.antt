-- Launch arcs that end at each pin of a cell, two and more counted as two (Liberty, `timing`). This project's own.
use Rattle.std.specs.Prelude.{◌≡◌, ◌+◌, ◌<◌, ◌==◌, ◌||◌, ◌&&◌, ℕ, Bool, false, not, List, filter, get_or, length, min, nat_le, nat_lt, set, if◌then◌else◌}
use Rattle.pin_types.specs.declared.library_cells.LibArc.{LibArc}
use Rattle.library_model.specs.LibertyArcs.{direction_at, is_output}
use Rattle.library_model.specs.LibertyCells.{NamedPin}

-- the number of launch arcs that end at a pin
abbrev pub launches_to : List LibArc → ℕ → ℕ
launches_to arcs pin = length (filter (λ (arc : LibArc). arc.launch && arc.to == pin) arcs)

-- the counts so far, with the arcs that are left, are those of all arcs
abbrev pub CountsSoFar : List ℕ → ℕ → List LibArc → List LibArc → Type 0
CountsSoFar counts pins rest arcs =
    (length counts ≡ pins)
    × ((pin : ℕ) → pin < pins → min 2 (get_or counts pin 0 + launches_to rest pin) ≡ min 2 (launches_to arcs pin))

-- the counts are those of all arcs, two and more being as two
abbrev pub AreCounts : List ℕ → ℕ → List LibArc → Type 0
AreCounts counts pins arcs = (length counts ≡ pins) × ((pin : ℕ) → pin < pins → min 2 (get_or counts pin 0) ≡ min 2 (launches_to arcs pin))

-- the counts with one more arc, if it launches and ends at one of the pins
abbrev pub with_launch : List ℕ → LibArc → List ℕ
with_launch counts arc =
    if not arc.launch || nat_le (length counts) arc.to then counts else set counts arc.to (min 2 (get_or counts arc.to 0 + 1))

-- an arc ends at an output that two arcs launch, by the counts
abbrev pub twice_at : List NamedPin → List ℕ → LibArc → Bool
twice_at ps counts arc =
    if nat_le (length counts) arc.to then false else is_output (direction_at ps arc.to) && nat_lt 1 (get_or counts arc.to 0)
