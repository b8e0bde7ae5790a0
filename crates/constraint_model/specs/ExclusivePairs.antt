-- Pairs of exclusive clocks as a mode has them: the lesser clock first, in order, each once. This project's own form.
use Rattle.std.specs.Prelude.{◌≡◌, ◌<◌, ◌⊎◌, ℕ, List, [], ◌∷◌, nat_le, if◌then◌else◌}
use Rattle.timing_types.specs.declared.clocks.Pair.{Pair}

-- two clocks as a pair
abbrev pub pair_of : ℕ → ℕ → Pair
pair_of a b = if nat_le a b then record { first = a; second = b } else record { first = b; second = a }

-- the first of some pairs, if there is one, comes after a pair in the order of both places
abbrev pub IsAfter : Pair → List Pair → Type 0
IsAfter pair [] = Unit {0}
IsAfter pair (next ∷ pairs) = (pair.first < next.first) ⊎ ((pair.first ≡ next.first) × (pair.second < next.second))

-- pairs of places of so many clocks, in order, each once, the lesser place first
abbrev pub ArePairs : ℕ → List Pair → Type 0
ArePairs count [] = Unit {0}
ArePairs count (pair ∷ pairs) =
    (pair.first < pair.second) × (pair.second < count) × IsAfter pair pairs × ArePairs count pairs
