-- Ranges of vectors (IEEE 1364-2005, vectors): the numbers of their bits from the left one to the right one, and how
-- many they are. It reads: numbers rise or fall, both ends counted.
use Rattle.std.specs.Prelude.{◌+◌, ◌-◌, ℕ, zero, suc, List, [], ◌∷◌, Option, Some, None, map, nat_le, if◌then◌else◌}
use Rattle.source_types.specs.declared.netlists.Range.{Range}

-- as many numbers as said from one on, rising or falling
abbrev pub rising : ℕ → ℕ → List ℕ
rising n zero = []
rising n (suc count) = n ∷ rising (n + 1) count

abbrev pub falling : ℕ → ℕ → List ℕ
falling n zero = []
falling n (suc count) = n ∷ falling (n - 1) count

-- the numbers from one to another
abbrev pub from_to : ℕ → ℕ → List ℕ
from_to left right = if nat_le left right then rising left ((right - left) + 1) else falling left ((left - right) + 1)

-- the number of bits from one number to another
abbrev pub span : ℕ → ℕ → ℕ
span left right = if nat_le left right then (right - left) + 1 else (left - right) + 1

abbrev pub width : Option Range → ℕ
width None = 1
width (Some range) = span range.left range.right

-- the indices of the bits of a net from the leftmost on; a scalar has one bit without an index
abbrev pub indices : Option Range → List (Option ℕ)
indices None = None ∷ []
indices (Some range) = map (λ i. Some i) (from_to range.left range.right)
