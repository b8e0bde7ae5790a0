-- What is true of every clock map: equal modes share their clocks, merged clocks come from modes, and names differ.
-- There is one clock map, and one list of exclusive pairs. It reads as laws of the definitions of both.
use Rattle.std.specs.Prelude.{◌≡◌, ◌<◌, ℕ, List, Some, slice_get}
use Rattle.std.specs.List.{Contains, concat}
use Rattle.timing_types.specs.declared.clocks.Clock.{Clock}
use Rattle.timing_types.specs.declared.clocks.Pair.{Pair}
use Rattle.timing_types.specs.declared.views.View.{View}
use Rattle.timing_types.specs.declared.views.ClockMap.{ClockMap}
use Rattle.merge_model.specs.ClockIdentity.{IsClockMap}
use Rattle.merge_model.specs.Exclusive.{AreExclusivePairs}
use Rattle.merge_model.specs.PlainViews.{HaveSameClocks}

-- modes with the same clocks share them all
abbrev pub SharesEqualModes : List View → ClockMap → Type 0
SharesEqualModes views map =
    (m n : ℕ) (first second : View) → slice_get views m ≡ Some first → slice_get views n ≡ Some second
    → HaveSameClocks first second → slice_get map.maps m ≡ slice_get map.maps n

-- each merged clock is some mode's clock
abbrev pub ComesFromModes : ClockMap → Type 0
ComesFromModes map = (k : ℕ) (clock : Clock) → slice_get map.clocks k ≡ Some clock → Contains (concat map.maps) k

-- no two merged clocks have one name
abbrev pub HasDistinctNames : ClockMap → Type 0
HasDistinctNames map =
    (k l : ℕ) (first second : Clock) → k < l → slice_get map.clocks k ≡ Some first → slice_get map.clocks l ≡ Some second
    → first.name ≡ second.name → ⊥

-- two clock maps of the same modes are one
abbrev pub HaveOneMap : List View → Type 0
HaveOneMap views = (a b : ClockMap) → IsClockMap views a → IsClockMap views b → a ≡ b

-- two lists of exclusive pairs of the same merged clocks are one
abbrev pub HaveOneListOfPairs : List View → List (List ℕ) → ℕ → Type 0
HaveOneListOfPairs views maps count =
    (a b : List Pair) → AreExclusivePairs views maps count a → AreExclusivePairs views maps count b → a ≡ b
