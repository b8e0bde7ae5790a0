-- What modes say of merged clocks, as tests on what is kept of each mode: where its clocks stand, and its exclusive
-- pairs. The pairs of merged clocks stand in rows, one for each first clock.
use Rattle.std.specs.Prelude.{◌≡◌, ◌+◌, ◌-◌, ◌<◌, ◌++◌, ◌↔◌, ◌==◌, ◌&&◌, ◌||◌, ℕ, zero, suc, Bool, false, not, List, [], ◌∷◌, length, min, max, Option, Some, None, slice_get, slice_index_or, IsTrue, if◌then◌else◌}
use Rattle.std.specs.List.{All, Contains, list_any}
use Rattle.timing_types.specs.declared.clocks.Pair.{Pair}
use Rattle.timing_types.specs.declared.views.View.{View}
use Rattle.clock_map.specs.declared.timings.Timing.{Timing}

abbrev pub same_pair : ℕ × ℕ → ℕ × ℕ → Bool
same_pair x y = x.0 == y.0 && x.1 == y.1

-- ---- what is kept of a mode

-- the clock of the mode that each of so many merged clocks is
abbrev pub ArePlaces : ℕ → List ℕ → List (Option ℕ) → Type 0
ArePlaces count numbers places =
    (length places ≡ count)
    × ((k place : ℕ) → k < count → (slice_index_or places k None ≡ Some place) ↔ (slice_get numbers place ≡ Some k))

-- the pairs of a mode
abbrev pub HoldsPairs : List Pair → List (ℕ × ℕ) → Type 0
HoldsPairs pairs keys = (a b : ℕ) → IsTrue (list_any (same_pair (a, b)) keys) ↔ Contains pairs (record { first = a; second = b })

pub record IsTiming (count : ℕ) (view : View) (numbers : List ℕ) (timing : Timing) : Type 0 where
  pub kept : timing.numbers ≡ numbers
  pub places : ArePlaces count numbers timing.places.items
  pub pairs : HoldsPairs view.mode.exclusive timing.exclusive.keys

abbrev pub AreTimings : ℕ → List View → List (List ℕ) → List Timing → Type 0
AreTimings count [] maps timings = timings ≡ []
AreTimings count (view ∷ views) [] timings = timings ≡ []
AreTimings count (view ∷ views) (numbers ∷ maps) [] = ⊥
AreTimings count (view ∷ views) (numbers ∷ maps) (timing ∷ timings) =
    IsTiming count view numbers timing × AreTimings count views maps timings

-- ---- tests

-- clocks at these places of a mode are timed
abbrev pub lets_at : List (ℕ × ℕ) → Option ℕ → Option ℕ → Bool
lets_at keys None second = false
lets_at keys (Some first) None = false
lets_at keys (Some first) (Some second) = not (list_any (same_pair (min first second, max first second)) keys)

abbrev pub lets_time : ℕ → ℕ → Timing → Bool
lets_time a b timing = lets_at timing.exclusive.keys (slice_index_or timing.places.items a None) (slice_index_or timing.places.items b None)

-- what is kept of a mode, and of each mode, is of so many merged clocks
abbrev pub FitsClocks : ℕ → Timing → Type 0
FitsClocks count timing = ArePlaces count timing.numbers timing.places.items

abbrev pub AllFit : ℕ → List Timing → Type 0
AllFit count timings = All (FitsClocks count) timings

-- ---- flags

-- so many flags, of which each after a merged clock says what a test says
abbrev pub AreFlags : ℕ → ℕ → (ℕ → Bool) → List Bool → Type 0
AreFlags count first says flags =
    (length flags ≡ count) × ((k : ℕ) → first < k → k < count → slice_index_or flags k false ≡ says k)

-- of the flags after a merged clock those that a test names are set, and the others stay
abbrev pub Marks : ℕ → (ℕ → Bool) → List Bool → List Bool → Type 0
Marks first says before after =
    (length after ≡ length before)
    × ((k : ℕ) → first < k → k < length before → slice_index_or after k false ≡ (slice_index_or before k false || says k))

-- ---- rows of pairs

-- the pair, where no mode times it
abbrev pub pair_unless : Bool → ℕ → ℕ → List Pair
pair_unless timed a b = if timed then [] else record { first = a; second = b } ∷ []

-- the pairs of a merged clock with so many from one on
abbrev pub row_from : List Timing → ℕ → ℕ → ℕ → List Pair
row_from timings a b zero = []
row_from timings a b (suc n) = pair_unless (list_any (lets_time a b) timings) a b ++ row_from timings a (suc b) n

-- the same by flags that say which are timed
abbrev pub others_from : List Bool → ℕ → ℕ → ℕ → List Pair
others_from timed a b zero = []
others_from timed a b (suc n) = pair_unless (slice_index_or timed b false) a b ++ others_from timed a (suc b) n

-- those with the merged clocks after it
abbrev pub row : List Timing → ℕ → ℕ → List Pair
row timings count a = row_from timings a (a + 1) (count - (a + 1))

-- the rows of so many merged clocks from one on
abbrev pub rows_from : List Timing → ℕ → ℕ → ℕ → List Pair
rows_from timings count a zero = []
rows_from timings count a (suc n) = row timings count a ++ rows_from timings count (suc a) n
