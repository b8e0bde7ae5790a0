-- Which of the exceptions that match a path holds on a side. The whole rule of precedence is this project's own.
-- It reads: false paths stand before delays and delays before multicycles; then those with the greater flags, by what
-- is given as ends and through lists; then the one with the strictest relation; then the first in the list. One that
-- stands before every other one holds. Which exceptions match is given as a predicate over their places.
use Rattle.std.specs.Prelude.{◌≡◌, ◌≢◌, ◌+◌, ◌*◌, ◌<◌, ◌⊎◌, ℕ, ℤ, pos, neg_ℤ, ◌*ℤ◌, ◌-ℤ◌, ◌<ℤ◌, Bool, List, [], ◌∷◌, Option, Some, None, slice_get, if◌then◌else◌}
use Rattle.timing_types.specs.declared.constraints.ExCommand.{ExCommand}
use Rattle.timing_types.specs.declared.constraints.ExCommand.TheVariants.{FalsePath, Delay, Multicycle}
use Rattle.timing_types.specs.declared.constraints.Exception.{Exception}
use Rattle.timing_types.specs.declared.constraints.Points.{Points}
use Rattle.timing_types.specs.declared.constraints.Points.TheVariants as points
use Rattle.timing_types.specs.declared.constraints.Through.{Through}
use Rattle.timing_types.specs.declared.paths.Periods.{Periods}
use Rattle.pin_types.specs.declared.pins.Side.{Side}
use Rattle.pin_types.specs.declared.pins.Side.TheVariants.{Setup, Hold}

-- ---- strict

-- a time is stricter than another: less for setup, greater for hold
abbrev pub IsStricter : Side → ℤ → ℤ → Type 0
IsStricter Setup time other = time <ℤ other
IsStricter Hold time other = other <ℤ time

abbrev pub IsAsStrict : Side → ℤ → ℤ → Type 0
IsAsStrict side time other = IsStricter side time other ⊎ (time ≡ other)

-- ---- what is compared

abbrev pub command_rank : ExCommand → ℕ
command_rank FalsePath = 2
command_rank Delay = 1
command_rank Multicycle = 0

abbrev pub pins_flag : Option Points → ℕ
pins_flag (Some (points.Pins edge pins)) = 1
pins_flag _ = 0

abbrev pub clocks_flag : Option Points → ℕ
clocks_flag (Some (points.Clocks edge clocks)) = 1
clocks_flag _ = 0

abbrev pub through_flag : List Through → ℕ
through_flag [] = 0
through_flag (list ∷ lists) = 1

-- the five flags, the weightiest first: from pins, to pins, through, from clocks, to clocks
abbrev pub flags : Exception → ℕ
flags exception =
    16 * pins_flag exception.from + 8 * pins_flag exception.to + 4 * through_flag exception.through
    + 2 * clocks_flag exception.from + clocks_flag exception.to

-- the period that a multicycle counts
abbrev pub counted_period : Periods → Bool → ℤ
counted_period periods by_launch = if by_launch then periods.launch else periods.capture

-- how far a multicycle moves the relation of its side: setup later by all periods but one, hold earlier by each
abbrev pub multicycle_move : Periods → Side → ℤ → Bool → ℤ
multicycle_move periods Setup value by_launch = (value -ℤ pos 1) *ℤ counted_period periods by_launch
multicycle_move periods Hold value by_launch = neg_ℤ (value *ℤ counted_period periods by_launch)

-- the relation that an exception leads to: the value of a delay, the move of a multicycle, from where the others stand
abbrev pub resulting : Periods → Exception → ExCommand → ℤ
resulting periods exception FalsePath = pos 0
resulting periods exception Delay = exception.value
resulting periods exception Multicycle = multicycle_move periods exception.side exception.value exception.by_launch

abbrev pub resulting_of : Periods → Exception → ℤ
resulting_of periods exception = resulting periods exception exception.command

-- ---- precedence

-- one exception stands before another, each with its place: by command, flags, resulting relation, place
abbrev pub StandsBefore : Side → Periods → Exception → ℕ → Exception → ℕ → Type 0
StandsBefore side periods exception place other at =
    (command_rank other.command < command_rank exception.command)
    ⊎ ((exception.command ≡ other.command) × ((flags other < flags exception)
    ⊎ ((flags exception ≡ flags other) × (IsStricter side (resulting_of periods exception) (resulting_of periods other)
    ⊎ ((resulting_of periods exception ≡ resulting_of periods other) × (place < at))))))

-- the exception at a place matches, and stands before every other one that does
pub record IsWinner (exceptions : List Exception) (Match : ℕ → Type 0) (side : Side) (periods : Periods) (place : ℕ) : Type 0 where
  pub exception : Exception
  pub is : slice_get exceptions place ≡ Some exception
  pub matches : Match place
  pub best : (at : ℕ) (other : Exception) → slice_get exceptions at ≡ Some other → Match at → at ≢ place
      → StandsBefore side periods exception place other at

-- the winner's place, or none where no exception matches
abbrev pub WinnerIs : List Exception → (ℕ → Type 0) → Side → Periods → Option ℕ → Type 0
WinnerIs exceptions Match side periods (Some place) = IsWinner exceptions Match side periods place
WinnerIs exceptions Match side periods None = (place : ℕ) (exception : Exception) → slice_get exceptions place ≡ Some exception → Match place → ⊥
