-- The file that a design and a mode are printed as (commands of SDC 2.1): its lines, each by its words, and its bytes.
-- The choice of the commands, their options and their order is this project's own.
-- It reads: the header, then a line for each clock, then one for each clock with later clocks that are exclusive to it.
-- Sources, generated clocks, settings and all other parts are not printed yet: `IsPrintable` says which modes are
-- printed whole. A file gives such a mode back where the unit is 1 ns and its clocks are not too many for a file.
use Rattle.std.specs.Prelude.{◌≡◌, ◌==◌, ℕ, suc, ℤ, unsigned_abs, false, IsTrue, List, [], ◌∷◌, ◌++◌, length, map, codes, Option, Some, None, slice_get, if◌then◌else◌}
use Rattle.std.specs.List.{filter}
use Rattle.sdc_base.specs.Time.{IsUnit, time_text_of}
use Rattle.timing_types.specs.declared.clocks.Clock.{Clock}
use Rattle.timing_types.specs.declared.clocks.Form.{Form}
use Rattle.timing_types.specs.declared.clocks.Form.TheVariants.{Primary, Generated}
use Rattle.timing_types.specs.declared.clocks.Pair.{Pair}
use Rattle.timing_types.specs.declared.clocks.Wave.{Wave}
use Rattle.timing_types.specs.declared.designs.Design.{Design}
use Rattle.timing_types.specs.declared.modes.Mode.{Mode}
use Rattle.mode_model.specs.ClockFile.{is_name, is_taken, virtual_clock}
use Rattle.constraint_model.specs.ModeLines.{without_line, IsOfClocks}
use Rattle.mode_model.specs.PrintedLine.{PrintedWord, bare, lines_text, name_word, list_word, query_word}
use Rattle.constraint_model.specs.ExclusivePairs.{ArePairs}
use Rattle.constraint_model.specs.ClockWaves.{IsPrintableWave}

-- the time unit of a library as Liberty and SDC name it
unfoldable pub unit_text : ℤ → List ℕ
unit_text unit =
    let u = unsigned_abs unit in
    if u == 1000 then codes "1ps"
    else if u == 10000 then codes "10ps"
    else if u == 100000 then codes "100ps"
    else codes "1ns"

-- the version of SDC and the time unit
unfoldable pub header_lines : ℤ → List (List PrintedWord)
header_lines unit =
    (bare (codes "set") ∷ bare (codes "sdc_version") ∷ bare (codes "2.1") ∷ [])
    ∷ (bare (codes "set_units") ∷ bare (codes "-time") ∷ bare (unit_text unit) ∷ []) ∷ []

-- a time as its number of units
abbrev pub time_word : ℤ → ℤ → PrintedWord
time_word unit fs = bare (time_text_of fs unit)

-- the times of the rise and the fall of a waveform
abbrev pub wave_word : ℤ → Wave → PrintedWord
wave_word unit wave = list_word (time_text_of wave.rise unit ∷ time_text_of wave.fall unit ∷ [])

-- the line of a clock with a waveform of its own
unfoldable pub clock_line : ℤ → List ℕ → Wave → List PrintedWord
clock_line unit name wave =
    bare (codes "create_clock") ∷ bare (codes "-name") ∷ name_word name ∷ bare (codes "-period") ∷ time_word unit wave.period
    ∷ bare (codes "-waveform") ∷ wave_word unit wave ∷ []

-- the line of a clock by its form
abbrev pub lines_of_form : ℤ → List ℕ → Form → List (List PrintedWord)
lines_of_form unit name (Primary wave) = clock_line unit name wave ∷ []
lines_of_form unit name (Generated source master shape invert) = []

-- the lines of clocks in order
abbrev pub clock_lines : ℤ → List Clock → List (List PrintedWord)
clock_lines unit [] = []
clock_lines unit (clock ∷ clocks) = lines_of_form unit clock.name clock.form ++ clock_lines unit clocks

-- the name of a clock, and the names of clocks, by their places
abbrev pub name_of : Option Clock → List ℕ
name_of None = []
name_of (Some clock) = clock.name

abbrev pub names_at : List Clock → List ℕ → List (List ℕ)
names_at clocks places = map (λ place. name_of (slice_get clocks place)) places

-- the later clocks that are exclusive to the one at a place
abbrev pub exclusive_to : ℕ → List Pair → List ℕ
exclusive_to place pairs = map (λ pair. pair.second) (filter (λ pair. pair.first == place) pairs)

-- clocks as an option's value
abbrev pub clocks_word : List (List ℕ) → PrintedWord
clocks_word names = query_word (codes "get_clocks") names

-- the line that makes a clock and others exclusive
unfoldable pub group_line : List ℕ → List (List ℕ) → List PrintedWord
group_line name others =
    bare (codes "set_clock_groups") ∷ bare (codes "-asynchronous") ∷ bare (codes "-group") ∷ clocks_word (name ∷ [])
    ∷ bare (codes "-group") ∷ clocks_word others ∷ []

-- that line where there are others
abbrev pub lines_of_group : List ℕ → List (List ℕ) → List (List PrintedWord)
lines_of_group name [] = []
lines_of_group name (other ∷ others) = group_line name (other ∷ others) ∷ []

-- the lines of groups of the clocks from a place on, by all clocks and all exclusive pairs
abbrev pub group_lines : List Clock → List Pair → ℕ → List Clock → List (List PrintedWord)
group_lines all pairs place [] = []
group_lines all pairs place (clock ∷ clocks) =
    lines_of_group clock.name (names_at all (exclusive_to place pairs)) ++ group_lines all pairs (suc place) clocks

-- the lines of the file, and its bytes
abbrev pub printed_lines : Design → Mode → List (List PrintedWord)
printed_lines design mode =
    header_lines design.unit
    ++ (clock_lines design.unit mode.clocks ++ group_lines mode.clocks mode.exclusive 0 mode.clocks)

unfoldable pub printed_file : Design → Mode → List ℕ
printed_file design mode = lines_text (printed_lines design mode)

-- a virtual clock with such a waveform, and a name of letters, digits and `_`
abbrev pub IsPrintableClock : Clock → Type 0
IsPrintableClock clock =
    (wave : Wave) × (clock ≡ virtual_clock clock.line clock.name wave) × IsPrintableWave wave × IsTrue (is_name clock.name)

-- such clocks, each of a name that none before it has
abbrev pub ArePrintableClocks : List Clock → List Clock → Type 0
ArePrintableClocks before [] = Unit {0}
ArePrintableClocks before (clock ∷ clocks) =
    IsPrintableClock clock × (is_taken clock.name before ≡ false) × ArePrintableClocks (before ++ clock ∷ []) clocks

-- modes of such clocks
abbrev pub ModesArePrintable : List Mode → Type 0
ModesArePrintable [] = Unit {0}
ModesArePrintable (mode ∷ modes) = ArePrintableClocks [] mode.clocks × ModesArePrintable modes

-- a mode that can be printed over a design: printable clocks, and exclusive pairs of them, and no other part
pub record IsPrintable (design : Design) (mode : Mode) : Type 0 where
  pub unit : IsUnit design.unit
  pub clocks : ArePrintableClocks [] mode.clocks
  pub pairs : ArePairs (length mode.clocks) mode.exclusive
  pub alone : IsOfClocks mode

-- a mode apart from the lines of the commands that made its clocks; other parts with lines are to join here when they
-- are printed
abbrev pub without_lines : Mode → Mode
without_lines mode = record mode { clocks = map without_line mode.clocks }
