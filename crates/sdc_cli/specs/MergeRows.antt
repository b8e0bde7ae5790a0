-- What the report of a merge of clocks says: each merged clock by its name, with the clocks of the modes that it is,
-- in the order of the modes. This project's own. The two other lists are empty: no path is timed, no command is left.
use Rattle.std.specs.Prelude.{◌≡◌, ◌==◌, ℕ, suc, List, [], ◌∷◌, ◌++◌, length, if◌then◌else◌}
use Rattle.timing_types.specs.declared.clocks.Clock.{Clock}
use Rattle.timing_types.specs.declared.modes.Mode.{Mode}
use Rattle.timing_types.specs.declared.views.ClockMap.{ClockMap}
use Rattle.sdc_cli.specs.declared.reports.ClockRow.{ClockRow}
use Rattle.sdc_cli.specs.declared.reports.MergeReport.{MergeReport}
use Rattle.sdc_cli.specs.declared.reports.ModeClock.{ModeClock}

-- each clock of a mode has the number of a merged clock
abbrev pub IsNumbered : Mode → List ℕ → Type 0
IsNumbered mode numbers = length numbers ≡ length mode.clocks

-- a clock of a file with this number, where that is the merged clock's
abbrev pub row_if_numbered : ℕ → List ℕ → Clock → ℕ → List ModeClock
row_if_numbered merged file clock number = if number == merged then record { file = file; name = clock.name } ∷ [] else []

-- the clocks of one file that are a merged clock
abbrev pub file_clocks : ℕ → List ℕ → List Clock → List ℕ → List ModeClock
file_clocks merged file [] numbers = []
file_clocks merged file (clock ∷ clocks) [] = []
file_clocks merged file (clock ∷ clocks) (number ∷ numbers) =
    row_if_numbered merged file clock number ++ file_clocks merged file clocks numbers

-- those of all files
abbrev pub mode_clocks : ℕ → List (List ℕ) → List Mode → List (List ℕ) → List ModeClock
mode_clocks merged (file ∷ files) (mode ∷ modes) (numbers ∷ maps) =
    file_clocks merged file mode.clocks numbers ++ mode_clocks merged files modes maps
mode_clocks merged _ _ _ = []

-- the merged clocks, the first of them with a number
abbrev pub clock_rows : ℕ → List (List ℕ) → List Mode → List (List ℕ) → List Clock → List ClockRow
clock_rows merged files modes maps [] = []
clock_rows merged files modes maps (clock ∷ clocks) =
    record { name = clock.name; modes = mode_clocks merged files modes maps } ∷ clock_rows (suc merged) files modes maps clocks

abbrev pub report_of : List (List ℕ) → List Mode → ClockMap → MergeReport
report_of files modes merged =
    record { clocks = clock_rows 0 files modes merged.maps merged.clocks; listed = []; not_carried = [] }
