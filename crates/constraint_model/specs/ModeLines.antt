-- Modes apart from lines: what two files say alike, on whatever lines they say it. This project's own rule.
-- It reads: every line is 0, and there are no notes.
use Rattle.std.specs.Prelude.{◌≡◌, [], map}
use Rattle.timing_types.specs.declared.constraints.CaseSet.{CaseSet}
use Rattle.timing_types.specs.declared.constraints.Disable.{Disable}
use Rattle.timing_types.specs.declared.modes.Mode.{Mode}
use Rattle.timing_types.specs.declared.objects.Kept.{Kept}
use Rattle.timing_types.specs.declared.clocks.Clock.{Clock}
use Rattle.timing_types.specs.declared.constraints.Exception.{Exception}
use Rattle.timing_types.specs.declared.constraints.Disable.TheVariants as disable

-- a clock apart from its line
abbrev pub without_line : Clock → Clock
without_line clock = record clock { line = 0 }

-- an exception apart from its line
abbrev pub exception_without_line : Exception → Exception
exception_without_line exception = record exception { line = 0 }

-- a mode of clocks and exclusive pairs alone
abbrev pub IsOfClocks : Mode → Type 0
IsOfClocks mode =
    mode ≡ record {
      clocks = mode.clocks;
      exclusive = mode.exclusive;
      cases = [];
      disabled = [];
      delays = [];
      exceptions = [];
      kept = [];
      notes = [];
    }

abbrev pub case_without_line : CaseSet → CaseSet
case_without_line set = record set { line = 0 }

abbrev pub disable_without_line : Disable → Disable
disable_without_line (disable.Pin line pin) = disable.Pin 0 pin
disable_without_line (disable.Between line from to) = disable.Between 0 from to

abbrev pub kept_without_line : Kept → Kept
kept_without_line kept = record kept { line = 0 }

abbrev pub mode_without_lines : Mode → Mode
mode_without_lines mode = record mode {
  clocks = map without_line mode.clocks;
  cases = map case_without_line mode.cases;
  disabled = map disable_without_line mode.disabled;
  exceptions = map exception_without_line mode.exceptions;
  kept = map kept_without_line mode.kept;
  notes = [];
}

abbrev pub AreEqualApartFromLines : Mode → Mode → Type 0
AreEqualApartFromLines mode other = mode_without_lines mode ≡ mode_without_lines other
