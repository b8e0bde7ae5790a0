-- That a printed file says what was printed: this project's own law of printing.
use Rattle.std.specs.Prelude.{◌≡◌, ◌≤◌, length, pos, Ok}
use Rattle.timing_types.specs.declared.designs.Design.{Design}
use Rattle.timing_types.specs.declared.modes.Mode.{Mode}
use Rattle.mode_model.specs.ClockCommands.{most_file_clocks}
use Rattle.mode_model.specs.ModeMeaning.{SaysMode}
use Rattle.mode_model.specs.PrintedFile.{IsPrintable, printed_file, without_lines}

-- the file of a printable mode in nanoseconds, of no more clocks than a file may have, says this mode, apart from the
-- lines of its clocks
abbrev pub FileReadsBack : Design → Mode → Type 0
FileReadsBack design mode =
    IsPrintable design mode → design.unit ≡ pos 1000000 → length mode.clocks ≤ most_file_clocks →
    (said : Mode) × SaysMode (printed_file design mode) (Ok said) × (without_lines said ≡ without_lines mode)
