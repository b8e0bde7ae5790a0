-- What the bytes of a mode file say: a mode, or their first fault with its line. They are a text that is run as a
-- script (Tcl) over the host of mode files, and the mode is that of what is left; bytes that are no text are a fault of
-- the line of the first byte that is none. This project's own.
use Rattle.std.specs.Prelude.{◌≡◌, ◌⊎◌, ℕ, List, Result, Ok, Err}
use Rattle.std.specs.Str.{IsUtf8}
use Rattle.sdc_base.specs.declared.memory.At.{At}
use Rattle.source_types.specs.declared.kinds.Kind.{Kind}
use Rattle.source_types.specs.declared.kinds.Kind.TheVariants.{NotText}
use Rattle.timing_types.specs.declared.modes.Mode.{Mode}
use Rattle.mode_model.specs.ClockFile.{SoFar, clock_mode, nothing}
use Rattle.text_model.specs.LastLine.{broken_text_line}
use Rattle.mode_model.specs.ModeHost.{mode_host}
use Rattle.tcl_model.specs.ScriptRun.{Runs}

-- a mode, or the first fault with its line
abbrev pub Said : Type 0
Said = Result Mode (At Kind)

-- what is said of a file that was run and left this
abbrev pub said_of : Result Unit (At Kind) → SoFar → Said
said_of (Ok done) so_far = Ok (clock_mode so_far)
said_of (Err fault) so_far = Err fault

-- what a text says
abbrev pub SaysText : List ℕ → Said → Type 0
SaysText text said =
    (told : Result Unit (At Kind)) × (so_far : SoFar) × Runs mode_host text nothing told so_far × (said ≡ said_of told so_far)

-- what bytes say
abbrev pub SaysMode : List ℕ → Said → Type 0
SaysMode bytes said =
    (IsUtf8 bytes × SaysText bytes said)
    ⊎ ((IsUtf8 bytes → ⊥) × (said ≡ Err (record { line = broken_text_line bytes; kind = NotText })))
