-- That the files of a command line have one outcome, and modes one text of edges and one merge. This project's own rule
-- of reading the contract of a run: an answer is given exactly where its cause stands, and what is written is the only
-- one.
use Rattle.std.specs.Prelude.{◌≡◌, ℕ, List, Some, Result, Ok}
use Rattle.sdc_base.specs.declared.outside.NamedBytes.{NamedBytes}
use Rattle.sdc_base.specs.Files.{Reading}
use Rattle.sdc_model.specs.declared.command_lines.CommandLine.{CommandLine}
use Rattle.sdc_model.specs.declared.command_lines.Output.{Output}
use Rattle.source_types.specs.declared.kinds.Fault.{Fault}
use Rattle.timing_types.specs.declared.merges.Merged.{Merged}
use Rattle.timing_types.specs.declared.modes.Mode.{Mode}
use Rattle.sdc_model.specs.Answers.{LineModes, OnModes}
use Rattle.sdc_model.specs.EdgesText.{AreReports}
use Rattle.merge_model.specs.MergedMode.{IsMergeOf}
use Rattle.mode_model.specs.PrintedFile.{ModesArePrintable}
use Rattle.sdc_cli.specs.Outputs.{IsOutputOf, IsTooLargeOf}

-- two outcomes of the files of a command line are one
abbrev pub HasOneOutcome : CommandLine → List NamedBytes → Type 0
HasOneOutcome line files =
    (r s : Result (List Mode) Fault) → LineModes line files r → LineModes line files s → r ≡ s

-- two reports of the same files and modes are one
abbrev pub HaveOneReport : List (List ℕ) → List Mode → Type 0
HaveOneReport files modes = (a b : List ℕ) → AreReports files modes a → AreReports files modes b → a ≡ b

-- two merges of the same modes are one
abbrev pub HaveOneMerge : List Mode → Type 0
HaveOneMerge modes = (a b : Merged) → IsMergeOf modes a → IsMergeOf modes b → a ≡ b

-- the modes that the files of a command line say can be printed, and so they have one merge
abbrev pub SayPrintableModes : CommandLine → List NamedBytes → Type 0
SayPrintableModes line files = (modes : List Mode) → LineModes line files (Ok modes) → ModesArePrintable modes

-- a command line has this output, or a merged text of so many bytes that it is too large
abbrev pub HasOutput : CommandLine → Reading → Output → Type 0
HasOutput line reading output = OnModes (λ l modes. IsOutputOf l modes output) (Some reading) (Some line)

abbrev pub IsTooLarge : CommandLine → Reading → ℕ → Type 0
IsTooLarge line reading bytes = OnModes (λ l modes. IsTooLargeOf l modes bytes) (Some reading) (Some line)

-- it has one output or one length that is too large, and never both
pub record HasOneAnswer (line : CommandLine) (reading : Reading) : Type 0 where
  pub outputs : (a b : Output) → HasOutput line reading a → HasOutput line reading b → a ≡ b
  pub lengths : (m n : ℕ) → IsTooLarge line reading m → IsTooLarge line reading n → m ≡ n
  pub apart : (output : Output) (bytes : ℕ) → HasOutput line reading output → IsTooLarge line reading bytes → ⊥
