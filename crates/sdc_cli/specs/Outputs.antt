-- What a run of each command line writes, of the modes that its files say. This project's own.
-- `edges` writes the reports of its files; `merge` writes the merged file and its report, or refuses a merged text that
-- is too long.
use Rattle.std.specs.Prelude.{◌≡◌, ℕ, List, [], Some, Result, Ok, Err}
use Rattle.sdc_base.specs.Files.{Reading}
use Rattle.sdc_model.specs.declared.answers.Status.{Status}
use Rattle.sdc_model.specs.declared.answers.Status.TheVariants as status
use Rattle.sdc_model.specs.declared.command_lines.CommandLine.{CommandLine}
use Rattle.sdc_model.specs.declared.command_lines.CommandLine.TheVariants.{Edges, Merge}
use Rattle.sdc_model.specs.declared.command_lines.Output.{Output}
use Rattle.timing_types.specs.declared.modes.Mode.{Mode}
use Rattle.sdc_model.specs.Answers.{LineModes, TooLargeFits}
use Rattle.sdc_cli.specs.Steps.{ReadsModes, StopsReading}
use Rattle.sdc_model.specs.EdgesText.{AreReports}
use Rattle.sdc_cli.specs.MergeOutput.{IsMergeOutput, IsMergeTooLarge}

-- what a run writes
abbrev pub IsOutputOf : CommandLine → List Mode → Output → Type 0
IsOutputOf (Edges files) modes output = AreReports files modes output.report × (output.merged ≡ [])
IsOutputOf (Merge out files) modes output = IsMergeOutput files modes output

-- the merged text has so many bytes, which are too many
abbrev pub IsTooLargeOf : CommandLine → List Mode → ℕ → Type 0
IsTooLargeOf (Edges files) modes bytes = ⊥
IsTooLargeOf (Merge out files) modes bytes = IsMergeTooLarge modes bytes

-- what computing the output of a merge of these modes answers
abbrev pub ComputesMerge : List (List ℕ) → List Mode → Result Output Status → Type 0
ComputesMerge files modes (Ok output) = IsMergeOutput files modes output
ComputesMerge files modes (Err (status.TooLarge bytes)) = IsMergeTooLarge modes bytes
ComputesMerge files modes (Err status.NoMemory) = Unit {0}
ComputesMerge files modes (Err _) = ⊥

-- what computing the output of these modes answers
abbrev pub Computes : CommandLine → List Mode → Result Output Status → Type 0
Computes line modes (Ok output) = IsOutputOf line modes output
Computes line modes (Err (status.TooLarge bytes)) = IsTooLargeOf line modes bytes
Computes line modes (Err status.NoMemory) = Unit {0}
Computes line modes (Err _) = ⊥

-- what computing the output of a command line answers and leaves in the inputs
abbrev pub ComputesLine : CommandLine → Result Output Status → Reading → Reading → Type 0
ComputesLine line (Ok output) before after =
    (after.files ≡ before.files) × ((modes : List Mode) × LineModes line before.files (Ok modes) × IsOutputOf line modes output)
ComputesLine line (Err (status.TooLarge bytes)) before after =
    (after.files ≡ before.files) × ((modes : List Mode) × LineModes line before.files (Ok modes) × IsTooLargeOf line modes bytes)
ComputesLine line (Err answer) before after = ReadsModes line (Err answer) before after

-- computing stops for one of these
abbrev pub StopsComputing : CommandLine → ℕ → ℕ → Status → Type 0
StopsComputing line before after (status.TooLarge bytes) = TooLargeFits (Some line) (status.TooLarge bytes)
StopsComputing line before after answer = StopsReading line before after answer
