-- What a merge over the empty design writes: the printed merged mode, which reads back as it, and its report. This
-- project's own.
-- A merged text of more bytes than a file may have is refused with their number.
use Rattle.std.specs.Prelude.{◌≡◌, ◌<◌, ◌≤◌, ℕ, List, length, Ok}
use Rattle.flat_design.specs.EmptyDesign.{empty_design}
use Rattle.sdc_base.specs.declared.whole.TheConstants.{MOST_BYTES}
use Rattle.sdc_model.specs.declared.command_lines.Output.{Output}
use Rattle.timing_types.specs.declared.merges.Merged.{Merged}
use Rattle.timing_types.specs.declared.modes.Mode.{Mode}
use Rattle.mode_model.specs.ModeMeaning.{SaysMode}
use Rattle.merge_model.specs.MergedMode.{IsMergeOf}
use Rattle.mode_model.specs.PrintedFile.{printed_file, without_lines}
use Rattle.sdc_cli.specs.declared.reports.Report.TheVariants.{Merge}
use Rattle.sdc_cli.specs.MergeRows.{report_of}
use Rattle.sdc_cli.specs.ReportTree.{report_bytes}

-- the text of a merged mode over the design without a pin
abbrev pub merged_text : Merged → List ℕ
merged_text merged = printed_file empty_design merged.mode

-- a text, read as a mode file, says a mode, apart from lines
abbrev pub SaysAgain : Mode → List ℕ → Type 0
SaysAgain mode text = (said : Mode) × SaysMode text (Ok said) × (without_lines said ≡ without_lines mode)

pub record IsMergeOutput (files : List (List ℕ)) (modes : List Mode) (output : Output) : Type 0 where
  pub merged : Merged
  pub is_merge : IsMergeOf modes merged
  pub short : length (merged_text merged) ≤ MOST_BYTES
  pub text : output.merged ≡ merged_text merged
  pub reads_back : SaysAgain merged.mode output.merged
  pub report : output.report ≡ report_bytes (Merge (report_of files modes merged.clocks))

-- the text of a merge of modes has so many bytes
abbrev pub IsMergedLength : List Mode → ℕ → Type 0
IsMergedLength modes bytes = (merged : Merged) × IsMergeOf modes merged × (length (merged_text merged) ≡ bytes)

pub record IsMergeTooLarge (modes : List Mode) (bytes : ℕ) : Type 0 where
  pub merged : Merged
  pub is_merge : IsMergeOf modes merged
  pub count : length (merged_text merged) ≡ bytes
  pub long : MOST_BYTES < bytes
