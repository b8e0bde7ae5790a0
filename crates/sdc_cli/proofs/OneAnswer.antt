-- A command line has one output, or is too large by one length, and never both.
use Rattle.std.proofs.Common.{◌≡◌, ◌∙◌, ◌<◌, ◌≤◌, ℕ, List, [], ◌∷◌, Result, Ok, Err, inl, inr, length, sym, ap, subst, arith}
use Rattle.std.specs.Prelude.{◌+◌, suc, IfOk}
use Rattle.sdc_base.specs.declared.outside.NamedBytes.{NamedBytes}
use Rattle.sdc_base.specs.declared.whole.TheConstants.{MOST_BYTES}
use Rattle.sdc_base.specs.Files.{Reading, bytes_of}
use Rattle.sdc_model.specs.declared.command_lines.CommandLine.{CommandLine}
use Rattle.sdc_model.specs.declared.command_lines.CommandLine.TheVariants.{Edges, Merge}
use Rattle.sdc_model.specs.declared.command_lines.Output.{Output}
use Rattle.source_types.specs.declared.kinds.Fault.{Fault}
use Rattle.timing_types.specs.declared.merges.Merged.{Merged}
use Rattle.timing_types.specs.declared.modes.Mode.{Mode}
use Rattle.sdc_model.specs.Answers.{LineModes, files_of, first_place, most_clocks}
use Rattle.sdc_model.specs.EdgesText.{AreReports}
use Rattle.sdc_model.specs.ModeFiles.{Continues, SayModes, SaysFile, with_first}
use Rattle.mode_model.specs.ModeMeaning.{Said}
use Rattle.mode_model.specs.PrintedFile.{ModesArePrintable}
use Rattle.sdc_cli.specs.declared.reports.Report.TheVariants as report
use Rattle.sdc_cli.specs.Laws.{HasOneAnswer, SayPrintableModes}
use Rattle.sdc_cli.specs.MergeOutput.{IsMergeOutput, merged_text}
use Rattle.sdc_cli.specs.MergeRows.{report_of}
use Rattle.sdc_cli.specs.Outputs.{IsOutputOf, IsTooLargeOf}
use Rattle.sdc_cli.specs.ReportTree.{report_bytes}
use Rattle.sdc_cli.proofs.OneMerge.{merge_once}
use Rattle.sdc_cli.proofs.OneOutcome.{line_once}
use Rattle.sdc_cli.proofs.OneReport.{reports_once}
use Rattle.sdc_cli.proofs.SaidClocks.{IsPrintableMode, said_holds, within_keeps}

-- ---- what files say can be printed

file_is_printable : (most count : ℕ) (bytes : List ℕ) (file : Said) → SaysFile most count bytes file → IfOk file IsPrintableMode
file_is_printable most count bytes (Err fault) says = tt
file_is_printable most count bytes (Ok mode) (inl long) = absurd (cc)
file_is_printable most count bytes (Ok mode) (inr says) = within_keeps most count says.1.0 mode says.1.2 (said_holds bytes says.1.0 says.1.1)

first_printable : (mode : Mode) (others : Result (List Mode) Fault) → IsPrintableMode mode → IfOk others ModesArePrintable → IfOk (with_first mode others) ModesArePrintable
first_printable mode (Ok modes) here rest = (here, rest)
first_printable mode (Err fault) here rest = tt

goes_on_printable : (place : ℕ) (file : Said) (Others : Mode → Result (List Mode) Fault → Type 0)
    → IfOk file IsPrintableMode → ((mode : Mode) (others : Result (List Mode) Fault) → Others mode others → IfOk others ModesArePrintable)
    → (outcome : Result (List Mode) Fault) → Continues place file Others outcome → IfOk outcome ModesArePrintable
goes_on_printable place (Err fault) Others here rest outcome goes = subst (λ (o : Result (List Mode) Fault). IfOk o ModesArePrintable) (sym goes) tt
goes_on_printable place (Ok mode) Others here rest outcome goes =
    subst (λ (o : Result (List Mode) Fault). IfOk o ModesArePrintable) (sym goes.2) (first_printable mode goes.0 here (rest mode goes.0 goes.1))

say_printable : (most : ℕ) (files : List NamedBytes) (place count : ℕ) (names : List (List ℕ)) (outcome : Result (List Mode) Fault)
    → SayModes most files place count names outcome → IfOk outcome ModesArePrintable
say_printable most files place count [] outcome said = subst (λ (o : Result (List Mode) Fault). IfOk o ModesArePrintable) (sym said) tt
say_printable most files place count (name ∷ names) outcome said =
    let Others : Mode → Result (List Mode) Fault → Type 0 = λ mode. SayModes most files (suc place) (count + length mode.clocks) names in
    goes_on_printable place said.0 Others (file_is_printable most count (bytes_of files name) said.0 said.1)
    (λ mode. say_printable most files (suc place) (count + length mode.clocks) names) outcome said.2

pub printable_said : (line : CommandLine) (files : List NamedBytes) → SayPrintableModes line files
printable_said line files modes said = say_printable (most_clocks line) files (first_place line) 0 (files_of line) (Ok modes) said

-- ---- one merge, one output

merged_output_once : (files : List (List ℕ)) (modes : List Mode) (a b : Output) → ModesArePrintable modes → IsMergeOutput files modes a → IsMergeOutput files modes b → a ≡ b
merged_output_once files modes a b printable one other =
    let same : one.merged ≡ other.merged = merge_once modes printable one.merged other.merged one.is_merge other.is_merge in
    let merged : a.merged ≡ b.merged = one.text ∙ ap merged_text same ∙ sym other.text in
    let written : a.report ≡ b.report =
    one.report ∙ ap (λ (m : Merged). report_bytes (report.Merge (report_of files modes m.clocks))) same ∙ sym other.report in
    λ i. record { merged = merged i; report = written i }

edges_output_once : (files : List (List ℕ)) (modes : List Mode) (a b : Output)
    → AreReports files modes a.report × (a.merged ≡ []) → AreReports files modes b.report × (b.merged ≡ []) → a ≡ b
edges_output_once files modes a b one other =
    let merged : a.merged ≡ b.merged = one.1 ∙ sym other.1 in
    let written : a.report ≡ b.report = reports_once files modes a.report b.report one.0 other.0 in
    λ i. record { merged = merged i; report = written i }

output_once : (line : CommandLine) (modes : List Mode) (a b : Output) → ModesArePrintable modes → IsOutputOf line modes a → IsOutputOf line modes b → a ≡ b
output_once (Edges files) modes a b printable one other = edges_output_once files modes a b one other
output_once (Merge out files) modes a b printable one other = merged_output_once files modes a b printable one other

length_once : (line : CommandLine) (modes : List Mode) (m n : ℕ) → ModesArePrintable modes → IsTooLargeOf line modes m → IsTooLargeOf line modes n → m ≡ n
length_once (Edges files) modes m n printable one other = absurd one
length_once (Merge out files) modes m n printable one other =
    sym one.count ∙ ap (λ (x : Merged). length (merged_text x)) (merge_once modes printable one.merged other.merged one.is_merge other.is_merge) ∙ other.count

too_long : (a b n : ℕ) → a ≤ MOST_BYTES → a ≡ b → b ≡ n → MOST_BYTES < n → ⊥
too_long a b n short same count long = omega (arith, short, same, count, long)

never_both : (line : CommandLine) (modes : List Mode) (output : Output) (bytes : ℕ) → ModesArePrintable modes → IsOutputOf line modes output → IsTooLargeOf line modes bytes → ⊥
never_both (Edges files) modes output bytes printable one other = other
never_both (Merge out files) modes output bytes printable one other =
    too_long (length (merged_text one.merged)) (length (merged_text other.merged)) bytes one.short
    (ap (λ (x : Merged). length (merged_text x)) (merge_once modes printable one.merged other.merged one.is_merge other.is_merge)) other.count other.long

-- ---- one answer

modes_of_same : (modes others : List Mode) → ◌≡◌ {A = Result (List Mode) Fault} (Ok others) (Ok modes) → others ≡ modes
modes_of_same modes others e = cc

same_modes : (line : CommandLine) (files : List NamedBytes) (modes others : List Mode) → LineModes line files (Ok modes) → LineModes line files (Ok others) → others ≡ modes
same_modes line files modes others said said' = modes_of_same modes others (line_once line files (Ok others) (Ok modes) said' said)

pub answer_once : (line : CommandLine) (reading : Reading) → HasOneAnswer line reading
answer_once line reading = record {
  outputs = λ a b one other.
      let same = same_modes line reading.files one.0 other.0 one.1 other.1 in
      output_once line one.0 a b (printable_said line reading.files one.0 one.1) one.2 (subst (λ (ms : List Mode). IsOutputOf line ms b) same other.2);
  lengths = λ m n one other.
      let same = same_modes line reading.files one.0 other.0 one.1 other.1 in
      length_once line one.0 m n (printable_said line reading.files one.0 one.1) one.2 (subst (λ (ms : List Mode). IsTooLargeOf line ms n) same other.2);
  apart = λ output bytes one other.
      let same = same_modes line reading.files one.0 other.0 one.1 other.1 in
      never_both line one.0 output bytes (printable_said line reading.files one.0 one.1) one.2 (subst (λ (ms : List Mode). IsTooLargeOf line ms bytes) same other.2);
}
