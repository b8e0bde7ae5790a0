-- What an answer of a run says of its words, of the files that were read and of what was written. This project's own.
-- Want of memory may stand anywhere; every other answer has its cause. Where an object tells nothing, its counts alone
-- speak.
use Rattle.std.specs.Prelude.{◌≡◌, ◌+◌, ◌≤◌, ◌<◌, ◌⊎◌, ◌++◌, ℕ, suc, List, [], ◌∷◌, length, Option, Some, None, Result, Ok, Err}
use Rattle.sdc_base.specs.declared.outside.NamedBytes.{NamedBytes}
use Rattle.sdc_base.specs.declared.outside.Channel.TheVariants.{Report}
use Rattle.sdc_base.specs.declared.whole.TheConstants.{MOST_BYTES}
use Rattle.sdc_base.specs.Counting.{Rose}
use Rattle.sdc_base.specs.Files.{Reading, bytes_of}
use Rattle.sdc_base.specs.Channels.{Written, appended, AppendsFront}
use Rattle.sdc_model.specs.declared.answers.Status.{Status}
use Rattle.sdc_model.specs.declared.answers.Status.TheVariants as status
use Rattle.sdc_model.specs.declared.command_lines.CommandLine.{CommandLine}
use Rattle.sdc_model.specs.declared.command_lines.CommandLine.TheVariants.{Edges, Merge}
use Rattle.sdc_model.specs.declared.command_lines.Output.{Output}
use Rattle.source_types.specs.declared.kinds.Fault.{Fault}
use Rattle.timing_types.specs.declared.modes.Mode.{Mode}
use Rattle.sdc_model.specs.ModeFiles.{SayModes, SaysFile}

-- the mode files of a command line: their names, and the place of the first of them among the words, which are counted
-- from 0 and without `--` and `--tags` with its number
abbrev pub files_of : CommandLine → List (List ℕ)
files_of (Edges files) = files
files_of (Merge out modes) = modes

abbrev pub first_place : CommandLine → ℕ
first_place (Edges files) = 1
first_place (Merge out modes) = 5

-- the place of one of them
abbrev pub IsPlaceOf : CommandLine → ℕ → Type 0
IsPlaceOf line place = (first_place line ≤ place) × (place + 1 ≤ first_place line + length (files_of line))

-- the most clocks of all of them together
abbrev pub most_clocks : CommandLine → ℕ
most_clocks (Edges files) = 1024
most_clocks (Merge out modes) = 16384

-- the file that a command line has made, where it has one made
abbrev pub made_file : CommandLine → Option (List ℕ)
made_file (Edges files) = None
made_file (Merge out modes) = Some out

-- what the mode files of a command line say: their modes, or the first fault
abbrev pub LineModes : CommandLine → List NamedBytes → Result (List Mode) Fault → Type 0
LineModes line files outcome = SayModes (most_clocks line) files (first_place line) 0 (files_of line) outcome

-- There is a command line, and where the files are told they say modes, and the fact holds of the line and these modes.
abbrev pub OnModes : (CommandLine → List Mode → Type 0) → Option Reading → Option CommandLine → Type 0
OnModes Fact contents None = ⊥
OnModes Fact None (Some line) = Unit {0}
OnModes Fact (Some reading) (Some line) = (modes : List Mode) × LineModes line reading.files (Ok modes) × Fact line modes

-- the first fault of the files of a command line: where they are not told, still one of a file of it
abbrev pub IsLineFault : Option Reading → Option CommandLine → Fault → Type 0
IsLineFault contents None fault = ⊥
IsLineFault None (Some line) fault = IsPlaceOf line fault.file
IsLineFault (Some reading) (Some line) fault = LineModes line reading.files (Err fault)

-- Usage exactly where the words are no command line
abbrev pub UsageFits : Option CommandLine → Status → Type 0
UsageFits None status.Usage = Unit {0}
UsageFits None status.NoMemory = Unit {0}
UsageFits None _ = ⊥
UsageFits (Some line) status.Usage = ⊥
UsageFits (Some line) _ = Unit {0}

-- Done and WriteFault only where there is an output; Source only for the first fault, TooLarge only for this length.
-- The command lines that stand list nothing and have no design: none answers Findings, Loop, Conflict or Budget.
abbrev pub CauseFits : (Output → Type 0) → (Fault → Type 0) → (ℕ → Type 0) → Status → Type 0
CauseFits IsOutput IsFault IsTooLarge status.Done = (output : Output) × IsOutput output
CauseFits IsOutput IsFault IsTooLarge status.WriteFault = (output : Output) × IsOutput output
CauseFits IsOutput IsFault IsTooLarge (status.Source fault) = IsFault fault
CauseFits IsOutput IsFault IsTooLarge (status.TooLarge bytes) = IsTooLarge bytes
CauseFits IsOutput IsFault IsTooLarge status.Findings = ⊥
CauseFits IsOutput IsFault IsTooLarge (status.Loop cycle) = ⊥
CauseFits IsOutput IsFault IsTooLarge (status.Conflict pin source passing) = ⊥
CauseFits IsOutput IsFault IsTooLarge (status.Budget classes) = ⊥
CauseFits IsOutput IsFault IsTooLarge _ = Unit {0}

-- TooLarge only where a file is made, and only with more bytes than one may have
abbrev pub TooLargeFits : Option CommandLine → Status → Type 0
TooLargeFits (Some (Merge out modes)) (status.TooLarge bytes) = MOST_BYTES < bytes
TooLargeFits _ (status.TooLarge bytes) = ⊥
TooLargeFits _ _ = Unit {0}

-- ReadFault only where the count of the inputs rose, with the place of a file
abbrev pub ReadFaultFits : Option CommandLine → ℕ → ℕ → Status → Type 0
ReadFaultFits None before after (status.ReadFault place) = ⊥
ReadFaultFits (Some line) before after (status.ReadFault place) = Rose before after × IsPlaceOf line place
ReadFaultFits line before after _ = Unit {0}

-- WriteFault only where the count of the outputs rose
abbrev pub WriteFaultFits : ℕ → ℕ → Status → Type 0
WriteFaultFits before after status.WriteFault = Rose before after
WriteFaultFits before after _ = Unit {0}

-- Done and Findings only where no count rose: no read and no write failed
abbrev pub QuietFits : ℕ → ℕ → ℕ → ℕ → Status → Type 0
QuietFits reading read writing written status.Done = (read ≡ reading) × (written ≡ writing)
QuietFits reading read writing written status.Findings = (read ≡ reading) × (written ≡ writing)
QuietFits reading read writing written _ = Unit {0}

-- The read of the file at the failed place failed: the files before it say modes, and it is begun, or else what was
-- begun before it. The first of the names has this place, so many clocks stand before it, and `begun` is what was
-- begun.
abbrev pub FailsReading : ℕ → List NamedBytes → ℕ → ℕ → Option (List ℕ) → List (List ℕ) → ℕ → Option (List ℕ) → Type 0
FailsReading most files place count begun [] failed after = ⊥
FailsReading most files place count begun (name ∷ names) failed after =
    ((failed ≡ place) × ((after ≡ Some name) ⊎ (after ≡ begun)))
    ⊎ ((mode : Mode) × SaysFile most count (bytes_of files name) (Ok mode)
    × FailsReading most files (suc place) (count + length mode.clocks) (Some name) names failed after)

-- a fact about what an object tells before and after a call, where it tells it; whether it does never changes
abbrev pub OnContents : {Contents : Type 0} → (Contents → Contents → Type 0) → Option Contents → Option Contents → Type 0
OnContents Fact None None = Unit {0}
OnContents Fact None (Some after) = ⊥
OnContents Fact (Some before) None = ⊥
OnContents Fact (Some before) (Some after) = Fact before after

-- what a run leaves in the inputs
abbrev pub LeavesReading : Option CommandLine → Status → Reading → Reading → Type 0
LeavesReading None answer before after = after ≡ before
LeavesReading (Some line) (status.ReadFault place) before after =
    (after.files ≡ before.files)
    × FailsReading (most_clocks line) before.files (first_place line) 0 before.begun (files_of line) place after.begun
LeavesReading (Some line) _ before after = after.files ≡ before.files

-- the whole output was written: to Merged, empty since its file was made, and after what Report had
abbrev pub WritesWhole : Option (List ℕ) → Output → Written → Written → Type 0
WritesWhole None output before after = after ≡ appended Report output.report before
WritesWhole (Some name) output before after =
    after ≡ record before { merged = output.merged; name = name; report = before.report ++ output.report }

-- a front of it was written, and not all of it, and no byte of the report before the merged file is whole
abbrev pub WritesFront : Option (List ℕ) → Output → Written → Written → Type 0
WritesFront None output before after = AppendsFront Report output.report before after
WritesFront (Some name) output before after =
    (merged : List ℕ) × (merged_rest : List ℕ) × (report : List ℕ) × (report_rest : List ℕ)
    × (output.merged ≡ merged ++ merged_rest) × (output.report ≡ report ++ report_rest) × ((merged_rest ≡ []) ⊎ (report ≡ [])) × ((0 < length merged_rest) ⊎ (0 < length report_rest))
    × (after ≡ record before { merged = merged; name = name; report = before.report ++ report })

-- what a run leaves in the outputs, by the file that it makes and its output
abbrev pub LeavesWritten : Option (List ℕ) → (Output → Type 0) → Status → Written → Written → Type 0
LeavesWritten made IsOutput status.Done before after = (output : Output) × IsOutput output × WritesWhole made output before after
LeavesWritten made IsOutput status.Findings before after = (output : Output) × IsOutput output × WritesWhole made output before after
LeavesWritten made IsOutput status.WriteFault before after =
    (output : Output) × IsOutput output × ((after ≡ before) ⊎ WritesFront made output before after)
LeavesWritten made IsOutput status.NoMemory before after =
    (after ≡ before) ⊎ ((output : Output) × IsOutput output × WritesFront made output before after)
LeavesWritten made IsOutput _ before after = after ≡ before

-- the file that a command line has made, where the words are one
abbrev pub made_by : Option CommandLine → Option (List ℕ)
made_by None = None
made_by (Some line) = made_file line
