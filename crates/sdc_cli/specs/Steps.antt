-- What the steps of a run answer and leave, one after the other. Small words for this crate's private functions: what
-- the whole run answers and leaves is said by `Answers` of sdc_model.
use Rattle.std.specs.Prelude.{◌≡◌, ◌⊎◌, ℕ, List, Option, Some, Result, Ok, Err}
use Rattle.sdc_base.specs.declared.outside.Refusal.{Refusal}
use Rattle.sdc_base.specs.Channels.{Written}
use Rattle.sdc_base.specs.Counting.{Rose}
use Rattle.sdc_base.specs.Files.{Reading, bytes_of}
use Rattle.sdc_model.specs.declared.answers.Status.{Status}
use Rattle.sdc_model.specs.declared.answers.Status.TheVariants as status
use Rattle.sdc_model.specs.declared.command_lines.CommandLine.{CommandLine}
use Rattle.sdc_model.specs.declared.command_lines.Output.{Output}
use Rattle.timing_types.specs.declared.modes.Mode.{Mode}
use Rattle.sdc_model.specs.Answers.{FailsReading, IsPlaceOf, LineModes, WritesFront, WritesWhole, files_of, first_place, most_clocks}
use Rattle.sdc_model.specs.ModeFiles.{SaysFile}

-- What reading the file of a name at a place of the words answers, after so many clocks: its mode, or a fault of it.
-- The files stay, and the file is begun, or else, where its read failed, what was begun before.
abbrev pub ReadsMode : ℕ → ℕ → ℕ → List ℕ → Result Mode Status → Reading → Reading → Type 0
ReadsMode most count place name (Ok mode) before after =
    (after.files ≡ before.files) × (after.begun ≡ Some name) × SaysFile most count (bytes_of before.files name) (Ok mode)
ReadsMode most count place name (Err (status.Source fault)) before after =
    (after.files ≡ before.files) × (fault.file ≡ place)
    × SaysFile most count (bytes_of before.files name) (Err (record { line = fault.line; kind = fault.kind }))
ReadsMode most count place name (Err (status.ReadFault failed)) before after =
    (after.files ≡ before.files) × (failed ≡ place) × ((after.begun ≡ Some name) ⊎ (after.begun ≡ before.begun))
ReadsMode most count place name (Err _) before after = after.files ≡ before.files

-- What reading the mode files of a command line answers: their modes, or the first fault. The files stay.
abbrev pub ReadsModes : CommandLine → Result (List Mode) Status → Reading → Reading → Type 0
ReadsModes line (Ok modes) before after = (after.files ≡ before.files) × LineModes line before.files (Ok modes)
ReadsModes line (Err (status.Source fault)) before after = (after.files ≡ before.files) × LineModes line before.files (Err fault)
ReadsModes line (Err (status.ReadFault place)) before after =
    (after.files ≡ before.files)
    × FailsReading (most_clocks line) before.files (first_place line) 0 before.begun (files_of line) place after.begun
ReadsModes line (Err _) before after = after.files ≡ before.files

-- a read stops a run for a fault of a source, for a fault of the inputs, whose count rose, or for want of memory
abbrev pub StopsReading : CommandLine → ℕ → ℕ → Status → Type 0
StopsReading line before after (status.Source fault) = IsPlaceOf line fault.file
StopsReading line before after (status.ReadFault place) = Rose before after × IsPlaceOf line place
StopsReading line before after status.NoMemory = Unit {0}
StopsReading line before after _ = ⊥

-- the read of the file at a place of the words stops a run for one of these
abbrev pub StopsAt : ℕ → ℕ → ℕ → Status → Type 0
StopsAt place before after (status.Source fault) = fault.file ≡ place
StopsAt place before after (status.ReadFault failed) = Rose before after × (failed ≡ place)
StopsAt place before after status.NoMemory = Unit {0}
StopsAt place before after _ = ⊥

-- what writing an output answers and leaves, by the file that is made
abbrev pub WritesOutput : Option (List ℕ) → Output → Status → Written → Written → Type 0
WritesOutput made output status.Done before after = WritesWhole made output before after
WritesOutput made output status.WriteFault before after = (after ≡ before) ⊎ WritesFront made output before after
WritesOutput made output status.NoMemory before after = (after ≡ before) ⊎ WritesFront made output before after
WritesOutput made output _ before after = ⊥

-- the count of faults stayed where the work is done
abbrev pub QuietWhenDone : ℕ → ℕ → Status → Type 0
QuietWhenDone before after status.Done = after ≡ before
QuietWhenDone before after status.Findings = after ≡ before
QuietWhenDone before after _ = Unit {0}

-- what making the merged file and writing it and the report answers and leaves
abbrev pub WritesBoth : List ℕ → Output → Result Unit Refusal → Written → Written → Type 0
WritesBoth name output (Ok _) before after = WritesWhole (Some name) output before after
WritesBoth name output (Err _) before after = (after ≡ before) ⊎ WritesFront (Some name) output before after

-- writing ends with one of these
abbrev pub EndsWriting : Status → Type 0
EndsWriting status.Done = Unit {0}
EndsWriting status.WriteFault = Unit {0}
EndsWriting status.NoMemory = Unit {0}
EndsWriting _ = ⊥
