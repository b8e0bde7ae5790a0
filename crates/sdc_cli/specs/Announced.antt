-- What writing the line of an answer leaves, and the answer that a run then ends with. This project's own rule.
-- The line is made whole and then written; a write that fails changes no answer, and want of memory makes it that.
use Rattle.std.specs.Prelude.{◌≡◌, ◌⊎◌, ◌++◌, ◌+◌, ◌<◌, ◌≤◌, ℕ, List, Option, Some, None, Result, Ok, Err}
use Rattle.sdc_base.specs.Channels.{AppendsFront, Written, appended}
use Rattle.sdc_base.specs.declared.outside.Channel.TheVariants.{Faults}
use Rattle.sdc_base.specs.declared.outside.Refusal.{Refusal}
use Rattle.sdc_base.specs.Counting.{last_count}
use Rattle.sdc_base.specs.Files.{Reading}
use Rattle.sdc_model.specs.declared.answers.Status.{Status}
use Rattle.sdc_model.specs.declared.answers.Status.TheVariants as status
use Rattle.sdc_model.specs.declared.command_lines.CommandLine.{CommandLine}
use Rattle.sdc_model.specs.Answers.{CauseFits, IsLineFault, OnModes, ReadFaultFits, TooLargeFits, UsageFits, WriteFaultFits}
use Rattle.sdc_model.specs.FaultLine.{LeavesFaults, fault_line, with_faults}
use Rattle.sdc_cli.specs.Outputs.{IsOutputOf, IsTooLargeOf}

-- the answer, or want of memory in its place; what is done stays done
abbrev pub EndsAs : Status → Status → Type 0
EndsAs status.Done ended = ended ≡ status.Done
EndsAs status.Findings ended = ended ≡ status.Findings
EndsAs answer ended = (ended ≡ answer) ⊎ (ended ≡ status.NoMemory)

-- writing a line: it stands in the channel of faults; after a refusal a front of it and not all, or nothing
abbrev pub WritesLine : List ℕ → Result Unit Refusal → Option Written → Option Written → Type 0
WritesLine line answer None None = Unit {0}
WritesLine line answer None (Some after) = ⊥
WritesLine line answer (Some before) None = ⊥
WritesLine line (Ok _) (Some before) (Some after) = after ≡ appended Faults line before
WritesLine line (Err _) (Some before) (Some after) = AppendsFront Faults line before after ⊎ (after ≡ before)

-- the line of the answer stands in the channel of faults as it should where a run ends so, and nothing else changed
abbrev pub Announces : Option CommandLine → Status → Type 0 → Status → Written → Written → Type 0
Announces line answer Failed ended before after =
    (with_faults before.faults after ≡ before)
    × LeavesFaults line (λ stood. stood ≡ answer) Failed ended before.faults after.faults

-- where a run ends with a write fault, its line stands whole, unless a write failed as `Failed` says
abbrev pub NamesWriteFault : Type 0 → Status → Written → Written → Type 0
NamesWriteFault Failed status.WriteFault before after = (after.faults ≡ before.faults ++ fault_line None status.WriteFault) ⊎ Failed
NamesWriteFault Failed ended before after = Unit {0}

-- the count rose twice in a call, or it stands at its last value
abbrev pub RoseTwice : ℕ → ℕ → Type 0
RoseTwice before after = (before + 1 < after) ⊎ (last_count ≤ after)

-- an answer with its causes in the words, in the files and in the counts of the faults of the inputs and of the outputs
abbrev pub HasCauses : Option Reading → ℕ → ℕ → ℕ → ℕ → Option CommandLine → Status → Type 0
HasCauses contents reading read writing written line answer =
    UsageFits line answer
    × CauseFits (λ output. OnModes (λ l modes. IsOutputOf l modes output) contents line) (IsLineFault contents line)
    (λ bytes. OnModes (λ l modes. IsTooLargeOf l modes bytes) contents line) answer
    × TooLargeFits line answer
    × ReadFaultFits line reading read answer
    × WriteFaultFits writing written answer
