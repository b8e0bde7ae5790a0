-- The answer that a run ends with, once the line of its answer was written: what holds of the answer holds of it.
use Rattle.std.proofs.Common.{◌≡◌, ◌≤◌, ◌∙◌, ℕ, Option, Some, None, sym, subst, inl, inr, arith}
use Rattle.std.proofs.lemmas.Bool.{cases_lt}
use Rattle.sdc_base.specs.Counting.{Rose}
use Rattle.sdc_base.specs.Files.{Reading}
use Rattle.sdc_model.specs.declared.answers.Status.{Status}
use Rattle.sdc_model.specs.declared.answers.Status.TheVariants as status
use Rattle.sdc_model.specs.declared.command_lines.CommandLine.{CommandLine}
use Rattle.sdc_model.specs.declared.command_lines.CommandLine.TheVariants.{Edges, Merge}
use Rattle.sdc_model.specs.declared.command_lines.Output.{Output}
use Rattle.source_types.specs.declared.kinds.Fault.{Fault}
use Rattle.sdc_model.specs.Answers.{CauseFits, LeavesReading, OnContents, QuietFits, ReadFaultFits, TooLargeFits, UsageFits, WriteFaultFits}
use Rattle.sdc_cli.specs.Announced.{EndsAs}
use Rattle.sdc_cli.specs.Steps.{QuietWhenDone}

-- ---- counts of faults

-- what rose in the first part of a call rose in it
pub rose_first : (before now after : ℕ) → before ≤ now → now ≤ after → Rose before now → Rose before after
rose_first before now after first second (inl more) = inl (omega (arith, more, second))
rose_first before now after first second (inr last) = elim (cases_lt now after) [
  | inl less ↦ inl (omega (arith, first, less))
  | inr least ↦ inr (omega (arith, second, least, last))
]

-- and what rose in the second part
pub rose_second : (before now after : ℕ) → before ≤ now → Rose now after → Rose before after
rose_second before now after first (inl more) = inl (omega (arith, first, more))
rose_second before now after first (inr last) = inr last

-- ---- the answer

-- what holds of the answer, and of want of memory, holds of the answer that a run ends with
pub ends_with : (Holds : Status → Type 0) (answer ended : Status) → EndsAs answer ended → Holds answer → Holds status.NoMemory → Holds ended
ends_with Holds status.Done ended e holds memory = subst Holds (sym e) holds
ends_with Holds status.Findings ended e holds memory = subst Holds (sym e) holds
ends_with Holds status.Usage ended (inl e) holds memory = subst Holds (sym e) holds
ends_with Holds status.Usage ended (inr e) holds memory = subst Holds (sym e) memory
ends_with Holds (status.Source fault) ended (inl e) holds memory = subst Holds (sym e) holds
ends_with Holds (status.Source fault) ended (inr e) holds memory = subst Holds (sym e) memory
ends_with Holds (status.ReadFault place) ended (inl e) holds memory = subst Holds (sym e) holds
ends_with Holds (status.ReadFault place) ended (inr e) holds memory = subst Holds (sym e) memory
ends_with Holds status.WriteFault ended (inl e) holds memory = subst Holds (sym e) holds
ends_with Holds status.WriteFault ended (inr e) holds memory = subst Holds (sym e) memory
ends_with Holds status.NoMemory ended (inl e) holds memory = subst Holds (sym e) holds
ends_with Holds status.NoMemory ended (inr e) holds memory = subst Holds (sym e) memory
ends_with Holds (status.Loop cycle) ended (inl e) holds memory = subst Holds (sym e) holds
ends_with Holds (status.Loop cycle) ended (inr e) holds memory = subst Holds (sym e) memory
ends_with Holds (status.Conflict pin source passing) ended (inl e) holds memory = subst Holds (sym e) holds
ends_with Holds (status.Conflict pin source passing) ended (inr e) holds memory = subst Holds (sym e) memory
ends_with Holds (status.Budget classes) ended (inl e) holds memory = subst Holds (sym e) holds
ends_with Holds (status.Budget classes) ended (inr e) holds memory = subst Holds (sym e) memory
ends_with Holds (status.TooLarge bytes) ended (inl e) holds memory = subst Holds (sym e) holds
ends_with Holds (status.TooLarge bytes) ended (inr e) holds memory = subst Holds (sym e) memory

-- want of memory fits whatever stands
usage_memory : (line : Option CommandLine) → UsageFits line status.NoMemory
usage_memory None = tt
usage_memory (Some line) = tt

too_large_memory : (line : Option CommandLine) → TooLargeFits line status.NoMemory
too_large_memory None = tt
too_large_memory (Some (Edges files)) = tt
too_large_memory (Some (Merge out modes)) = tt

read_fault_memory : (line : Option CommandLine) (before after : ℕ) → ReadFaultFits line before after status.NoMemory
read_fault_memory None before after = tt
read_fault_memory (Some line) before after = tt

pub usage_ends : (line : Option CommandLine) (answer ended : Status) → EndsAs answer ended → UsageFits line answer → UsageFits line ended
usage_ends line answer ended e fits = ends_with (UsageFits line) answer ended e fits (usage_memory line)

pub cause_ends : (IsOutput : Output → Type 0) (IsFault : Fault → Type 0) (IsTooLarge : ℕ → Type 0) (answer ended : Status) → EndsAs answer ended
    → CauseFits IsOutput IsFault IsTooLarge answer → CauseFits IsOutput IsFault IsTooLarge ended
cause_ends IsOutput IsFault IsTooLarge answer ended e fits = ends_with (CauseFits IsOutput IsFault IsTooLarge) answer ended e fits tt

pub too_large_ends : (line : Option CommandLine) (answer ended : Status) → EndsAs answer ended → TooLargeFits line answer → TooLargeFits line ended
too_large_ends line answer ended e fits = ends_with (TooLargeFits line) answer ended e fits (too_large_memory line)

pub read_fault_ends : (line : Option CommandLine) (before after : ℕ) (answer ended : Status) → EndsAs answer ended → ReadFaultFits line before after answer
    → ReadFaultFits line before after ended
read_fault_ends line before after answer ended e fits = ends_with (ReadFaultFits line before after) answer ended e fits (read_fault_memory line before after)

-- the line is written after the output, and its faults are counted on
pub write_fault_later : (before now after : ℕ) (answer : Status) → before ≤ now → now ≤ after → WriteFaultFits before now answer → WriteFaultFits before after answer
write_fault_later before now after status.Done first second fits = tt
write_fault_later before now after status.Findings first second fits = tt
write_fault_later before now after status.Usage first second fits = tt
write_fault_later before now after (status.Source fault) first second fits = tt
write_fault_later before now after (status.ReadFault place) first second fits = tt
write_fault_later before now after status.WriteFault first second fits = rose_first before now after first second fits
write_fault_later before now after status.NoMemory first second fits = tt
write_fault_later before now after (status.Loop cycle) first second fits = tt
write_fault_later before now after (status.Conflict pin source passing) first second fits = tt
write_fault_later before now after (status.Budget classes) first second fits = tt
write_fault_later before now after (status.TooLarge bytes) first second fits = tt

pub write_fault_ends : (before now after : ℕ) (answer ended : Status) → before ≤ now → now ≤ after → EndsAs answer ended → WriteFaultFits before now answer
    → WriteFaultFits before after ended
write_fault_ends before now after answer ended first second e fits =
    ends_with (WriteFaultFits before after) answer ended e (write_fault_later before now after answer first second fits) tt

-- and what is done stays quiet: its line, which is none, is written after it
quiet_later : (reading read writing now written : ℕ) (answer : Status) → QuietWhenDone now written answer → QuietFits reading read writing now answer
    → QuietFits reading read writing written answer
quiet_later reading read writing now written status.Done stays fits = (fits.0, stays ∙ fits.1)
quiet_later reading read writing now written status.Findings stays fits = (fits.0, stays ∙ fits.1)
quiet_later reading read writing now written status.Usage stays fits = tt
quiet_later reading read writing now written (status.Source fault) stays fits = tt
quiet_later reading read writing now written (status.ReadFault place) stays fits = tt
quiet_later reading read writing now written status.WriteFault stays fits = tt
quiet_later reading read writing now written status.NoMemory stays fits = tt
quiet_later reading read writing now written (status.Loop cycle) stays fits = tt
quiet_later reading read writing now written (status.Conflict pin source passing) stays fits = tt
quiet_later reading read writing now written (status.Budget classes) stays fits = tt
quiet_later reading read writing now written (status.TooLarge bytes) stays fits = tt

pub quiet_ends : (reading read writing now written : ℕ) (answer ended : Status) → EndsAs answer ended → QuietWhenDone now written answer
    → QuietFits reading read writing now answer → QuietFits reading read writing written ended
quiet_ends reading read writing now written answer ended e stays fits =
    ends_with (QuietFits reading read writing written) answer ended e (quiet_later reading read writing now written answer stays fits) tt

-- what an answer leaves in the inputs, want of memory leaves too
reads_memory : (line : Option CommandLine) (answer : Status) (before after : Reading) → LeavesReading line answer before after
    → LeavesReading line status.NoMemory before after
reads_memory None answer before after leaves = leaves
reads_memory (Some line) status.Done before after leaves = leaves
reads_memory (Some line) status.Findings before after leaves = leaves
reads_memory (Some line) status.Usage before after leaves = leaves
reads_memory (Some line) (status.Source fault) before after leaves = leaves
reads_memory (Some line) (status.ReadFault place) before after leaves = leaves.0
reads_memory (Some line) status.WriteFault before after leaves = leaves
reads_memory (Some line) status.NoMemory before after leaves = leaves
reads_memory (Some line) (status.Loop cycle) before after leaves = leaves
reads_memory (Some line) (status.Conflict pin source passing) before after leaves = leaves
reads_memory (Some line) (status.Budget classes) before after leaves = leaves
reads_memory (Some line) (status.TooLarge bytes) before after leaves = leaves

pub reads_ends : (line : Option CommandLine) (answer ended : Status) (before after : Option Reading) → EndsAs answer ended
    → OnContents (LeavesReading line answer) before after → OnContents (LeavesReading line ended) before after
reads_ends line answer ended None None e leaves = tt
reads_ends line answer ended None (Some after) e leaves = leaves
reads_ends line answer ended (Some before) None e leaves = leaves
reads_ends line answer ended (Some before) (Some after) e leaves =
    ends_with (λ (a : Status). LeavesReading line a before after) answer ended e leaves (reads_memory line answer before after leaves)
