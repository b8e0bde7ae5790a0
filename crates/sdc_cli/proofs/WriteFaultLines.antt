-- That the line of a write fault stands whole, or a write failed once more: by how the line was written, and of the
-- run that ends with it.
use Rattle.std.proofs.Common.{◌≡◌, ◌≤◌, ◌∙◌, ◌++◌, ℕ, List, Option, Some, None, Ok, Err, refl, ap, subst, inl, inr, arith}
use Rattle.sdc_base.specs.Channels.{Written, WritesAll, appended}
use Rattle.sdc_base.specs.Counting.{Rose}
use Rattle.sdc_base.specs.declared.outside.Channel.TheVariants.{Faults}
use Rattle.sdc_base.specs.declared.outside.Refusal.{Refusal}
use Rattle.sdc_model.specs.declared.answers.Status.{Status}
use Rattle.sdc_model.specs.declared.answers.Status.TheVariants as status
use Rattle.sdc_model.specs.declared.command_lines.CommandLine.{CommandLine}
use Rattle.sdc_model.specs.declared.command_lines.Output.{Output}
use Rattle.sdc_model.specs.Answers.{LeavesWritten, OnContents, WriteFaultFits}
use Rattle.sdc_model.specs.FaultLine.{fault_line}
use Rattle.sdc_cli.specs.Announced.{EndsAs, NamesWriteFault, RoseTwice, WritesLine}
use Rattle.sdc_cli.proofs.RunLeaves.{faults_stay}

-- a whole line
named_whole : (line : Option CommandLine) (answer : Status) (Failed : Type 0) (before after : Written) → after ≡ appended Faults (fault_line line answer) before
    → NamesWriteFault Failed answer before after
named_whole line status.WriteFault Failed before after whole = inl (ap (λ (w : Written). w.faults) whole)
named_whole line answer Failed before after whole = tt

pub named : (line : Option CommandLine) (answer : Status) (Failed : Type 0) (before after : Option Written)
    → WritesLine (fault_line line answer) (Ok tt) before after → OnContents (NamesWriteFault Failed answer) before after
named line answer Failed None None writes = tt
named line answer Failed None (Some after) writes = writes
named line answer Failed (Some before) None writes = writes
named line answer Failed (Some before) (Some after) writes = named_whole line answer Failed before after writes

-- a front of it, where a write failed
named_failed : (answer : Status) (Failed : Type 0) (before after : Written) → Failed → NamesWriteFault Failed answer before after
named_failed status.WriteFault Failed before after failed = inr failed
named_failed answer Failed before after failed = tt

pub named_in_part : (line : Option CommandLine) (answer : Status) (Failed : Type 0) (refusal : Refusal) (before after : Option Written)
    → Failed → WritesLine (fault_line line answer) (Err refusal) before after → OnContents (NamesWriteFault Failed answer) before after
named_in_part line answer Failed refusal None None failed writes = tt
named_in_part line answer Failed refusal None (Some after) failed writes = writes
named_in_part line answer Failed refusal (Some before) None failed writes = writes
named_in_part line answer Failed refusal (Some before) (Some after) failed writes = named_failed answer Failed before after failed

pub named_without_memory : (line : Option CommandLine) (answer : Status) (Failed : Type 0) (refusal : Refusal) (before after : Option Written)
    → WritesLine (fault_line line answer) (Err refusal) before after → OnContents (NamesWriteFault Failed status.NoMemory) before after
named_without_memory line answer Failed refusal None None writes = tt
named_without_memory line answer Failed refusal None (Some after) writes = writes
named_without_memory line answer Failed refusal (Some before) None writes = writes
named_without_memory line answer Failed refusal (Some before) (Some after) writes = tt

pub nothing_named : (Failed : Type 0) (contents : Option Written) → OnContents (NamesWriteFault Failed status.Done) contents contents
nothing_named Failed None = tt
nothing_named Failed (Some contents) = tt

pub nothing_named_of_findings : (Failed : Type 0) (contents : Option Written) → OnContents (NamesWriteFault Failed status.Findings) contents contents
nothing_named_of_findings Failed None = tt
nothing_named_of_findings Failed (Some contents) = tt

-- ---- a run that ends with it

-- a count that rose in both parts of a call rose twice
rose_twice : (before now after : ℕ) → before ≤ now → Rose before now → Rose now after → RoseTwice before after
rose_twice before now after first (inl more) (inl once) = inl (omega (arith, more, once))
rose_twice before now after first (inl more) (inr last) = inr (omega (arith, last))
rose_twice before now after first (inr last) (inl once) = inr (omega (arith, last, once))
rose_twice before now after first (inr last) (inr still) = inr (omega (arith, still))

-- a run ends with a write fault only where that was the answer
was_write_fault : (answer : Status) → EndsAs answer status.WriteFault → answer ≡ status.WriteFault
was_write_fault status.Done e = cc
was_write_fault status.Findings e = cc
was_write_fault status.Usage (inl e) = cc
was_write_fault status.Usage (inr e) = cc
was_write_fault (status.Source fault) (inl e) = cc
was_write_fault (status.Source fault) (inr e) = cc
was_write_fault (status.ReadFault place) (inl e) = cc
was_write_fault (status.ReadFault place) (inr e) = cc
was_write_fault status.WriteFault e = refl
was_write_fault status.NoMemory (inl e) = cc
was_write_fault status.NoMemory (inr e) = cc
was_write_fault (status.Loop cycle) (inl e) = cc
was_write_fault (status.Loop cycle) (inr e) = cc
was_write_fault (status.Conflict pin source passing) (inl e) = cc
was_write_fault (status.Conflict pin source passing) (inr e) = cc
was_write_fault (status.Budget classes) (inl e) = cc
was_write_fault (status.Budget classes) (inr e) = cc
was_write_fault (status.TooLarge bytes) (inl e) = cc
was_write_fault (status.TooLarge bytes) (inr e) = cc

-- the line after faults that the output left as they were, of a count that rose before it
named_after : (answer ended : Status) (first now last : ℕ) (before between after : Written) → first ≤ now → EndsAs answer ended
    → WriteFaultFits first now answer → between.faults ≡ before.faults → NamesWriteFault (Rose now last) ended between after
    → NamesWriteFault (RoseTwice first last) ended before after
named_after answer status.WriteFault first now last before between after counts e fits same (inl whole) =
    inl (whole ∙ ap (λ (faults : List ℕ). faults ++ fault_line None status.WriteFault) same)
named_after answer status.WriteFault first now last before between after counts e fits same (inr again) =
    inr (rose_twice first now last counts (subst (λ (a : Status). WriteFaultFits first now a) (was_write_fault answer e) fits) again)
named_after answer status.Done first now last before between after counts e fits same names = tt
named_after answer status.Findings first now last before between after counts e fits same names = tt
named_after answer status.Usage first now last before between after counts e fits same names = tt
named_after answer (status.Source fault) first now last before between after counts e fits same names = tt
named_after answer (status.ReadFault place) first now last before between after counts e fits same names = tt
named_after answer status.NoMemory first now last before between after counts e fits same names = tt
named_after answer (status.Loop cycle) first now last before between after counts e fits same names = tt
named_after answer (status.Conflict pin source passing) first now last before between after counts e fits same names = tt
named_after answer (status.Budget classes) first now last before between after counts e fits same names = tt
named_after answer (status.TooLarge bytes) first now last before between after counts e fits same names = tt

pub named_by_run : (made : Option (List ℕ)) (IsOutput : Output → Type 0) (answer ended : Status) (first now last : ℕ) (before between after : Option Written)
    → first ≤ now → EndsAs answer ended → WriteFaultFits first now answer → OnContents (LeavesWritten made IsOutput answer) before between
    → OnContents (NamesWriteFault (Rose now last) ended) between after → OnContents (NamesWriteFault (RoseTwice first last) ended) before after
named_by_run made IsOutput answer ended first now last None None None counts e fits leaves names = tt
named_by_run made IsOutput answer ended first now last None None (Some after) counts e fits leaves names = names
named_by_run made IsOutput answer ended first now last None (Some between) after counts e fits leaves names = absurd leaves
named_by_run made IsOutput answer ended first now last (Some before) None after counts e fits leaves names = absurd leaves
named_by_run made IsOutput answer ended first now last (Some before) (Some between) None counts e fits leaves names = names
named_by_run made IsOutput answer ended first now last (Some before) (Some between) (Some after) counts e fits leaves names =
    named_after answer ended first now last before between after counts e fits (faults_stay made IsOutput answer before between leaves) names

-- words that are no command line, and want of memory while they were read, end with no write fault
no_write_fault : (answer ended : Status) (Failed More : Type 0) (before after : Option Written) → (answer ≡ status.WriteFault → ⊥) → EndsAs answer ended
    → OnContents (NamesWriteFault Failed ended) before after → OnContents (NamesWriteFault More ended) before after
no_write_fault answer ended Failed More None None other e names = tt
no_write_fault answer ended Failed More None (Some after) other e names = names
no_write_fault answer ended Failed More (Some before) None other e names = names
no_write_fault answer status.WriteFault Failed More (Some before) (Some after) other e names = absurd (other (was_write_fault answer e))
no_write_fault answer status.Done Failed More (Some before) (Some after) other e names = tt
no_write_fault answer status.Findings Failed More (Some before) (Some after) other e names = tt
no_write_fault answer status.Usage Failed More (Some before) (Some after) other e names = tt
no_write_fault answer (status.Source fault) Failed More (Some before) (Some after) other e names = tt
no_write_fault answer (status.ReadFault place) Failed More (Some before) (Some after) other e names = tt
no_write_fault answer status.NoMemory Failed More (Some before) (Some after) other e names = tt
no_write_fault answer (status.Loop cycle) Failed More (Some before) (Some after) other e names = tt
no_write_fault answer (status.Conflict pin source passing) Failed More (Some before) (Some after) other e names = tt
no_write_fault answer (status.Budget classes) Failed More (Some before) (Some after) other e names = tt
no_write_fault answer (status.TooLarge bytes) Failed More (Some before) (Some after) other e names = tt

pub usage_no_write_fault : (ended : Status) (Failed More : Type 0) (before after : Option Written) → EndsAs status.Usage ended
    → OnContents (NamesWriteFault Failed ended) before after → OnContents (NamesWriteFault More ended) before after
usage_no_write_fault ended Failed More before after e names = no_write_fault status.Usage ended Failed More before after (λ e. cc) e names

pub memory_no_write_fault : (ended : Status) (Failed More : Type 0) (before after : Option Written) → EndsAs status.NoMemory ended
    → OnContents (NamesWriteFault Failed ended) before after → OnContents (NamesWriteFault More ended) before after
memory_no_write_fault ended Failed More before after e names = no_write_fault status.NoMemory ended Failed More before after (λ e. cc) e names
