-- What a run leaves once the line of its answer was written, of what it left before.
use Rattle.std.proofs.Common.{◌≡◌, ℕ, List, Option, Some, None, refl, sym, ◌∙◌, ap, subst, inl, inr}
use Rattle.sdc_base.specs.Channels.{Written}
use Rattle.sdc_model.specs.declared.answers.Status.{Status}
use Rattle.sdc_model.specs.declared.answers.Status.TheVariants as status
use Rattle.sdc_model.specs.declared.command_lines.CommandLine.{CommandLine}
use Rattle.sdc_model.specs.declared.command_lines.Output.{Output}
use Rattle.sdc_model.specs.Answers.{LeavesWritten, OnContents}
use Rattle.sdc_model.specs.FaultLine.{HasProperFront, LeavesFaults, fault_line, with_faults}
use Rattle.sdc_cli.specs.Announced.{Announces, EndsAs}
use Rattle.sdc_cli.proofs.AnswerEnds.{ends_with}

-- ---- what a run leaves

-- its output changes no faults
pub faults_stay : (made : Option (List ℕ)) (IsOutput : Output → Type 0) (answer : Status) (before after : Written)
    → LeavesWritten made IsOutput answer before after → after.faults ≡ before.faults
faults_stay None IsOutput status.Done before after leaves = ap (λ (w : Written). w.faults) leaves.2
faults_stay (Some name) IsOutput status.Done before after leaves = ap (λ (w : Written). w.faults) leaves.2
faults_stay None IsOutput status.Findings before after leaves = ap (λ (w : Written). w.faults) leaves.2
faults_stay (Some name) IsOutput status.Findings before after leaves = ap (λ (w : Written). w.faults) leaves.2
faults_stay made IsOutput status.Usage before after leaves = ap (λ (w : Written). w.faults) leaves
faults_stay made IsOutput (status.Source fault) before after leaves = ap (λ (w : Written). w.faults) leaves
faults_stay made IsOutput (status.ReadFault place) before after leaves = ap (λ (w : Written). w.faults) leaves
faults_stay made IsOutput status.WriteFault before after (output, is, inl same) = ap (λ (w : Written). w.faults) same
faults_stay None IsOutput status.WriteFault before after (output, is, inr front) = ap (λ (w : Written). w.faults) front.4
faults_stay (Some name) IsOutput status.WriteFault before after (output, is, inr front) = ap (λ (w : Written). w.faults) front.8
faults_stay made IsOutput status.NoMemory before after (inl same) = ap (λ (w : Written). w.faults) same
faults_stay None IsOutput status.NoMemory before after (inr (output, is, front)) = ap (λ (w : Written). w.faults) front.4
faults_stay (Some name) IsOutput status.NoMemory before after (inr (output, is, front)) = ap (λ (w : Written). w.faults) front.8
faults_stay made IsOutput (status.Loop cycle) before after leaves = ap (λ (w : Written). w.faults) leaves
faults_stay made IsOutput (status.Conflict pin source passing) before after leaves = ap (λ (w : Written). w.faults) leaves
faults_stay made IsOutput (status.Budget classes) before after leaves = ap (λ (w : Written). w.faults) leaves
faults_stay made IsOutput (status.TooLarge bytes) before after leaves = ap (λ (w : Written). w.faults) leaves

written_as_memory : (made : Option (List ℕ)) (IsOutput : Output → Type 0) (before after : Written)
    → LeavesWritten made IsOutput status.WriteFault before after → LeavesWritten made IsOutput status.NoMemory before after
written_as_memory made IsOutput before after (output, is, inl same) = inl same
written_as_memory made IsOutput before after (output, is, inr front) = inr (output, is, front)

-- what an answer leaves of the output, want of memory leaves too
leaves_as_memory : (made : Option (List ℕ)) (IsOutput : Output → Type 0) (answer ended : Status) (before after : Written) → EndsAs answer ended
    → LeavesWritten made IsOutput answer before after → LeavesWritten made IsOutput ended before after
leaves_as_memory made IsOutput status.Done ended before after e leaves = subst (λ (a : Status). LeavesWritten made IsOutput a before after) (sym e) leaves
leaves_as_memory made IsOutput status.Findings ended before after e leaves = subst (λ (a : Status). LeavesWritten made IsOutput a before after) (sym e) leaves
leaves_as_memory made IsOutput status.WriteFault ended before after e leaves =
    ends_with (λ (a : Status). LeavesWritten made IsOutput a before after) status.WriteFault ended e leaves (written_as_memory made IsOutput before after leaves)
leaves_as_memory made IsOutput status.Usage ended before after e leaves =
    ends_with (λ (a : Status). LeavesWritten made IsOutput a before after) status.Usage ended e leaves (inl leaves)
leaves_as_memory made IsOutput (status.Source fault) ended before after e leaves =
    ends_with (λ (a : Status). LeavesWritten made IsOutput a before after) (status.Source fault) ended e leaves (inl leaves)
leaves_as_memory made IsOutput (status.ReadFault place) ended before after e leaves =
    ends_with (λ (a : Status). LeavesWritten made IsOutput a before after) (status.ReadFault place) ended e leaves (inl leaves)
leaves_as_memory made IsOutput status.NoMemory ended before after e leaves =
    ends_with (λ (a : Status). LeavesWritten made IsOutput a before after) status.NoMemory ended e leaves leaves
leaves_as_memory made IsOutput (status.Loop cycle) ended before after e leaves =
    ends_with (λ (a : Status). LeavesWritten made IsOutput a before after) (status.Loop cycle) ended e leaves (inl leaves)
leaves_as_memory made IsOutput (status.Conflict pin source passing) ended before after e leaves =
    ends_with (λ (a : Status). LeavesWritten made IsOutput a before after) (status.Conflict pin source passing) ended e leaves (inl leaves)
leaves_as_memory made IsOutput (status.Budget classes) ended before after e leaves =
    ends_with (λ (a : Status). LeavesWritten made IsOutput a before after) (status.Budget classes) ended e leaves (inl leaves)
leaves_as_memory made IsOutput (status.TooLarge bytes) ended before after e leaves =
    ends_with (λ (a : Status). LeavesWritten made IsOutput a before after) (status.TooLarge bytes) ended e leaves (inl leaves)

-- with the faults as they were, what was left is what the output left
contents_leave : (made : Option (List ℕ)) (IsOutput : Output → Type 0) (line : Option CommandLine) (answer ended : Status) (Failed : Type 0) (before now after : Written)
    → EndsAs answer ended → LeavesWritten made IsOutput answer before now → Announces line answer Failed ended now after
    → LeavesWritten made IsOutput ended before (with_faults before.faults after)
contents_leave made IsOutput line answer ended Failed before now after e leaves announces =
    let same : with_faults before.faults after ≡ now =
    ap (λ (faults : List ℕ). with_faults faults after) (sym (faults_stay made IsOutput answer before now leaves)) ∙ announces.0 in
    subst (λ (w : Written). LeavesWritten made IsOutput ended before w) (sym same) (leaves_as_memory made IsOutput answer ended before now e leaves)

pub leaves_written : (made : Option (List ℕ)) (IsOutput : Output → Type 0) (line : Option CommandLine) (answer ended : Status) (Failed : Type 0) (before now after : Option Written)
    → EndsAs answer ended → OnContents (LeavesWritten made IsOutput answer) before now → OnContents (Announces line answer Failed ended) now after
    → OnContents (λ (b a : Written). LeavesWritten made IsOutput ended b (with_faults b.faults a)) before after
leaves_written made IsOutput line answer ended Failed None None None e leaves announces = tt
leaves_written made IsOutput line answer ended Failed None None (Some after) e leaves announces = announces
leaves_written made IsOutput line answer ended Failed None (Some now) after e leaves announces = absurd leaves
leaves_written made IsOutput line answer ended Failed (Some before) None after e leaves announces = absurd leaves
leaves_written made IsOutput line answer ended Failed (Some before) (Some now) None e leaves announces = announces
leaves_written made IsOutput line answer ended Failed (Some before) (Some now) (Some after) e leaves announces =
    contents_leave made IsOutput line answer ended Failed before now after e leaves announces

-- a line that may stand, and a write that may have failed, under weaker words
leaves_more : (line : Option CommandLine) (Stood More : Status → Type 0) (Failed Rises : Type 0) (ended : Status) (before after : List ℕ)
    → ((answer : Status) → Stood answer → More answer) → (Failed → Rises) → LeavesFaults line Stood Failed ended before after
    → LeavesFaults line More Rises ended before after
leaves_more line Stood More Failed Rises status.Done before after stood rises leaves = leaves
leaves_more line Stood More Failed Rises status.Findings before after stood rises leaves = leaves
leaves_more line Stood More Failed Rises status.Usage before after stood rises (inl whole) = inl whole
leaves_more line Stood More Failed Rises status.Usage before after stood rises (inr front) = inr (rises front.0, front.1)
leaves_more line Stood More Failed Rises (status.Source fault) before after stood rises (inl whole) = inl whole
leaves_more line Stood More Failed Rises (status.Source fault) before after stood rises (inr front) = inr (rises front.0, front.1)
leaves_more line Stood More Failed Rises (status.ReadFault place) before after stood rises (inl whole) = inl whole
leaves_more line Stood More Failed Rises (status.ReadFault place) before after stood rises (inr front) = inr (rises front.0, front.1)
leaves_more line Stood More Failed Rises status.WriteFault before after stood rises leaves = leaves
leaves_more line Stood More Failed Rises status.NoMemory before after stood rises (inl front) = inl front
leaves_more line Stood More Failed Rises status.NoMemory before after stood rises (inr (answer, stands, front)) = inr (answer, stood answer stands, front)
leaves_more line Stood More Failed Rises (status.Loop cycle) before after stood rises (inl whole) = inl whole
leaves_more line Stood More Failed Rises (status.Loop cycle) before after stood rises (inr front) = inr (rises front.0, front.1)
leaves_more line Stood More Failed Rises (status.Conflict pin source passing) before after stood rises (inl whole) = inl whole
leaves_more line Stood More Failed Rises (status.Conflict pin source passing) before after stood rises (inr front) = inr (rises front.0, front.1)
leaves_more line Stood More Failed Rises (status.Budget classes) before after stood rises (inl whole) = inl whole
leaves_more line Stood More Failed Rises (status.Budget classes) before after stood rises (inr front) = inr (rises front.0, front.1)
leaves_more line Stood More Failed Rises (status.TooLarge bytes) before after stood rises (inl whole) = inl whole
leaves_more line Stood More Failed Rises (status.TooLarge bytes) before after stood rises (inr front) = inr (rises front.0, front.1)

-- and the line of the answer is what the run leaves in the channel
pub leaves_faults : (made : Option (List ℕ)) (IsOutput : Output → Type 0) (line : Option CommandLine) (Stood : Status → Type 0) (answer ended : Status) (Failed Rises : Type 0) (before now after : Option Written)
    → Stood answer → (Failed → Rises) → OnContents (LeavesWritten made IsOutput answer) before now → OnContents (Announces line answer Failed ended) now after
    → OnContents (λ (b a : Written). LeavesFaults line Stood Rises ended b.faults a.faults) before after
leaves_faults made IsOutput line Stood answer ended Failed Rises None None None stands rises leaves announces = tt
leaves_faults made IsOutput line Stood answer ended Failed Rises None None (Some after) stands rises leaves announces = announces
leaves_faults made IsOutput line Stood answer ended Failed Rises None (Some now) after stands rises leaves announces = absurd leaves
leaves_faults made IsOutput line Stood answer ended Failed Rises (Some before) None after stands rises leaves announces = absurd leaves
leaves_faults made IsOutput line Stood answer ended Failed Rises (Some before) (Some now) None stands rises leaves announces = announces
leaves_faults made IsOutput line Stood answer ended Failed Rises (Some before) (Some now) (Some after) stands rises leaves announces =
    subst (λ (faults : List ℕ). LeavesFaults line Stood Rises ended faults after.faults) (faults_stay made IsOutput answer before now leaves)
    (leaves_more line (λ (stood : Status). stood ≡ answer) Stood Failed Rises ended now.faults after.faults
    (λ other same. subst Stood (sym same) stands) rises announces.1)

-- ---- words that are no command line, or that no memory was left to read

stays_for_usage : (IsOutput : Output → Type 0) (contents : Option Written) → OnContents (LeavesWritten None IsOutput status.Usage) contents contents
stays_for_usage IsOutput None = tt
stays_for_usage IsOutput (Some contents) = refl

stays_for_memory : (made : Option (List ℕ)) (IsOutput : Output → Type 0) (contents : Option Written) → OnContents (LeavesWritten made IsOutput status.NoMemory) contents contents
stays_for_memory made IsOutput None = tt
stays_for_memory made IsOutput (Some contents) = inl refl

-- the line of want of memory names no word
memory_over : (line : Option CommandLine) (Failed : Type 0) (ended : Status) (before after : Written) → EndsAs status.NoMemory ended
    → Announces None status.NoMemory Failed ended before after → Announces line status.NoMemory Failed ended before after
memory_over line Failed ended before after e announces =
    subst (λ (a : Status). Announces line status.NoMemory Failed a before after) (sym (is_memory ended e))
    (over (subst (λ (a : Status). Announces None status.NoMemory Failed a before after) (is_memory ended e) announces))
  where
    is_memory : (ended : Status) → EndsAs status.NoMemory ended → ended ≡ status.NoMemory
    is_memory ended (inl same) = same
    is_memory ended (inr same) = same

    over : Announces None status.NoMemory Failed status.NoMemory before after → Announces line status.NoMemory Failed status.NoMemory before after
    over (same, inl front) = (same, inl front)
    over (same, inr (answer, is, front)) =
        (same, inr (status.NoMemory, refl, subst (λ (a : Status). HasProperFront (fault_line None a) before.faults after.faults) is front))

memory_over_line : (line : Option CommandLine) (Failed : Type 0) (ended : Status) (before after : Option Written) → EndsAs status.NoMemory ended
    → OnContents (Announces None status.NoMemory Failed ended) before after → OnContents (Announces line status.NoMemory Failed ended) before after
memory_over_line line Failed ended None None e announces = tt
memory_over_line line Failed ended None (Some after) e announces = announces
memory_over_line line Failed ended (Some before) None e announces = announces
memory_over_line line Failed ended (Some before) (Some after) e announces = memory_over line Failed ended before after e announces

pub usage_leaves : (IsOutput : Output → Type 0) (ended : Status) (Failed : Type 0) (before after : Option Written) → EndsAs status.Usage ended
    → OnContents (Announces None status.Usage Failed ended) before after
    → OnContents (λ (b a : Written). LeavesWritten None IsOutput ended b (with_faults b.faults a)) before after
usage_leaves IsOutput ended Failed before after e announces =
    leaves_written None IsOutput None status.Usage ended Failed before before after e (stays_for_usage IsOutput before) announces

pub usage_names : (Stood : Status → Type 0) (ended : Status) (Failed : Type 0) (before after : Option Written) → Stood status.Usage
    → OnContents (Announces None status.Usage Failed ended) before after
    → OnContents (λ (b a : Written). LeavesFaults None Stood Failed ended b.faults a.faults) before after
usage_names Stood ended Failed before after stands announces =
    leaves_faults None (λ (output : Output). ⊥) None Stood status.Usage ended Failed Failed before before after stands (λ failed. failed) (stays_for_usage (λ (output : Output). ⊥) before) announces

pub memory_leaves : (made : Option (List ℕ)) (IsOutput : Output → Type 0) (ended : Status) (Failed : Type 0) (before after : Option Written) → EndsAs status.NoMemory ended
    → OnContents (Announces None status.NoMemory Failed ended) before after
    → OnContents (λ (b a : Written). LeavesWritten made IsOutput ended b (with_faults b.faults a)) before after
memory_leaves made IsOutput ended Failed before after e announces =
    leaves_written made IsOutput None status.NoMemory ended Failed before before after e (stays_for_memory made IsOutput before) announces

pub memory_names : (line : Option CommandLine) (Stood : Status → Type 0) (ended : Status) (Failed : Type 0) (before after : Option Written) → EndsAs status.NoMemory ended
    → Stood status.NoMemory → OnContents (Announces None status.NoMemory Failed ended) before after
    → OnContents (λ (b a : Written). LeavesFaults line Stood Failed ended b.faults a.faults) before after
memory_names line Stood ended Failed before after e stands announces =
    leaves_faults None (λ (output : Output). ⊥) line Stood status.NoMemory ended Failed Failed before before after stands (λ failed. failed)
    (stays_for_memory None (λ (output : Output). ⊥) before) (memory_over_line line Failed ended before after e announces)
