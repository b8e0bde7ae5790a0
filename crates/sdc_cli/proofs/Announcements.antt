-- What writing the line of an answer leaves in the channels.
use Rattle.std.proofs.Common.{◌≡◌, ◌⊎◌, ◌+◌, ◌++◌, ℕ, List, [], Option, Some, None, Result, Ok, Err, refl, sym, ◌∙◌, ap, subst, inl, inr, append-nil, arith, length, length-append}
use Rattle.std.proofs.lemmas.List.{nil_from_length}
use Rattle.sdc_base.specs.Channels.{Written, WritesAll, appended, AppendsFront}
use Rattle.sdc_base.specs.declared.outside.Channel.TheVariants.{Faults}
use Rattle.sdc_base.specs.declared.outside.Refusal.{Refusal}
use Rattle.sdc_model.specs.declared.answers.Status.{Status}
use Rattle.sdc_model.specs.declared.answers.Status.TheVariants as status
use Rattle.sdc_model.specs.declared.command_lines.CommandLine.{CommandLine}
use Rattle.sdc_model.specs.Answers.{OnContents}
use Rattle.sdc_model.specs.FaultLine.{HasFront, HasProperFront, LeavesFaults, fault_line, with_faults}
use Rattle.sdc_cli.specs.Steps.{QuietWhenDone}
use Rattle.sdc_cli.specs.Announced.{Announces, EndsAs, WritesLine}

-- ---- the line in its channel

front_of_faults : (line : List ℕ) (before after : Written) → AppendsFront Faults line before after
    → (with_faults before.faults after ≡ before) × HasProperFront line before.faults after.faults
front_of_faults line before after front =
    (ap (with_faults before.faults) front.4, (front.0, front.1, front.2, front.3, ap (λ (w : Written). w.faults) front.4))

some_front : (line before after : List ℕ) → HasProperFront line before after → HasFront line before after
some_front line before after front = (front.0, front.1, front.2, front.4)

no_front_yet : (line : List ℕ) (before after : Written) → after ≡ before → (with_faults before.faults after ≡ before) × HasFront line before.faults after.faults
no_front_yet line before after same =
    (ap (with_faults before.faults) same, ([], line, refl, ap (λ (w : Written). w.faults) same ∙ sym (append-nil before.faults)))

any_front : (line : List ℕ) (before after : Written) → AppendsFront Faults line before after ⊎ (after ≡ before)
    → (with_faults before.faults after ≡ before) × HasFront line before.faults after.faults
any_front line before after (inl front) =
    let found = front_of_faults line before after front in (found.0, some_front line before.faults after.faults found.1)
any_front line before after (inr same) = no_front_yet line before after same

memory_front : (line : Option CommandLine) (answer : Status) (Failed : Type 0) (before after : Written)
    → AppendsFront Faults (fault_line line answer) before after ⊎ (after ≡ before) → Announces line answer Failed status.NoMemory before after
memory_front line answer Failed before after (inl front) =
    let found = front_of_faults (fault_line line answer) before after front in (found.0, inr (answer, refl, found.1))
memory_front line answer Failed before after (inr same) =
    let found = no_front_yet (fault_line line status.NoMemory) before after same in (found.0, inl found.1)

whole_in_faults : (line : List ℕ) (before after : Written) → after ≡ appended Faults line before
    → (with_faults before.faults after ≡ before) × (after.faults ≡ before.faults ++ line)
whole_in_faults line before after whole = (ap (with_faults before.faults) whole, ap (λ (w : Written). w.faults) whole)

front_of_whole : (line before after : List ℕ) → after ≡ before ++ line → HasFront line before after
front_of_whole line before after whole = (line, [], sym (append-nil line), whole)

-- a whole line
whole_leaves : (line : Option CommandLine) (answer : Status) (Failed : Type 0) (before after : List ℕ) → after ≡ before ++ fault_line line answer
    → LeavesFaults line (λ stood. stood ≡ answer) Failed answer before after
whole_leaves line status.Done Failed before after whole = whole ∙ append-nil before
whole_leaves line status.Findings Failed before after whole = whole ∙ append-nil before
whole_leaves line status.Usage Failed before after whole = inl whole
whole_leaves line (status.Source fault) Failed before after whole = inl whole
whole_leaves line (status.ReadFault place) Failed before after whole = inl whole
whole_leaves line status.WriteFault Failed before after whole = front_of_whole _ before after whole
whole_leaves line status.NoMemory Failed before after whole = inl (front_of_whole _ before after whole)
whole_leaves line (status.Loop cycle) Failed before after whole = inl whole
whole_leaves line (status.Conflict pin source passing) Failed before after whole = inl whole
whole_leaves line (status.Budget classes) Failed before after whole = inl whole
whole_leaves line (status.TooLarge bytes) Failed before after whole = inl whole

no_front : (front rest : List ℕ) → [] ≡ front ++ rest → front ≡ []
no_front front rest e =
    let total : 0 ≡ length front + length rest = ap (λ (xs : List ℕ). length xs) e ∙ length-append front rest in
    nil_from_length front (omega (arith, total))

-- a front of it, where a write failed
front_leaves : (line : Option CommandLine) (answer : Status) (Failed : Type 0) (before after : List ℕ) → Failed → HasFront (fault_line line answer) before after
    → LeavesFaults line (λ stood. stood ≡ answer) Failed answer before after
front_leaves line status.Done Failed before after failed front =
    front.3 ∙ (ap (λ (xs : List ℕ). before ++ xs) (no_front front.0 front.1 front.2) ∙ append-nil before)
front_leaves line status.Findings Failed before after failed front =
    front.3 ∙ (ap (λ (xs : List ℕ). before ++ xs) (no_front front.0 front.1 front.2) ∙ append-nil before)
front_leaves line status.Usage Failed before after failed front = inr (failed, front)
front_leaves line (status.Source fault) Failed before after failed front = inr (failed, front)
front_leaves line (status.ReadFault place) Failed before after failed front = inr (failed, front)
front_leaves line status.WriteFault Failed before after failed front = front
front_leaves line status.NoMemory Failed before after failed front = inl front
front_leaves line (status.Loop cycle) Failed before after failed front = inr (failed, front)
front_leaves line (status.Conflict pin source passing) Failed before after failed front = inr (failed, front)
front_leaves line (status.Budget classes) Failed before after failed front = inr (failed, front)
front_leaves line (status.TooLarge bytes) Failed before after failed front = inr (failed, front)

-- ---- what writing the line leaves

pub announced : (line : Option CommandLine) (answer : Status) (Failed : Type 0) (before after : Option Written)
    → WritesLine (fault_line line answer) (Ok tt) before after → OnContents (Announces line answer Failed answer) before after
announced line answer Failed None None writes = tt
announced line answer Failed None (Some after) writes = writes
announced line answer Failed (Some before) None writes = writes
announced line answer Failed (Some before) (Some after) writes =
    let whole = whole_in_faults (fault_line line answer) before after writes in
    (whole.0, whole_leaves line answer Failed before.faults after.faults whole.1)

pub announced_in_part : (line : Option CommandLine) (answer : Status) (Failed : Type 0) (refusal : Refusal) (before after : Option Written)
    → Failed → WritesLine (fault_line line answer) (Err refusal) before after → OnContents (Announces line answer Failed answer) before after
announced_in_part line answer Failed refusal None None failed writes = tt
announced_in_part line answer Failed refusal None (Some after) failed writes = writes
announced_in_part line answer Failed refusal (Some before) None failed writes = writes
announced_in_part line answer Failed refusal (Some before) (Some after) failed writes =
    let front = any_front (fault_line line answer) before after writes in
    (front.0, front_leaves line answer Failed before.faults after.faults failed front.1)

pub announced_without_memory : (line : Option CommandLine) (answer : Status) (Failed : Type 0) (refusal : Refusal) (before after : Option Written)
    → WritesLine (fault_line line answer) (Err refusal) before after → OnContents (Announces line answer Failed status.NoMemory) before after
announced_without_memory line answer Failed refusal None None writes = tt
announced_without_memory line answer Failed refusal None (Some after) writes = writes
announced_without_memory line answer Failed refusal (Some before) None writes = writes
announced_without_memory line answer Failed refusal (Some before) (Some after) writes =
    memory_front line answer Failed before after writes

pub nothing_announced : (line : Option CommandLine) (Failed : Type 0) (contents : Option Written) → OnContents (Announces line status.Done Failed status.Done) contents contents
nothing_announced line Failed None = tt
nothing_announced line Failed (Some contents) = (refl, refl)

pub nothing_announced_of_findings : (line : Option CommandLine) (Failed : Type 0) (contents : Option Written) → OnContents (Announces line status.Findings Failed status.Findings) contents contents
nothing_announced_of_findings line Failed None = tt
nothing_announced_of_findings line Failed (Some contents) = (refl, refl)

-- the bytes that were written are the line
pub same_line : (text line : List ℕ) (answer : Result Unit Refusal) (before after : Option Written) → text ≡ line → WritesAll Faults text answer before after
    → WritesLine line answer before after
same_line text line answer before after e writes =
    subst (λ (bytes : List ℕ). WritesLine bytes answer before after) e (some_line text answer before after writes)
  where
    some_line : (text : List ℕ) (answer : Result Unit Refusal) (before after : Option Written) → WritesAll Faults text answer before after
        → WritesLine text answer before after
    some_line text answer None None writes = tt
    some_line text answer None (Some after) writes = writes
    some_line text answer (Some before) None writes = writes
    some_line text (Ok u) (Some before) (Some after) writes = writes
    some_line text (Err e) (Some before) (Some after) writes = inl writes

-- nothing of a line that was not made
pub nothing_written : (line : List ℕ) (refusal : Refusal) (contents : Option Written) → WritesLine line (Err refusal) contents contents
nothing_written line refusal None = tt
nothing_written line refusal (Some contents) = inr refl

-- ---- the answer after its line

pub ends_same : (answer : Status) → EndsAs answer answer
ends_same status.Done = refl
ends_same status.Findings = refl
ends_same status.Usage = inl refl
ends_same (status.Source fault) = inl refl
ends_same (status.Loop cycle) = inl refl
ends_same (status.Conflict pin source passing) = inl refl
ends_same (status.Budget classes) = inl refl
ends_same (status.ReadFault place) = inl refl
ends_same status.WriteFault = inl refl
ends_same status.NoMemory = inl refl
ends_same (status.TooLarge bytes) = inl refl

pub quiet_other : (before after : ℕ) (answer : Status) → (answer ≡ status.Done → ⊥) → (answer ≡ status.Findings → ⊥) → QuietWhenDone before after answer
quiet_other before after status.Done done findings = absurd (done refl)
quiet_other before after status.Findings done findings = absurd (findings refl)
quiet_other before after status.Usage done findings = tt
quiet_other before after (status.Source fault) done findings = tt
quiet_other before after (status.Loop cycle) done findings = tt
quiet_other before after (status.Conflict pin source passing) done findings = tt
quiet_other before after (status.Budget classes) done findings = tt
quiet_other before after (status.ReadFault place) done findings = tt
quiet_other before after status.WriteFault done findings = tt
quiet_other before after status.NoMemory done findings = tt
quiet_other before after (status.TooLarge bytes) done findings = tt
