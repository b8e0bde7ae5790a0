-- Mode files read one after the other: what was read so far, and what the next file makes of it.
use Rattle.std.proofs.Common.{◌≡◌, ◌+◌, ◌-◌, ◌≤◌, ℕ, suc, List, [], ◌∷◌, ◌++◌, length, drop, Option, Some, None, Result, Ok, Err, refl, sym, ◌∙◌, ap, subst, inl, inr, append_assoc, append-nil}
use Rattle.sdc_base.specs.declared.memory.At.{At}
use Rattle.sdc_base.specs.declared.whole.TheConstants.{MOST_BYTES}
use Rattle.sdc_base.specs.Files.{Reading, bytes_of, ReadsWhole}
use Rattle.sdc_base.specs.declared.outside.NamedBytes.{NamedBytes}
use Rattle.sdc_model.specs.declared.answers.Status.{Status}
use Rattle.sdc_model.specs.declared.answers.Status.TheVariants as status
use Rattle.sdc_model.specs.declared.command_lines.CommandLine.{CommandLine}
use Rattle.source_types.specs.declared.kinds.Fault.{Fault}
use Rattle.source_types.specs.declared.kinds.Kind.{Kind}
use Rattle.timing_types.specs.declared.modes.Mode.{Mode}
use Rattle.sdc_model.specs.ModeFiles.{SayModes, SaysFile, fault_of, with_first}
use Rattle.mode_model.specs.ModeMeaning.{Said}
use Rattle.sdc_cli.proofs.HostSteps.{limit_after}
use Rattle.sdc_model.specs.Answers.{OnContents, FailsReading, files_of, first_place, most_clocks}
use Rattle.sdc_cli.specs.ModeBytes.{SaysAtMost}
use Rattle.sdc_cli.specs.Steps.{ReadsMode, ReadsModes}

-- what the bytes of a file say, in the words of all files
file_says : (most count : ℕ) (bytes : List ℕ) (outcome : Said) → count ≤ most → length bytes ≤ MOST_BYTES → SaysAtMost (most - count) bytes outcome
    → SaysFile most count bytes outcome
file_says most count bytes outcome within short says = inr (short, (says.0, says.1, says.2 ∙ limit_after most count says.0 within))

-- and where the file was read whole
pub told_mode : (most count place : ℕ) (name bytes : List ℕ) (mode : Mode) (before after : Option Reading)
    → count ≤ most → ReadsWhole name (Ok bytes) before after → SaysAtMost (most - count) bytes (Ok mode)
    → OnContents (ReadsMode most count place name (Ok mode)) before after
told_mode most count place name bytes mode None None within whole says = tt
told_mode most count place name bytes mode None (Some after) within whole says = whole
told_mode most count place name bytes mode (Some before) None within whole says = whole
told_mode most count place name bytes mode (Some before) (Some after) within whole says =
    (whole.0, whole.1, file_says most count (bytes_of before.files name) (Ok mode) within whole.2.1 (subst (λ (b : List ℕ). SaysAtMost (most - count) b (Ok mode)) whole.2.0 says))

pub told_fault : (most count place : ℕ) (name bytes : List ℕ) (fault : At Kind) (before after : Option Reading)
    → count ≤ most → ReadsWhole name (Ok bytes) before after → SaysAtMost (most - count) bytes (Err fault)
    → OnContents (ReadsMode most count place name (Err (status.Source (record { file = place; line = fault.line; kind = fault.kind })))) before after
told_fault most count place name bytes fault None None within whole says = tt
told_fault most count place name bytes fault None (Some after) within whole says = whole
told_fault most count place name bytes fault (Some before) None within whole says = whole
told_fault most count place name bytes fault (Some before) (Some after) within whole says =
    (whole.0, refl, file_says most count (bytes_of before.files name) (Err fault) within whole.2.1 (subst (λ (b : List ℕ). SaysAtMost (most - count) b (Err fault)) whole.2.0 says))

-- modes in front of what other files say
abbrev pub in_front : List Mode → Result (List Mode) Fault → Result (List Mode) Fault
in_front modes (Ok others) = Ok (modes ++ others)
in_front modes (Err fault) = Err fault

in_front-push : (modes : List Mode) (mode : Mode) (outcome : Result (List Mode) Fault) → in_front modes (with_first mode outcome) ≡ in_front (modes ++ mode ∷ []) outcome
in_front-push modes mode (Ok others) = ap (λ (all : List Mode). Ok all) (sym (append_assoc modes (mode ∷ []) others))
in_front-push modes mode (Err fault) = refl

-- After `at` files of these names, which said these modes with so many clocks, the next one at a place of the words:
-- whatever the other files say completes what all say, and where the read of another one fails, the read of all fails
-- there.
pub record ReadSoFar (most first : ℕ) (names : List (List ℕ)) (at place count : ℕ) (modes : List Mode) (before now : Reading) : Type 0 where
  pub files : now.files ≡ before.files
  pub say : (outcome : Result (List Mode) Fault) → SayModes most before.files place count (drop at names) outcome
      → SayModes most before.files first 0 names (in_front modes outcome)
  pub fails : (failed : ℕ) (begun : Option (List ℕ)) → FailsReading most before.files place count now.begun (drop at names) failed begun
      → FailsReading most before.files first 0 before.begun names failed begun

-- one more mode
more_read : (most first : ℕ) (names : List (List ℕ)) (name : List ℕ) (at place next count : ℕ) (modes : List Mode) (mode : Mode) (before now after : Reading)
    → drop at names ≡ name ∷ drop (at + 1) names → next ≡ suc place
    → ReadSoFar most first names at place count modes before now → ReadsMode most count place name (Ok mode) now after
    → ReadSoFar most first names (at + 1) next (count + length mode.clocks) (modes ++ mode ∷ []) before after
more_read most first names name at place next count modes mode before now after here e so_far reads =
    let says : SaysFile most count (bytes_of before.files name) (Ok mode) = subst (λ (files : List NamedBytes). SaysFile most count (bytes_of files name) (Ok mode)) so_far.files reads.2 in
    record {
      files = reads.0 ∙ so_far.files;
      say = λ outcome others.
          let there : SayModes most before.files (suc place) (count + length mode.clocks) (drop (at + 1) names) outcome =
          subst (λ (n : ℕ). SayModes most before.files n (count + length mode.clocks) (drop (at + 1) names) outcome) e others in
          let all = so_far.say (with_first mode outcome) (subst (λ (left : List (List ℕ)). SayModes most before.files place count left (with_first mode outcome)) (sym here) (Ok mode, says, (outcome, there, refl))) in
          subst (SayModes most before.files first 0 names) (in_front-push modes mode outcome) all;
      fails = λ failed begun others.
          let from_here : FailsReading most before.files next (count + length mode.clocks) (Some name) (drop (at + 1) names) failed begun =
          subst (λ (b : Option (List ℕ)). FailsReading most before.files next (count + length mode.clocks) b (drop (at + 1) names) failed begun) reads.1 others in
          let there : FailsReading most before.files (suc place) (count + length mode.clocks) (Some name) (drop (at + 1) names) failed begun =
          subst (λ (n : ℕ). FailsReading most before.files n (count + length mode.clocks) (Some name) (drop (at + 1) names) failed begun) e from_here in
          so_far.fails failed begun (subst (λ (left : List (List ℕ)). FailsReading most before.files place count now.begun left failed begun) (sym here) (inr (mode, says, there)));
    }

pub ReadSoFar-more : (most first : ℕ) (names : List (List ℕ)) (name : List ℕ) (at place next count : ℕ) (modes : List Mode) (mode : Mode) (before now after : Option Reading)
    → drop at names ≡ name ∷ drop (at + 1) names → next ≡ suc place
    → OnContents (ReadSoFar most first names at place count modes) before now → OnContents (ReadsMode most count place name (Ok mode)) now after
    → OnContents (ReadSoFar most first names (at + 1) next (count + length mode.clocks) (modes ++ mode ∷ [])) before after
ReadSoFar-more most first names name at place next count modes mode None None None here e so_far reads = tt
ReadSoFar-more most first names name at place next count modes mode None None (Some after) here e so_far reads = reads
ReadSoFar-more most first names name at place next count modes mode None (Some now) after here e so_far reads = absurd so_far
ReadSoFar-more most first names name at place next count modes mode (Some before) None after here e so_far reads = absurd so_far
ReadSoFar-more most first names name at place next count modes mode (Some before) (Some now) None here e so_far reads = reads
ReadSoFar-more most first names name at place next count modes mode (Some before) (Some now) (Some after) here e so_far reads =
    more_read most first names name at place next count modes mode before now after here e so_far reads

-- what stops the reading of one file stops the reading of all
stops : (line : CommandLine) (name : List ℕ) (at place count : ℕ) (modes : List Mode) (answer : Status) (before now after : Reading)
    → drop at (files_of line) ≡ name ∷ drop (at + 1) (files_of line)
    → ReadSoFar (most_clocks line) (first_place line) (files_of line) at place count modes before now
    → ReadsMode (most_clocks line) count place name (Err answer) now after
    → ReadsModes line (Err answer) before after
stops line name at place count modes (status.Source fault) before now after here so_far reads =
    let at_line : At Kind = record { line = fault.line; kind = fault.kind } in
    let says : SaysFile (most_clocks line) count (bytes_of before.files name) (Err at_line) =
    subst (λ (files : List NamedBytes). SaysFile (most_clocks line) count (bytes_of files name) (Err at_line)) so_far.files reads.2 in
    let same : Err fault ≡ Err (fault_of place at_line) = ap (λ n. Err (record { file = n; line = fault.line; kind = fault.kind })) reads.1 in
    (reads.0 ∙ so_far.files, so_far.say (Err fault) (subst (λ (left : List (List ℕ)). SayModes (most_clocks line) before.files place count left (Err fault)) (sym here) (Err at_line, says, same)))
stops line name at place count modes (status.ReadFault failed) before now after here so_far reads =
    (reads.0 ∙ so_far.files, so_far.fails failed after.begun (subst (λ (left : List (List ℕ)). FailsReading (most_clocks line) before.files place count now.begun left failed after.begun) (sym here) (inl (reads.1, reads.2))))
stops line name at place count modes status.Done before now after here so_far reads = reads ∙ so_far.files
stops line name at place count modes status.Findings before now after here so_far reads = reads ∙ so_far.files
stops line name at place count modes status.Usage before now after here so_far reads = reads ∙ so_far.files
stops line name at place count modes status.WriteFault before now after here so_far reads = reads ∙ so_far.files
stops line name at place count modes status.NoMemory before now after here so_far reads = reads ∙ so_far.files
stops line name at place count modes (status.Loop cycle) before now after here so_far reads = reads ∙ so_far.files
stops line name at place count modes (status.Conflict pin source passing) before now after here so_far reads = reads ∙ so_far.files
stops line name at place count modes (status.Budget classes) before now after here so_far reads = reads ∙ so_far.files
stops line name at place count modes (status.TooLarge bytes) before now after here so_far reads = reads ∙ so_far.files

pub ReadSoFar-stops : (line : CommandLine) (name : List ℕ) (at place count : ℕ) (modes : List Mode) (answer : Status) (before now after : Option Reading)
    → drop at (files_of line) ≡ name ∷ drop (at + 1) (files_of line)
    → OnContents (ReadSoFar (most_clocks line) (first_place line) (files_of line) at place count modes) before now
    → OnContents (ReadsMode (most_clocks line) count place name (Err answer)) now after
    → OnContents (ReadsModes line (Err answer)) before after
ReadSoFar-stops line name at place count modes answer None None None here so_far reads = tt
ReadSoFar-stops line name at place count modes answer None None (Some after) here so_far reads = reads
ReadSoFar-stops line name at place count modes answer None (Some now) after here so_far reads = absurd so_far
ReadSoFar-stops line name at place count modes answer (Some before) None after here so_far reads = absurd so_far
ReadSoFar-stops line name at place count modes answer (Some before) (Some now) None here so_far reads = reads
ReadSoFar-stops line name at place count modes answer (Some before) (Some now) (Some after) here so_far reads =
    stops line name at place count modes answer before now after here so_far reads

-- where no file is left, all files say the modes
pub ReadSoFar-all : (line : CommandLine) (at place count : ℕ) (modes : List Mode) (before now : Option Reading)
    → drop at (files_of line) ≡ []
    → OnContents (ReadSoFar (most_clocks line) (first_place line) (files_of line) at place count modes) before now
    → OnContents (ReadsModes line (Ok modes)) before now
ReadSoFar-all line at place count modes None None none so_far = tt
ReadSoFar-all line at place count modes None (Some now) none so_far = so_far
ReadSoFar-all line at place count modes (Some before) None none so_far = so_far
ReadSoFar-all line at place count modes (Some before) (Some now) none so_far = (
  so_far.files,
  subst (λ (all : List Mode). SayModes (most_clocks line) before.files (first_place line) 0 (files_of line) (Ok all)) (append-nil modes)
      (so_far.say (Ok []) (subst (λ (left : List (List ℕ)). SayModes (most_clocks line) before.files place count left (Ok [])) (sym none) refl)),
)
