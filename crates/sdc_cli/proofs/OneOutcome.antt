-- Each step of reading mode files has one outcome, and so has the whole.
use Rattle.std.proofs.Common.{◌≡◌, ◌∙◌, ◌≤◌, ◌<◌, ◌+◌, ℕ, List, [], ◌∷◌, Result, Ok, Err, inl, inr, length, suc, sym, ap, subst, arith}
use Rattle.sdc_base.specs.declared.outside.NamedBytes.{NamedBytes}
use Rattle.sdc_base.specs.declared.whole.TheConstants.{MOST_BYTES}
use Rattle.sdc_base.specs.Files.{bytes_of}
use Rattle.sdc_model.specs.declared.command_lines.CommandLine.{CommandLine}
use Rattle.source_types.specs.declared.kinds.Fault.{Fault}
use Rattle.timing_types.specs.declared.modes.Mode.{Mode}
use Rattle.sdc_model.specs.Answers.{files_of, first_place, most_clocks}
use Rattle.sdc_model.specs.ModeFiles.{Continues, SayModes, SaysFile, with_first, within_limit}
use Rattle.mode_model.specs.ModeMeaning.{Said, SaysMode, SaysText, said_of}
use Rattle.sdc_cli.specs.Laws.{HasOneOutcome}
use Rattle.mode_model.specs.ClockFile.{nothing}
use Rattle.mode_model.specs.ModeHost.{Answer, IsAnswered, answer, mode_host}
use Rattle.tcl_eval.proofs.OneRun.{run_once}
use Rattle.tcl_eval.specs.Laws.{HostIsOne, IsOne}

-- ---- the host

answered_one : (contents : Answer) → IsOne (IsAnswered contents)
answered_one (Ok contents) before a b x y t u = (t.0 ∙ sym u.0, t.1 ∙ sym u.1)
answered_one (Err kind) before a b x y t u = (t.0 ∙ sym u.0, t.1 ∙ sym u.1)

host_one : HostIsOne mode_host
host_one line name words before (Ok a) (Ok b) x y t u = answered_one (answer before line name words) before (Ok a) (Ok b) x y t u
host_one line name words before (Ok a) (Err b) x y t u = answered_one (answer before line name words) before (Ok a) (Err b) x y t u.0
host_one line name words before (Err a) (Ok b) x y t u = answered_one (answer before line name words) before (Err a) (Ok b) x y t.0 u
host_one line name words before (Err a) (Err b) x y t u = answered_one (answer before line name words) before (Err a) (Err b) x y t.0 u.0

-- ---- files

text_once : (text : List ℕ) (r s : Said) → SaysText text r → SaysText text s → r ≡ s
text_once text r s p q =
    let same = run_once mode_host host_one text nothing p.0 q.0 p.1 q.1 p.2 q.2 in
    p.3 ∙ ap (λ contents. said_of contents p.1) same.0 ∙ ap (λ so_far. said_of q.0 so_far) same.1 ∙ sym q.3

says_once : (bytes : List ℕ) (r s : Said) → SaysMode bytes r → SaysMode bytes s → r ≡ s
says_once bytes r s (inl p) (inl q) = text_once bytes r s p.1 q.1
says_once bytes r s (inl p) (inr q) = absurd (q.0 p.0)
says_once bytes r s (inr p) (inl q) = absurd (p.0 q.0)
says_once bytes r s (inr p) (inr q) = p.1 ∙ sym q.1

too_long : (n : ℕ) → MOST_BYTES < n → n ≤ MOST_BYTES → ⊥
too_long n long short = omega (arith, long, short)

file_once : (most count : ℕ) (bytes : List ℕ) (r s : Said) → SaysFile most count bytes r → SaysFile most count bytes s → r ≡ s
file_once most count bytes r s (inl p) (inl q) = p.1 ∙ sym q.1
file_once most count bytes r s (inl p) (inr q) = absurd (too_long (length bytes) p.0 q.0)
file_once most count bytes r s (inr p) (inl q) = absurd (too_long (length bytes) q.0 p.0)
file_once most count bytes r s (inr p) (inr q) =
    p.1.2 ∙ ap (within_limit most count) (says_once bytes p.1.0 q.1.0 p.1.1 q.1.1) ∙ sym q.1.2

goes_on_once : (place : ℕ) (file : Said) (Others : Mode → Result (List Mode) Fault → Type 0)
    → ((mode : Mode) (r s : Result (List Mode) Fault) → Others mode r → Others mode s → r ≡ s)
    → (r s : Result (List Mode) Fault) → Continues place file Others r → Continues place file Others s → r ≡ s
goes_on_once place (Err fault) Others once r s p q = p ∙ sym q
goes_on_once place (Ok mode) Others once r s p q = p.2 ∙ ap (with_first mode) (once mode p.0 q.0 p.1 q.1) ∙ sym q.2

modes_once : (most : ℕ) (files : List NamedBytes) (place count : ℕ) (names : List (List ℕ)) (r s : Result (List Mode) Fault)
    → SayModes most files place count names r → SayModes most files place count names s → r ≡ s
modes_once most files place count [] r s p q = p ∙ sym q
modes_once most files place count (name ∷ names) r s p q =
    let Others : Mode → Result (List Mode) Fault → Type 0 = λ mode. SayModes most files (suc place) (count + length mode.clocks) names in
    let same = file_once most count (bytes_of files name) q.0 p.0 q.1 p.1 in
    let second = subst (λ (file : Said). Continues place file Others s) same q.2 in
    goes_on_once place p.0 Others (λ mode. modes_once most files (suc place) (count + length mode.clocks) names) r s p.2 second

pub line_once : (line : CommandLine) (files : List NamedBytes) → HasOneOutcome line files
line_once line files r s p q = modes_once (most_clocks line) files (first_place line) 0 (files_of line) r s p q
