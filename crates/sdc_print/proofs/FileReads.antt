-- A printed file, read again, says the mode that was printed.
use Rattle.std.proofs.Common.{◌≡◌, ◌≤◌, ◌*◌, inl, ℕ, ℤ, suc, List, [], ◌∷◌, ◌++◌, length, length-append, map, Ok, refl, sym, ◌∙◌, ap, subst, arith, append-nil}
use Rattle.timing_types.specs.declared.clocks.Clock.{Clock}
use Rattle.timing_types.specs.declared.clocks.Pair.{Pair}
use Rattle.timing_types.specs.declared.designs.Design.{Design}
use Rattle.timing_types.specs.declared.modes.Mode.{Mode}
use Rattle.timing_types.specs.declared.clocks.Form.{Form}
use Rattle.timing_types.specs.declared.clocks.Form.TheVariants.{Generated, Primary}
use Rattle.timing_types.specs.declared.objects.Value.TheVariants as value
use Rattle.mode_model.specs.ClockCommands.{most_file_clocks}
use Rattle.mode_model.specs.ClockFile.{SoFar, clock_mode, nothing, pairs_apart}
use Rattle.mode_model.specs.ModeHost.{mode_host}
use Rattle.mode_model.specs.ModeMeaning.{SaysMode}
use Rattle.constraint_model.specs.ModeLines.{without_line}
use Rattle.mode_model.specs.PrintedCommands.{commands_of}
use Rattle.mode_model.specs.PrintedFile.{IsPrintable, clock_lines, exclusive_to, group_lines, header_lines, lines_of_form, lines_of_group, names_at, printed_file, without_lines}
use Rattle.mode_model.specs.PrintedLine.{PrintedWord, lines_text}
use Rattle.tcl_model.specs.ScriptRun.{Runs, most_commands}
use Rattle.sdc_print.specs.FileLaw.{FileReadsBack}
use Rattle.sdc_print.proofs.ClockLines.{Said, clock_lines_go, count_same, header_goes}
use Rattle.sdc_print.proofs.CommandFacts.{lines_are_commands}
use Rattle.sdc_print.proofs.FileText.{AreFineLines, lines_are_text, lines_spelled, spelled_append}
use Rattle.sdc_print.proofs.GroupLines.{group_lines_go, groups_spelled}
use Rattle.sdc_print.proofs.GroupPairs.{exclusive_are, said_from}
use Rattle.sdc_print.proofs.LineRuns.{Goes, RunsLines, goes_on, lines_run}
use Rattle.sdc_print.proofs.PrintedFacts.{clocks_spelled, header_spelled}
use Rattle.sdc_print.proofs.WaveText.{ns}

-- the lines in nanoseconds
abbrev pub lines_in : ℤ → Mode → List (List PrintedWord)
lines_in unit mode = header_lines unit ++ (clock_lines unit mode.clocks ++ group_lines mode.clocks mode.exclusive 0 mode.clocks)

file_is : (design : Design) (mode : Mode) → design.unit ≡ ns → lines_text (lines_in ns mode) ≡ printed_file design mode
unfolding printed_file
file_is design mode e = ap (λ (unit : ℤ). lines_text (lines_in unit mode)) (sym e)

all_spelled : (design : Design) (mode : Mode) → IsPrintable design mode → AreFineLines (lines_in ns mode)
all_spelled design mode p =
    let clocks = clock_lines ns mode.clocks in
    let groups = group_lines mode.clocks mode.exclusive 0 mode.clocks in
    spelled_append (header_lines ns) (clocks ++ groups) header_spelled
    (spelled_append clocks groups (clocks_spelled mode.clocks [] p.clocks) (groups_spelled mode.clocks [] mode.clocks mode.exclusive 0 p.clocks p.clocks p.pairs))

-- there are two lines at most for each clock, and those of the header
few_of_form : (unit : ℤ) (name : List ℕ) (form : Form) → length (lines_of_form unit name form) ≤ 1
few_of_form unit name (Primary wave) = omega arith
few_of_form unit name (Generated source master shape invert) = omega arith

few_clock_lines : (unit : ℤ) (clocks : List Clock) → length (clock_lines unit clocks) ≤ length clocks
few_clock_lines unit [] = omega arith
few_clock_lines unit (clock ∷ clocks) =
    omega (arith, length-append (lines_of_form unit clock.name clock.form) (clock_lines unit clocks), few_of_form unit clock.name clock.form, few_clock_lines unit clocks)

few_of_group : (name : List ℕ) (others : List (List ℕ)) → length (lines_of_group name others) ≤ 1
few_of_group name [] = omega arith
few_of_group name (other ∷ others) = omega arith

few_group_lines : (all : List Clock) (pairs : List Pair) (place : ℕ) (clocks : List Clock) → length (group_lines all pairs place clocks) ≤ length clocks
few_group_lines all pairs place [] = omega arith
few_group_lines all pairs place (clock ∷ clocks) =
    let names = names_at all (exclusive_to place pairs) in
    omega (arith, length-append (lines_of_group clock.name names) (group_lines all pairs (suc place) clocks), few_of_group clock.name names, few_group_lines all pairs (suc place) clocks)

header_count : (unit : ℤ) → length (header_lines unit) ≡ 2
unfolding header_lines
header_count unit = refl

few_lines : (unit : ℤ) (mode : Mode) → length mode.clocks ≤ most_file_clocks → 3 * length (lines_in unit mode) ≤ most_commands
few_lines unit mode few =
    let clocks = clock_lines unit mode.clocks in
    let groups = group_lines mode.clocks mode.exclusive 0 mode.clocks in
    omega (
      arith,
      length-append (header_lines unit) (clocks ++ groups),
      length-append clocks groups,
      header_count unit,
      few_clock_lines unit mode.clocks,
      few_group_lines mode.clocks mode.exclusive 0 mode.clocks,
    )

-- all lines of a mode go to its clocks and its groups
all_go : (design : Design) (mode : Mode) → IsPrintable design mode → length mode.clocks ≤ most_file_clocks → Goes nothing (lines_in ns mode) (Said mode.clocks (said_from mode.exclusive 0 mode.clocks))
all_go design mode p few =
    let clocks = clock_lines ns mode.clocks in
    let groups = group_lines mode.clocks mode.exclusive 0 mode.clocks in
    let all = Said mode.clocks (said_from mode.exclusive 0 mode.clocks) in
    goes_on nothing (header_lines ns) (clocks ++ groups) (Said [] []) all (header_goes nothing (Said [] []) (record { clocks = refl; groups = refl }))
    (λ now said. goes_on now clocks groups (Said mode.clocks []) all (clock_lines_go mode.clocks [] [] now p.clocks (omega (arith, few)) said)
    (λ then next. group_lines_go mode.clocks [] mode.clocks mode.exclusive 0 [] then p.clocks p.clocks p.pairs refl refl next))

-- the mode of what was said is the mode, apart from the lines of its clocks
mode_of_clocks : List Clock → List Pair → Mode
mode_of_clocks clocks exclusive = record {
  clocks = clocks;
  exclusive = exclusive;
  cases = [];
  disabled = [];
  delays = [];
  exceptions = [];
  kept = [];
  notes = [];
}

says_same : (design : Design) (mode : Mode) (now : SoFar) → IsPrintable design mode → Said mode.clocks (said_from mode.exclusive 0 mode.clocks) now → without_lines (clock_mode now) ≡ without_lines mode
unfolding mode_of_clocks
says_same design mode now p said =
    let count : length now.clocks ≡ length mode.clocks = count_same now.clocks mode.clocks said.clocks in
    let pairs : pairs_apart (length now.clocks) now.groups ≡ mode.exclusive =
    ap (λ (n : ℕ). pairs_apart n now.groups) count
    ∙ (ap (pairs_apart (length mode.clocks)) said.groups ∙ exclusive_are mode.clocks mode.exclusive p.pairs) in
    ap (λ (cs : List Clock). mode_of_clocks cs (pairs_apart (length now.clocks) now.groups)) said.clocks
    ∙ (ap (mode_of_clocks (map without_line mode.clocks)) pairs ∙ sym (ap without_lines p.alone))

-- lines that go to something are run as a file
file_runs : (lines : List (List PrintedWord)) (End : SoFar → Type 0) → AreFineLines lines → 3 * length lines ≤ most_commands → Goes nothing lines End
    → (now : SoFar) × End now × Runs mode_host (lines_text lines) nothing (Ok tt) now
file_runs lines End s few goes =
    let all = goes 1 [] in
    let runs : RunsLines nothing 1 lines all.0 = subst (λ (ls : List (List PrintedWord)). RunsLines nothing 1 ls all.0) (append-nil lines) (all.3 all.0 refl) in
    let run = lines_run lines 1 (record { text = lines_text lines; line = 1 }) (value.Text []) nothing all.0 [] 0 (lines_are_commands lines 1 (lines_spelled lines s)) runs (omega (arith, few)) in
    (all.0, all.2, (Ok run.0, run.1, (commands_of 1 lines, run.3), refl, sym run.2))

pub reads_back : (design : Design) (mode : Mode) → FileReadsBack design mode
reads_back design mode p e few =
    let fine : AreFineLines (lines_in ns mode) = all_spelled design mode p in
    let run = file_runs (lines_in ns mode) (Said mode.clocks (said_from mode.exclusive 0 mode.clocks)) fine (few_lines ns mode few) (all_go design mode p few) in
    let says : SaysMode (lines_text (lines_in ns mode)) (Ok (clock_mode run.0)) = inl (lines_are_text (lines_in ns mode) fine, (Ok tt, run.0, run.2, refl)) in
    (clock_mode run.0, subst (λ (bytes : List ℕ). SaysMode bytes (Ok (clock_mode run.0))) (file_is design mode e) says, says_same design mode run.0 p run.1)
