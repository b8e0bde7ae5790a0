-- What the lines of the header and of clocks do to the clocks and groups that were said so far.
use Rattle.std.proofs.Common.{◌≡◌, ◌<◌, ◌≤◌, ◌+◌, ◌||◌, ℕ, pos, Bool, true, false, cond, List, [], ◌∷◌, ◌++◌, length, length-append, map, codes, nat_lt, Ok, Some, Option, refl, sym, ◌∙◌, ap, subst, append_assoc, append-nil, arith}
use Rattle.std.proofs.lemmas.Bool.Decides.{nat_tests}
use Rattle.std.proofs.lemmas.List.{length-map, map-append}
use Rattle.sdc_base.proofs.CaseFacts.{by_bool}
use Rattle.sdc_base.specs.Time.{time_text_of}
use Rattle.source_types.specs.declared.built_ins.CommandName.TheVariants as command
use Rattle.timing_types.specs.declared.clocks.Clock.{Clock}
use Rattle.timing_types.specs.declared.clocks.Wave.{Wave}
use Rattle.source_types.specs.declared.commands.Part.TheVariants as part
use Rattle.timing_types.specs.declared.objects.Value.TheVariants as value
use Rattle.tcl_model.specs.BuiltIns.{no_text}
use Rattle.mode_model.specs.ClockCommands.{clock_waved, most_file_clocks}
use Rattle.mode_model.specs.ClockFile.{SoFar, is_name, is_taken, virtual_clock, wave_given}
use Rattle.mode_model.specs.ModeHost.{adds_clock, answer, mode_host}
use Rattle.tcl_model.specs.NamedCommands.{named}
use Rattle.constraint_model.specs.ModeLines.{without_line}
use Rattle.mode_model.specs.PrintedCommands.{word_of}
use Rattle.mode_model.specs.PrintedFile.{ArePrintableClocks, clock_line, clock_lines, header_lines, lines_of_form, unit_text}
use Rattle.constraint_model.specs.ClockWaves.{IsPrintableWave}
use Rattle.mode_model.specs.PrintedLine.{PrintedWord, bare, braced, is_bare_text, name_word, spaced}
use Rattle.tcl_model.specs.ScriptRun.{outermost}
use Rattle.tcl_model.specs.Variables.{with_variable}
use Rattle.text_model.specs.Words.{same_text}
use Rattle.sdc_print.proofs.LineRuns.{AreTexts, Goes, RunsLine, command_runs, goes_line, goes_none, goes_on, texts_call, texts_run, values_of, world}
use Rattle.sdc_print.proofs.WaveText.{ns, wave_text}

-- ---- the header, which leaves what was said so far

version_runs : (start : SoFar) (line : ℕ) → RunsLine start line (bare (codes "set") ∷ bare (codes "sdc_version") ∷ bare (codes "2.1") ∷ []) start
unfolding named
version_runs start line variables begun few =
    let words : List PrintedWord = bare (codes "set") ∷ bare (codes "sdc_version") ∷ bare (codes "2.1") ∷ [] in
    let texts : List (List ℕ) = codes "set" ∷ codes "sdc_version" ∷ codes "2.1" ∷ [] in (
      value.Text (codes "2.1"),
      with_variable variables (codes "sdc_version") (value.Text (codes "2.1")),
      begun + 1,
      omega arith,
      command_runs (outermost mode_host line) line (map word_of words) (values_of texts) variables start begun (world variables start (begun + 1)) (value.Text (codes "2.1"))
          (world (with_variable variables (codes "sdc_version") (value.Text (codes "2.1"))) start (begun + 1)) (omega arith)
          (texts_run (outermost mode_host line) words texts (world variables start (begun + 1)) (refl, (refl, (refl, tt)))) (refl, refl),
    )

units_other : named (codes "set_units") ≡ command.Other
unfolding named
units_other = refl

units_run : (start : SoFar) (line : ℕ) → RunsLine start line (bare (codes "set_units") ∷ bare (codes "-time") ∷ bare (codes "1ns") ∷ []) start
units_run start line =
    texts_call start start line (bare (codes "set_units") ∷ bare (codes "-time") ∷ bare (codes "1ns") ∷ []) (codes "set_units") (codes "-time" ∷ codes "1ns" ∷ []) no_text
    (refl, (refl, (refl, tt))) units_other refl

pub header_goes : (start : SoFar) (End : SoFar → Type 0) → End start → Goes start (header_lines (pos 1000000)) End
unfolding header_lines unit_text
header_goes start End e =
    goes_on start ((bare (codes "set") ∷ bare (codes "sdc_version") ∷ bare (codes "2.1") ∷ []) ∷ [])
    ((bare (codes "set_units") ∷ bare (codes "-time") ∷ bare (codes "1ns") ∷ []) ∷ []) End End
    (goes_line start (bare (codes "set") ∷ bare (codes "sdc_version") ∷ bare (codes "2.1") ∷ []) End (λ line. (start, e, version_runs start line)))
    (λ now m. goes_line now (bare (codes "set_units") ∷ bare (codes "-time") ∷ bare (codes "1ns") ∷ []) End (λ line. (now, m, units_run now line)))

-- ---- the line of a clock

clock_other : named (codes "create_clock") ≡ command.Other
unfolding named
clock_other = refl

-- the words after the name of the command
abbrev clock_texts : List ℕ → Wave → List (List ℕ)
clock_texts name wave =
    codes "-name" ∷ name ∷ codes "-period" ∷ time_text_of wave.period ns
    ∷ codes "-waveform" ∷ spaced (time_text_of wave.rise ns ∷ time_text_of wave.fall ns ∷ []) ∷ []

name_parts : (name : List ℕ) → (word_of (name_word name)).parts ≡ part.Text name ∷ []
unfolding name_word
name_parts name = by_bool (λ (b : Bool). (word_of (cond b (bare name) (braced name))).parts ≡ part.Text name ∷ []) (is_bare_text name) (λ _. refl) (λ _. refl)

clock_are_texts : (name : List ℕ) (wave : Wave) → AreTexts (clock_line ns name wave) (codes "create_clock" ∷ clock_texts name wave)
unfolding clock_line
clock_are_texts name wave = (refl, (refl, (name_parts name, (refl, (refl, (refl, (refl, tt)))))))

-- the words say the name, and the waveform of the texts of its times
answer_is : (start : SoFar) (line : ℕ) (name : List ℕ) (wave : Wave)
    → answer start line (codes "create_clock") (values_of (clock_texts name wave))
    ≡ adds_clock start (clock_waved start.clocks line name (wave_given (time_text_of wave.period ns) (Some (spaced (time_text_of wave.rise ns ∷ time_text_of wave.fall ns ∷ [])))))
answer_is start line name wave = refl

abbrev with_clock : SoFar → ℕ → List ℕ → Wave → SoFar
with_clock start line name wave = record start { clocks = start.clocks ++ virtual_clock line name wave ∷ [] }

with_new : (start : SoFar) (line : ℕ) (name : List ℕ) (wave : Wave) → is_name name ≡ true → is_taken name start.clocks ≡ false → length start.clocks < most_file_clocks
    → adds_clock start (clock_waved start.clocks line name (Some wave)) ≡ Ok (no_text, with_clock start line name wave)
with_new start line name wave is_one new few =
    let below : nat_lt (length start.clocks) most_file_clocks ≡ true = grind (arith, nat_tests) in
    rw (is_one, new, below) refl

clock_runs : (start : SoFar) (line : ℕ) (name : List ℕ) (wave : Wave) → IsPrintableWave wave → is_name name ≡ true → is_taken name start.clocks ≡ false → length start.clocks < most_file_clocks
    → RunsLine start line (clock_line ns name wave) (with_clock start line name wave)
clock_runs start line name wave w is_one new few =
    let answers : answer start line (codes "create_clock") (values_of (clock_texts name wave)) ≡ Ok (no_text, with_clock start line name wave) =
    answer_is start line name wave ∙ (ap (λ (o : Option Wave). adds_clock start (clock_waved start.clocks line name o)) (wave_text wave w).back ∙ with_new start line name wave is_one new few) in
    texts_call start (with_clock start line name wave) line (clock_line ns name wave) (codes "create_clock") (clock_texts name wave) no_text (clock_are_texts name wave) clock_other answers

-- ---- the lines of clocks

-- what was said so far: these clocks, apart from their lines, and these groups
pub record Said (all : List Clock) (parted : List (List (List ℕ))) (now : SoFar) : Type 0 where
  pub clocks : map without_line now.clocks ≡ map without_line all
  pub groups : now.groups ≡ parted

-- neither names nor numbers of clocks hang on the lines
taken_without_lines : (name : List ℕ) (clocks : List Clock) → is_taken name (map without_line clocks) ≡ is_taken name clocks
taken_without_lines name [] = refl
taken_without_lines name (clock ∷ clocks) = ap (λ (b : Bool). same_text clock.name name || b) (taken_without_lines name clocks)

taken_same : (name : List ℕ) (first second : List Clock) → map without_line first ≡ map without_line second → is_taken name first ≡ is_taken name second
taken_same name first second e = sym (taken_without_lines name first) ∙ (ap (is_taken name) e ∙ taken_without_lines name second)

pub count_same : (first second : List Clock) → map without_line first ≡ map without_line second → length first ≡ length second
count_same first second e = sym (length-map first without_line) ∙ (ap length e ∙ length-map second without_line)

clock_goes : (before : List Clock) (groups : List (List (List ℕ))) (clock : Clock) (wave : Wave) (start : SoFar) → clock ≡ virtual_clock clock.line clock.name wave → IsPrintableWave wave → is_name clock.name ≡ true
    → is_taken clock.name before ≡ false → length before < most_file_clocks → Said before groups start → Goes start (clock_line ns clock.name wave ∷ []) (Said (before ++ clock ∷ []) groups)
clock_goes before groups clock wave start e w is_one new few said =
    goes_line start (clock_line ns clock.name wave) (Said (before ++ clock ∷ []) groups) (λ line.
    let made : Clock = virtual_clock line clock.name wave in
    let same : map without_line (start.clocks ++ made ∷ []) ≡ map without_line (before ++ clock ∷ []) =
    map-append without_line start.clocks (made ∷ [])
    ∙ (ap (λ (cs : List Clock). cs ++ without_line made ∷ []) said.clocks
    ∙ (ap (λ (c : Clock). map without_line before ++ c ∷ []) (sym (ap without_line e)) ∙ sym (map-append without_line before (clock ∷ [])))) in
    let room : length start.clocks < most_file_clocks = omega (arith, count_same start.clocks before said.clocks, few) in (
      with_clock start line clock.name wave,
      record { clocks = same; groups = said.groups },
      clock_runs start line clock.name wave w is_one (taken_same clock.name start.clocks before said.clocks ∙ new) room,
    ))

pub line_of_form : (clock : Clock) (wave : Wave) → clock ≡ virtual_clock clock.line clock.name wave → lines_of_form ns clock.name clock.form ≡ clock_line ns clock.name wave ∷ []
line_of_form clock wave e = ap (λ (c : Clock). lines_of_form ns clock.name c.form) e

pub clock_lines_go : (clocks before : List Clock) (groups : List (List (List ℕ))) (start : SoFar) → ArePrintableClocks before clocks → length before + length clocks ≤ most_file_clocks → Said before groups start → Goes start (clock_lines ns clocks) (Said (before ++ clocks) groups)
clock_lines_go [] before groups start a few said = goes_none start (Said (before ++ []) groups) (subst (λ (cs : List Clock). Said cs groups start) (sym (append-nil before)) said)
clock_lines_go (clock ∷ clocks) before groups start a few said =
    let wave : Wave = a.0.0 in
    let first : Goes start (clock_line ns clock.name wave ∷ []) (Said (before ++ clock ∷ []) groups) = clock_goes before groups clock wave start a.0.1 a.0.2 a.0.3 a.1 (omega (arith, few)) said in
    let more : length (before ++ clock ∷ []) + length clocks ≤ most_file_clocks = omega (arith, length-append before (clock ∷ []), few) in
    goes_on start (lines_of_form ns clock.name clock.form) (clock_lines ns clocks) (Said (before ++ clock ∷ []) groups) (Said (before ++ (clock ∷ clocks)) groups)
    (subst (λ (lines : List (List PrintedWord)). Goes start lines (Said (before ++ clock ∷ []) groups)) (sym (line_of_form clock wave a.0.1)) first)
    (λ now next. subst (λ (cs : List Clock). Goes now (clock_lines ns clocks) (Said cs groups)) (append_assoc before (clock ∷ []) clocks)
    (clock_lines_go clocks (before ++ clock ∷ []) groups now a.2 more next))
