-- How printed lines are run over the host of mode files: their words, their commands, and lines one after the other.
use Rattle.std.proofs.Common.{◌≡◌, ◌<◌, ◌≤◌, ◌+◌, ◌*◌, inl, ℕ, List, [], ◌∷◌, ◌++◌, length, map, None, Ok, refl, sym, subst, arith, append_assoc}
use Rattle.source_types.specs.declared.built_ins.CommandName.{CommandName}
use Rattle.source_types.specs.declared.built_ins.CommandName.TheVariants as command
use Rattle.source_types.specs.declared.commands.Command.{Command}
use Rattle.source_types.specs.declared.commands.Part.{Part}
use Rattle.source_types.specs.declared.commands.Part.TheVariants as part
use Rattle.source_types.specs.declared.commands.Word.{Word}
use Rattle.timing_types.specs.declared.objects.Value.{Value}
use Rattle.timing_types.specs.declared.objects.Value.TheVariants as value
use Rattle.text_model.specs.Bytes.{line_after}
use Rattle.mode_model.specs.ClockFile.{SoFar}
use Rattle.tcl_model.specs.Commands.{Place, StandsCommand}
use Rattle.tcl_model.specs.ExpressionRun.{RunStep}
use Rattle.tcl_model.specs.HostCalls.{World}
use Rattle.mode_model.specs.ModeHost.{Answer, IsAnswered, answer, mode_host}
use Rattle.tcl_model.specs.NamedCommands.{RunsNamed, RunsValues, named}
use Rattle.mode_model.specs.PrintedCommands.{command_of, commands_of, word_of}
use Rattle.mode_model.specs.PrintedLine.{PrintedWord, line_text}
use Rattle.text_model.specs.Row.{Row}
use Rattle.tcl_model.specs.ScriptRun.{RunsCommand, RunsCommands, most_commands, outermost}
use Rattle.tcl_model.specs.Variables.{Variable}
use Rattle.tcl_model.specs.WordValues.{Level, Opened, RunsWord, RunsWords}

-- a world of a mode file
abbrev pub world : List Variable → SoFar → ℕ → World SoFar
world variables host begun = record { variables = variables; host = host; begun = begun }

-- what opens levels, and a level over the host of mode files
abbrev pub Opening : Type 1
Opening = ℕ → Opened → RunStep (World SoFar) Value

abbrev pub level_at : ℕ → ℕ → Opening → Level SoFar
level_at line left opens = record { host = mode_host; line = line; left = left; Opens = opens }

-- ---- words

-- a word that is one text gives it
pub text_runs : (level : Level SoFar) (parts : List Part) (text : List ℕ) (now : World SoFar) → parts ≡ part.Text text ∷ [] → RunsWord level 0 parts now (Ok (value.Text text)) now
text_runs level parts text now e = subst (λ (ps : List Part). RunsWord level 0 ps now (Ok (value.Text text)) now) (sym e) (refl, refl)

-- one more word before others
pub word_runs : (level : Level SoFar) (word : Word) (words : List Word) (given : Value) (others : List Value) (before between after : World SoFar)
    → RunsWord level 0 word.parts before (Ok given) between → RunsWords level words between (Ok others) after → RunsWords level (word ∷ words) before (Ok (given ∷ others)) after
word_runs level word words given others before between after first rest = (Ok given, between, first, (Ok others, after, rest, (refl, refl)))

-- words that are one text each
abbrev pub AreTexts : List PrintedWord → List (List ℕ) → Type 0
AreTexts [] [] = Unit {0}
AreTexts (word ∷ words) (text ∷ texts) = ((word_of word).parts ≡ part.Text text ∷ []) × AreTexts words texts
AreTexts _ _ = ⊥

abbrev pub values_of : List (List ℕ) → List Value
values_of texts = map value.Text texts

pub texts_run : (level : Level SoFar) (words : List PrintedWord) (texts : List (List ℕ)) (now : World SoFar) → AreTexts words texts → RunsWords level (map word_of words) now (Ok (values_of texts)) now
texts_run level [] [] now a = (refl, refl)
texts_run level [] (text ∷ texts) now a = absurd a
texts_run level (word ∷ words) [] now a = absurd a
texts_run level (word ∷ words) (text ∷ texts) now a =
    word_runs level (word_of word) (map word_of words) (value.Text text) (values_of texts) now now now
    (text_runs level (word_of word).parts text now a.0) (texts_run level words texts now a.1)

-- ---- commands

-- a call that the host answers
pub call_runs : (line left : ℕ) (opens : Opening) (name : List ℕ) (arguments : List Value) (variables : List Variable) (start now : SoFar) (begun : ℕ) (given : Value)
    → named name ≡ command.Other → answer start line name arguments ≡ Ok (given, now)
    → RunsValues (level_at line left opens) (value.Text name ∷ arguments) (world variables start begun) (Ok given) (world variables now begun)
call_runs line left opens name arguments variables start now begun given other answers =
    let answered : IsAnswered (answer start line name arguments) start (Ok given) now = subst (λ (r : Answer). IsAnswered r start (Ok given) now) (sym answers) (refl, refl) in
    subst (λ (c : CommandName). RunsNamed (level_at line left opens) c name arguments (world variables start begun) (Ok given) (world variables now begun)) (sym other) (answered, refl)

-- words, and then the command that they are
pub command_runs : (level : Level SoFar) (line : ℕ) (words : List Word) (values : List Value) (variables : List Variable) (start : SoFar) (begun : ℕ) (between : World SoFar) (given : Value) (after : World SoFar)
    → begun < most_commands → RunsWords level words (world variables start (begun + 1)) (Ok values) between → RunsValues level values between (Ok given) after
    → RunsCommand level (record { line = line; words = words }) (world variables start begun) (Ok given) after
command_runs level line words values variables start begun between given after few all does = inl (few, (Ok values, between, all, does))

-- ---- lines

-- a line is run from what was said so far, and leaves something else said; it begins three commands at most
abbrev pub RunsLine : SoFar → ℕ → List PrintedWord → SoFar → Type 0
RunsLine start line words now =
    (variables : List Variable) (begun : ℕ) → begun + 3 ≤ most_commands →
    (given : Value) × (kept : List Variable) × (count : ℕ) × (count ≤ begun + 3)
    × RunsCommand (outermost mode_host line) (command_of line words) (world variables start begun) (Ok given) (world kept now count)

-- a line of texts that is a call of the host
pub texts_call : (start now : SoFar) (line : ℕ) (words : List PrintedWord) (name : List ℕ) (texts : List (List ℕ)) (given : Value)
    → AreTexts words (name ∷ texts) → named name ≡ command.Other → answer start line name (values_of texts) ≡ Ok (given, now) → RunsLine start line words now
texts_call start now line words name texts given are other answers variables begun few =
    let run : RunsCommand (outermost mode_host line) (command_of line words) (world variables start begun) (Ok given) (world variables now (begun + 1)) =
    command_runs (outermost mode_host line) line (map word_of words) (values_of (name ∷ texts)) variables start begun (world variables start (begun + 1)) given (world variables now (begun + 1)) (omega arith)
    (texts_run (outermost mode_host line) words (name ∷ texts) (world variables start (begun + 1)) are)
    (call_runs line (outermost mode_host line).left (outermost mode_host line).Opens name (values_of texts) variables start now (begun + 1) given other answers) in
    (given, variables, begun + 1, omega arith, run)

-- lines are run one after the other
abbrev pub RunsLines : SoFar → ℕ → List (List PrintedWord) → SoFar → Type 0
RunsLines start line [] now = now ≡ start
RunsLines start line (words ∷ lines) now =
    (next : SoFar) × RunsLine start line words next × RunsLines next (line_after (line_text words) line) lines now

-- from what was said so far, lines go to something of a kind, whatever comes after them
abbrev pub Goes : SoFar → List (List PrintedWord) → (SoFar → Type 0) → Type 0
Goes start lines End =
    (line : ℕ) (rest : List (List PrintedWord)) →
    (now : SoFar) × (later : ℕ) × End now × ((last : SoFar) → RunsLines now later rest last → RunsLines start line (lines ++ rest) last)

pub goes_none : (start : SoFar) (End : SoFar → Type 0) → End start → Goes start [] End
goes_none start End e line rest = (start, line, e, λ last runs. runs)

pub goes_line : (start : SoFar) (words : List PrintedWord) (End : SoFar → Type 0) → ((line : ℕ) → (now : SoFar) × End now × RunsLine start line words now) → Goes start (words ∷ []) End
goes_line start words End f line rest = let d = f line in (d.0, line_after (line_text words) line, d.1, λ last runs. (d.0, d.2, runs))

pub goes_on : (start : SoFar) (first second : List (List PrintedWord)) (Mid End : SoFar → Type 0) → Goes start first Mid → ((now : SoFar) → Mid now → Goes now second End) → Goes start (first ++ second) End
goes_on start first second Mid End f g line rest =
    let a = f line (second ++ rest) in
    let b = g a.0 a.2 a.1 rest in
    (b.0, b.1, b.2, λ last runs. subst (λ (lines : List (List PrintedWord)). RunsLines start line lines last) (sym (append_assoc first second rest)) (a.3 last (b.3 last runs)))

-- ---- scripts

-- each command by the level of its line
abbrev pub Outermost : Command → RunStep (World SoFar) Value
Outermost one = RunsCommand (outermost mode_host one.line) one

-- lines that are the commands from a place on are run from there
pub lines_run : (lines : List (List PrintedWord)) (line : ℕ) (place : Place) (last : Value) (start now : SoFar) (variables : List Variable) (begun : ℕ)
    → Row StandsCommand (commands_of line lines) place None → RunsLines start line lines now → begun + 3 * length lines ≤ most_commands
    → (given : Value) × (after : World SoFar) × (after.host ≡ now) × RunsCommands Outermost (commands_of line lines) place last (world variables start begun) (Ok given) after
lines_run [] line place last start now variables begun row runs few = (last, world variables start begun, sym runs, (None, row, refl, refl))
lines_run (words ∷ lines) line place last start now variables begun row runs few =
    let here = runs.1 variables begun (omega arith) in
    let others = lines_run lines (line_after (line_text words) line) row.0 here.0 runs.0 now here.1 here.2 row.2 runs.2 (omega arith) in
    (others.0, others.1, others.2, (row.0, row.1, (Ok here.0, world here.1 runs.0 here.2, here.4, others.3)))

-- a script of one command
pub one_command_runs : (Does : Command → RunStep (World SoFar) Value) (one : Command) (place : Place) (last : Value) (before after : World SoFar) (given : Value)
    → Row StandsCommand (one ∷ []) place None → Does one before (Ok given) after → RunsCommands Does (one ∷ []) place last before (Ok given) after
one_command_runs Does one place last before after given row does = (row.0, row.1, (Ok given, after, does, (None, row.2, refl, refl)))
