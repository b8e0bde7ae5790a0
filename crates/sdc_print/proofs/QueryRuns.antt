-- The scripts of printed queries for clocks, run: they give the clocks of their names, and leave what was said so far.
use Rattle.std.proofs.Common.{◌≡◌, ◌<◌, ◌+◌, ℕ, Bool, false, List, [], ◌∷◌, codes, map, Ok, Some, refl, sym, subst, lit<}
use Rattle.source_types.specs.declared.built_ins.CommandName.TheVariants as command
use Rattle.source_types.specs.declared.commands.Part.TheVariants as part
use Rattle.timing_types.specs.declared.objects.Value.{Value}
use Rattle.timing_types.specs.declared.objects.Value.TheVariants as value
use Rattle.text_model.specs.Bytes.{is_index}
use Rattle.mode_model.specs.ClockCommands.{in_order}
use Rattle.mode_model.specs.ClockFile.{SoFar}
use Rattle.mode_model.specs.ClockGroups.{places_of}
use Rattle.tcl_model.specs.Commands.{AreCommands}
use Rattle.tcl_model.specs.HostCalls.{World}
use Rattle.mode_model.specs.ModeHost.{answer, mode_host}
use Rattle.tcl_model.specs.NamedCommands.{named}
use Rattle.mode_model.specs.PrintedCommands.{AreSpelled, command_of, word_of}
use Rattle.mode_model.specs.PrintedLine.{PrintedWord, bare, list_word, spaced, words_text}
use Rattle.tcl_model.specs.ScriptRun.{Enters, RunsBracket, RunsCommand, RunsText, RunsWithin, most_commands, outermost}
use Rattle.tcl_model.specs.Variables.{Variable}
use Rattle.tcl_model.specs.WordValues.{Level, RunsWord}
use Rattle.sdc_print.proofs.CommandFacts.{words_are_command}
use Rattle.sdc_print.proofs.FileText.{AreItems, items_braced}
use Rattle.sdc_print.proofs.LineRuns.{call_runs, command_runs, level_at, one_command_runs, texts_run, values_of, world}
use Rattle.sdc_print.proofs.ListBack.{list_spaced}
use Rattle.sdc_print.proofs.NamePlaces.{objects_at}
use Rattle.sdc_print.proofs.PlainWords.{bare_is_word, braced_is_word}

-- the words of a query for names, and its script
abbrev query_words : List (List ℕ) → List PrintedWord
query_words names = bare (codes "get_clocks") ∷ list_word names ∷ []

abbrev pub script_of : List (List ℕ) → List ℕ
script_of names = words_text (query_words names)

query_words_spelled : (names : List (List ℕ)) → AreItems names → AreSpelled (query_words names)
query_words_spelled names a = (bare_is_word (codes "get_clocks") (lit< tt) refl, (braced_is_word (spaced names) (items_braced names a), tt))

query_stands : (names : List (List ℕ)) → AreItems names → AreCommands (command_of 1 (query_words names) ∷ []) (script_of names) 1
query_stands names a = words_are_command (query_words names) 1 (lit< tt) (query_words_spelled names a)

query_other : named (codes "get_clocks") ≡ command.Other
unfolding named
query_other = refl

-- the host finds the clocks of the names
query_answer : (start : SoFar) (line : ℕ) (names : List (List ℕ)) (places : List ℕ) → AreItems names → places_of start.clocks names ≡ Some places → in_order places ≡ places
    → answer start line (codes "get_clocks") (values_of (spaced names ∷ [])) ≡ Ok (value.Objects (objects_at places), start)
query_answer start line names places a found ordered = rw (list_spaced names a, found, ordered) refl

-- no query is an index
no_index : (names : List (List ℕ)) → is_index (script_of names) ≡ false
no_index names = refl

-- the level in a bracket of an outermost command
abbrev bracket_level : ℕ → Level SoFar
bracket_level line = level_at line 99 (Enters mode_host line 99)

query_runs : (start : SoFar) (line : ℕ) (variables : List Variable) (begun : ℕ) (names : List (List ℕ)) (places : List ℕ) → begun < most_commands → AreItems names
    → places_of start.clocks names ≡ Some places → in_order places ≡ places
    → RunsCommand (bracket_level line) (command_of 1 (query_words names)) (world variables start begun) (Ok (value.Objects (objects_at places))) (world variables start (begun + 1))
query_runs start line variables begun names places few a found ordered =
    command_runs (bracket_level line) 1 (map word_of (query_words names)) (values_of (codes "get_clocks" ∷ spaced names ∷ [])) variables start begun (world variables start (begun + 1))
    (value.Objects (objects_at places)) (world variables start (begun + 1)) few
    (texts_run (bracket_level line) (query_words names) (codes "get_clocks" ∷ spaced names ∷ []) (world variables start (begun + 1)) (refl, (refl, tt)))
    (call_runs line 99 (Enters mode_host line 99) (codes "get_clocks") (values_of (spaced names ∷ [])) variables start start (begun + 1) (value.Objects (objects_at places)) query_other
    (query_answer start line names places a found ordered))

-- the word of a query gives the clocks of its names
pub query_gives : (start : SoFar) (line : ℕ) (variables : List Variable) (begun : ℕ) (names : List (List ℕ)) (places : List ℕ) → begun < most_commands → AreItems names
    → places_of start.clocks names ≡ Some places → in_order places ≡ places
    → RunsWord (outermost mode_host line) 0 (part.Script (script_of names) ∷ []) (world variables start begun) (Ok (value.Objects (objects_at places))) (world variables start (begun + 1))
query_gives start line variables begun names places few a found ordered =
    let before : World SoFar = world variables start begun in
    let after : World SoFar = world variables start (begun + 1) in
    let given : Value = value.Objects (objects_at places) in
    let run : RunsText (RunsCommand (bracket_level line)) (script_of names) before (Ok given) after = (
      command_of 1 (query_words names) ∷ [],
      one_command_runs (RunsCommand (bracket_level line)) (command_of 1 (query_words names)) (record { text = script_of names; line = 1 }) (value.Text []) before after given
          (query_stands names a) (query_runs start line variables begun names places few a found ordered),
    ) in
    let within : RunsWithin (bracket_level line) (script_of names) before (Ok given) after = (Ok given, run, refl) in
    subst (λ (i : Bool). RunsBracket (bracket_level line) (script_of names) i before (Ok given) after) (sym (no_index names)) within
