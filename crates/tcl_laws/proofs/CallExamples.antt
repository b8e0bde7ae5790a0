-- Calls of the host by example: a script in a bracket is run before the command around it, and the calls of both have
-- the line of the outermost command.
use Rattle.std.proofs.Common.{refl, inl, arith}
use Rattle.std.specs.Prelude.{◌≡◌, ◌++◌, ◌<◌, ℕ, List, [], ◌∷◌, None, Ok, codes}
use Rattle.source_types.specs.declared.commands.Command.{Command}
use Rattle.source_types.specs.declared.commands.Part.TheVariants as part
use Rattle.source_types.specs.declared.commands.Word.{Word}
use Rattle.timing_types.specs.declared.objects.Value.{Value}
use Rattle.timing_types.specs.declared.objects.Value.TheVariants as value
use Rattle.text_model.specs.Bytes as bytes
use Rattle.tcl_model.specs.Commands.{StandsCommand, StandsWord}
use Rattle.text_model.specs.Continued as continued
use Rattle.text_model.specs.Enclosed as enclosed
use Rattle.tcl_model.specs.HostCalls.{Host, World}
use Rattle.tcl_model.specs.NamedCommands.{named}
use Rattle.tcl_model.specs.Pieces as pieces
use Rattle.tcl_model.specs.Pieces.{other, text}
use Rattle.text_model.specs.Row.{found}
use Rattle.tcl_model.specs.ScriptRun.{Enters, Runs, RunsCommand, most_commands, outermost}
use Rattle.tcl_model.specs.WordValues.{Level, RunsWords, in_bracket}
use Rattle.tcl_laws.proofs.RunExamples.{at_end, first_of_many, first_place, no_command, no_word, plain_word}

-- a call of a host
record Call : Type 0 where
  line : ℕ
  name : List ℕ

-- a host that keeps its calls, and gives `7` to each
abbrev keeping : Host (List Call)
keeping = record {
  Answers = λ line name words before given later.
      (given ≡ Ok (value.Text (codes "7"))) × (later ≡ before ++ record { line = line; name = name } ∷ []);
  names = λ state objects. [];
}

abbrev kept_world : List Call → ℕ → World (List Call)
kept_world calls begun = record { variables = []; host = calls; begun = begun }

abbrev bar_call : List Call
bar_call = record { line = 3; name = codes "bar" } ∷ []

abbrev both_calls : List Call
both_calls = bar_call ++ record { line = 3; name = codes "foo" } ∷ []

abbrev seven : Value
seven = value.Text (codes "7")

-- the inner command stands on a line of its own
abbrev inner_script : List ℕ
inner_script = codes "\nbar"

abbrev inner : Command
inner = record { line = 2; words = plain_word (codes "bar") ∷ [] }

bar_word : StandsWord (codes "bar") (found (plain_word (codes "bar")) [])
unfolding pieces.piece_at bytes.front bytes.after continued.after_gap
bar_word = (text (codes "bar") ∷ [], Ok [], ([], refl, refl), refl)

inner_stands : StandsCommand (first_place inner_script) (found inner (at_end 2))
unfolding continued.from_command
inner_stands = (plain_word (codes "bar") ∷ [], Ok [], ([], bar_word, no_word), refl)

abbrev outer_script : List ℕ
outer_script = codes "\n\nfoo [\nbar]"

abbrev script_word : Word
script_word = record { parts = part.Script inner_script ∷ [] }

abbrev outer : Command
outer = record { line = 3; words = plain_word (codes "foo") ∷ (script_word ∷ []) }

foo_word : StandsWord (codes "foo [\nbar]") (found (plain_word (codes "foo")) (codes " [\nbar]"))
unfolding pieces.piece_at bytes.front bytes.after continued.after_gap
foo_word = (text (codes "foo") ∷ [], Ok (codes " [\nbar]"), (codes " [\nbar]", refl, refl), refl)

bracket_word : StandsWord (codes " [\nbar]") (found script_word [])
unfolding pieces.piece_at bytes.front bytes.after continued.after_gap enclosed.after_open
bracket_word = (other (part.Script inner_script) ∷ [], Ok [], ([], refl, refl), refl)

outer_stands : StandsCommand (first_place outer_script) (found outer (at_end 4))
unfolding continued.from_command
outer_stands = (plain_word (codes "foo") ∷ (script_word ∷ []), Ok [], (codes " [\nbar]", foo_word, ([], bracket_word, no_word)), refl)

second_of_many : 1 < most_commands
second_of_many = omega arith

-- the level in the bracket
abbrev inner_level : Level (List Call)
inner_level = record { host = keeping; line = 3; left = 99; Opens = Enters keeping 3 99 }

inner_runs : RunsCommand inner_level inner (kept_world [] 1) (Ok seven) (kept_world bar_call 2)
unfolding named
inner_runs =
    inl (second_of_many, (Ok (value.Text (codes "bar") ∷ []), kept_world [] 2, (Ok (value.Text (codes "bar")), kept_world [] 2, (refl, refl), (Ok [], kept_world [] 2, (refl, refl), (refl, refl))), ((refl, refl), refl)))

bracket_runs : (outermost keeping 3).Opens 0 (in_bracket inner_script) (kept_world [] 1) (Ok seven) (kept_world bar_call 2)
bracket_runs =
    (Ok seven, (inner ∷ [], (at_end 2, inner_stands, (Ok seven, kept_world bar_call 2, inner_runs, (None, no_command 2, refl, refl)))), refl)

outer_words : RunsWords (outermost keeping 3) outer.words (kept_world [] 1) (Ok (value.Text (codes "foo") ∷ (seven ∷ []))) (kept_world bar_call 2)
outer_words = (
  Ok (value.Text (codes "foo")),
  kept_world [] 1,
  (refl, refl),
  (
    Ok (seven ∷ []),
    kept_world bar_call 2,
    (Ok seven, kept_world bar_call 2, bracket_runs, (Ok [], kept_world bar_call 2, (refl, refl), (refl, refl))),
    (refl, refl),
  ),
)

outer_runs : RunsCommand (outermost keeping 3) outer (kept_world [] 0) (Ok seven) (kept_world both_calls 2)
unfolding named
outer_runs = inl (first_of_many, (Ok (value.Text (codes "foo") ∷ (seven ∷ [])), kept_world bar_call 2, outer_words, ((refl, refl), refl)))

-- the inner call comes first, and both have the line of the outermost command
calls_in_order : Runs keeping outer_script [] (Ok tt) both_calls
calls_in_order =
    (Ok seven, kept_world both_calls 2, (outer ∷ [], (at_end 4, outer_stands, (Ok seven, kept_world both_calls 2, outer_runs, (None, no_command 4, refl, refl)))), refl, refl)
