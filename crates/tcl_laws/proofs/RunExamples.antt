-- Runs by example. Of levels: an index is no command, a hundred levels are entered and one more is not. Of whole
-- scripts: first faults with their lines. Of bodies: items one by one.
use Rattle.std.proofs.Common.{refl, inl, inr, arith}
use Rattle.std.specs.Prelude.{◌≡◌, ◌+◌, ◌<◌, ◌≤◌, ℕ, List, [], ◌∷◌, None, Ok, Err, codes}
use Rattle.source_types.specs.declared.commands.Command.{Command}
use Rattle.source_types.specs.declared.commands.Part.TheVariants as part
use Rattle.source_types.specs.declared.commands.Word.{Word}
use Rattle.source_types.specs.declared.kinds.Kind.{Kind}
use Rattle.source_types.specs.declared.kinds.Kind.TheVariants.{Tcl}
use Rattle.source_types.specs.declared.kinds.TclKind.TheVariants as kind
use Rattle.timing_types.specs.declared.objects.Object.TheVariants.{Clock}
use Rattle.timing_types.specs.declared.objects.Value.{Value}
use Rattle.timing_types.specs.declared.objects.Value.TheVariants as value
use Rattle.text_model.specs.Bytes as bytes
use Rattle.tcl_model.specs.BuiltIns.{no_text}
use Rattle.tcl_model.specs.Commands.{Place, StandsCommand, StandsWord}
use Rattle.text_model.specs.Continued as continued
use Rattle.tcl_model.specs.HostCalls.{Host, World}
use Rattle.tcl_model.specs.NamedCommands.{Repeats, named}
use Rattle.tcl_model.specs.Pieces as pieces
use Rattle.tcl_model.specs.Pieces.{other, text}
use Rattle.text_model.specs.Row.{found, stops}
use Rattle.tcl_model.specs.ScriptRun.{Enters, Runs, RunsCommand, most_commands, outermost, told_at}
use Rattle.tcl_model.specs.Variables.{Variable, with_variable}
use Rattle.tcl_model.specs.WordValues.{Level, RunsPart, RunsWord, RunsWords, in_body, in_bracket}

-- ---- a host

-- it gives the number of the call, and refuses none
abbrev counting : Host ℕ
counting = record {
  Answers = λ line name words before given later. (given ≡ Ok (value.Text ((48 + before) ∷ []))) × (later ≡ before + 1);
  names = λ state objects. codes "clocks";
}

abbrev world : List Variable → ℕ → ℕ → World ℕ
world variables host begun = record { variables = variables; host = host; begun = begun }

abbrev a : List ℕ
a = codes "a"

abbrev one_clock : Value
one_clock = value.Objects (Clock 1 ∷ [])

-- ---- words and levels

-- a substitution alone keeps its value; beside a text it counts as the names
one_substitution : RunsWord (outermost counting 1) 0 (part.Variable a ∷ []) (world (with_variable [] a one_clock) 0 1) (Ok one_clock) (world (with_variable [] a one_clock) 0 1)
one_substitution = (refl, refl)

-- an index gives itself, and begins no command
index_itself : RunsPart (outermost counting 1) 0 (part.Script (codes "3")) (world [] 0 1) (Ok (value.Text (codes "[3]"))) (world [] 0 1)
index_itself = (refl, refl)

-- an index in 99 parentheses is in the hundredth level, and in 100 it is too deep
hundredth_level : Enters counting 1 100 99 (in_bracket (codes "3")) (world [] 0 1) (Ok (value.Text (codes "[3]"))) (world [] 0 1)
hundredth_level = (refl, refl)

level_beyond : Enters counting 1 100 100 (in_bracket (codes "3")) (world [] 0 1) (Err (Tcl kind.TooDeep)) (world [] 0 1)
level_beyond = (refl, refl)

-- ---- whole scripts

abbrev pub plain_word : List ℕ → Word
plain_word bytes = record { parts = part.Text bytes ∷ [] }

abbrev pub first_place : List ℕ → Place
first_place script = record { text = script; line = 1 }

abbrev pub at_end : ℕ → Place
at_end line = record { text = []; line = line }

-- `set` alone has too few words
abbrev only_set : Command
only_set = record { line = 1; words = plain_word (codes "set") ∷ [] }

set_word : StandsWord (codes "set") (found (plain_word (codes "set")) [])
unfolding pieces.piece_at bytes.front bytes.after continued.after_gap
set_word = (text (codes "set") ∷ [], Ok [], ([], refl, refl), refl)

pub no_word : StandsWord [] (stops (Ok []))
unfolding continued.after_gap
no_word = refl

pub no_command : (line : ℕ) → StandsCommand (at_end line) (stops None)
unfolding continued.from_command
no_command line = refl

set_command : StandsCommand (first_place (codes "set")) (found only_set (at_end 1))
unfolding continued.from_command
set_command = (plain_word (codes "set") ∷ [], Ok [], ([], set_word, no_word), refl)

set_has_its_words : (level : Level ℕ) → RunsWords level (plain_word (codes "set") ∷ []) (world [] 0 1) (Ok (value.Text (codes "set") ∷ [])) (world [] 0 1)
set_has_its_words level = (Ok (value.Text (codes "set")), world [] 0 1, (refl, refl), (Ok [], world [] 0 1, (refl, refl), (refl, refl)))

pub first_of_many : 0 < most_commands
first_of_many = omega arith

set_is_wrong : RunsCommand (outermost counting 1) only_set (world [] 0 0) (Err (Tcl kind.WrongArgs)) (world [] 0 1)
unfolding named
set_is_wrong = inl (first_of_many, (Ok (value.Text (codes "set") ∷ []), world [] 0 1, set_has_its_words (outermost counting 1), (refl, refl)))

-- its fault has line 1, and the host stays
set_alone : Runs counting (codes "set") 0 (Err (record { line = 1; kind = Tcl kind.WrongArgs })) 0
set_alone = (told_at 1 (Tcl kind.WrongArgs), world [] 0 1, (only_set ∷ [], (at_end 1, set_command, (Err (Tcl kind.WrongArgs), world [] 0 1, set_is_wrong, (refl, refl, refl)))), refl, refl)

-- ---- the first fault

-- in `set a $x` and a second line `set b {` the variable is not set, and the second line is not reached
abbrev broken_script : List ℕ
broken_script = codes "set a $x\nset b {"

abbrev variable_word : Word
variable_word = record { parts = part.Variable (codes "x") ∷ [] }

abbrev sets_variable : Command
sets_variable = record { line = 1; words = plain_word (codes "set") ∷ (plain_word a ∷ (variable_word ∷ [])) }

abbrev second_line : List ℕ
second_line = codes "\nset b {"

set_before : StandsWord broken_script (found (plain_word (codes "set")) (codes " a $x\nset b {"))
unfolding pieces.piece_at bytes.front bytes.after continued.after_gap
set_before = (text (codes "set") ∷ [], Ok (codes " a $x\nset b {"), (codes " a $x\nset b {", refl, refl), refl)

name_before : StandsWord (codes " a $x\nset b {") (found (plain_word a) (codes " $x\nset b {"))
unfolding pieces.piece_at bytes.front bytes.after continued.after_gap
name_before = (text a ∷ [], Ok (codes " $x\nset b {"), (codes " $x\nset b {", refl, refl), refl)

variable_stands : StandsWord (codes " $x\nset b {") (found variable_word second_line)
unfolding pieces.piece_at bytes.front bytes.after continued.after_gap
variable_stands = (other (part.Variable (codes "x")) ∷ [], Ok second_line, (second_line, refl, refl), refl)

line_end : StandsWord second_line (stops (Ok second_line))
unfolding continued.after_gap
line_end = refl

sets_stands : StandsCommand (first_place broken_script) (found sets_variable (record { text = second_line; line = 1 }))
unfolding continued.from_command
sets_stands =
    (sets_variable.words, Ok second_line, (codes " a $x\nset b {", set_before, (codes " $x\nset b {", name_before, (second_line, variable_stands, line_end))), refl)

abbrev unknown : Kind
unknown = Tcl kind.UnknownVariable

sets_words : RunsWords (outermost counting 1) sets_variable.words (world [] 0 1) (Err unknown) (world [] 0 1)
sets_words = (
  Ok (value.Text (codes "set")),
  world [] 0 1,
  (refl, refl),
  (
    Err unknown,
    world [] 0 1,
    (
      Ok (value.Text a),
      world [] 0 1,
      (refl, refl),
      (Err unknown, world [] 0 1, (Err unknown, world [] 0 1, (refl, refl), (refl, refl)), (refl, refl)),
    ),
    (refl, refl),
  ),
)

sets_fails : RunsCommand (outermost counting 1) sets_variable (world [] 0 0) (Err unknown) (world [] 0 1)
sets_fails = inl (first_of_many, (Err unknown, world [] 0 1, sets_words, (refl, refl)))

first_fault : Runs counting broken_script 0 (Err (record { line = 1; kind = unknown })) 0
first_fault = (
  told_at 1 unknown,
  world [] 0 1,
  (sets_variable ∷ [], (record { text = second_line; line = 1 }, sets_stands, (Err unknown, world [] 0 1, sets_fails, (refl, refl, refl)))),
  refl,
  refl,
)

-- the command after 30,000,000 others
all_begun : most_commands ≤ 30000000
all_begun = omega arith

one_too_many : RunsCommand (outermost counting 1) only_set (world [] 0 30000000) (Err (Tcl kind.TooManyCommands)) (world [] 0 30000000)
one_too_many = inr (all_begun, (refl, refl))

-- ---- bodies

-- a body without commands gives the empty text
empty_body : (variables : List Variable) → (outermost counting 1).Opens 0 (in_body []) (world variables 0 1) (Ok no_text) (world variables 0 1)
empty_body variables = (Ok no_text, ([], (None, no_command 1, refl, refl)), refl)

-- `foreach` over objects: each is a list of one
abbrev second_clock : Value
second_clock = value.Objects (Clock 2 ∷ [])

abbrev set_once : List Variable
set_once = with_variable [] a one_clock

abbrev set_twice : List Variable
set_twice = with_variable set_once a second_clock

each_object : Repeats (outermost counting 1) (value.Text a ∷ (value.Objects (Clock 1 ∷ (Clock 2 ∷ [])) ∷ (no_text ∷ []))) (world [] 0 1) (Ok no_text) (world set_twice 0 1)
each_object = (
  Ok (one_clock ∷ (second_clock ∷ [])),
  world [] 0 1,
  (Ok (one_clock ∷ (second_clock ∷ [])), refl, (refl, refl)),
  (
    Ok one_clock,
    world set_once 0 1,
    (refl, refl),
    (
      Ok no_text,
      world set_once 0 1,
      empty_body set_once,
      (
        Ok second_clock,
        world set_twice 0 1,
        (refl, refl),
        (Ok no_text, world set_twice 0 1, empty_body set_twice, (refl, refl)),
      ),
    ),
  ),
)
