-- The run of a script (Tcl): a relation between its text, the variables and the host before, and those after. Commands
-- are split and run one after the other, and the first fault in order of execution ends the run, with the line of the
-- outermost command. This project's own: at most 100 levels of brackets, bodies and parentheses, at most 30,000,000
-- commands begun, and the host, to which all names go that are not built in. Read from the end: `Runs` and what it
-- stands on. A command is counted before its words are run.
use Rattle.std.specs.Prelude.{◌≡◌, ◌<◌, ◌≤◌, ◌⊎◌, ◌+◌, ◌++◌, ℕ, zero, suc, Bool, true, false, List, [], ◌∷◌, Option, Some, None, Result, Ok, Err}
use Rattle.sdc_base.specs.declared.memory.At.{At}
use Rattle.source_types.specs.declared.commands.Command.{Command}
use Rattle.source_types.specs.declared.kinds.Kind.{Kind}
use Rattle.source_types.specs.declared.kinds.Kind.TheVariants.{Tcl}
use Rattle.source_types.specs.declared.kinds.TclKind.{TclKind}
use Rattle.source_types.specs.declared.kinds.TclKind.TheVariants.{TooDeep, TooManyCommands}
use Rattle.timing_types.specs.declared.objects.Value.{Value}
use Rattle.timing_types.specs.declared.objects.Value.TheVariants as value
use Rattle.text_model.specs.Bytes.{is_index}
use Rattle.tcl_model.specs.Commands.{Place, StandsCommand}
use Rattle.tcl_model.specs.ExpressionRun.{RunStep}
use Rattle.tcl_model.specs.HostCalls.{Host, World}
use Rattle.tcl_model.specs.NamedCommands.{RunsValues}
use Rattle.text_model.specs.Row.{found, stops}
use Rattle.tcl_model.specs.RunSteps.{Answers, Fails, Then}
use Rattle.tcl_model.specs.WordValues.{Level, Opened, RunsWords, in_body, in_bracket}

-- ---- one command

-- the most commands that are begun
abbrev pub most_commands : ℕ
most_commands = 30000000

-- a world with one more command begun
abbrev pub one_more : {State : Type 0} → World State → World State
one_more before = record before { begun = before.begun + 1 }

-- a command: it is counted, then its words are run, and then it is
abbrev pub RunsCommand : {State : Type 0} → Level State → Command → RunStep (World State) Value
RunsCommand level command before given after =
    ((before.begun < most_commands) × Then (RunsWords level command.words) (RunsValues level) (one_more before) given after)
    ⊎ ((most_commands ≤ before.begun) × Fails TooManyCommands before given after)

-- ---- commands, one after the other

-- what commands give: the value of the last one, or the first fault with its line
abbrev pub Outcome : Type 0
Outcome = Result Value (At Kind)

abbrev pub told_at : ℕ → Kind → Outcome
told_at line kind = Err (record { line = line; kind = kind })

-- where no more command stands: the last value, or why the text does not go on
abbrev pub told_end : Value → Option (At TclKind) → Outcome
told_end last None = Ok last
told_end last (Some fault) = told_at fault.line (Tcl fault.kind)

-- on after a command with its value, where it has one
abbrev pub GoesOnAfter : {State : Type 0} → (Value → World State → Outcome → World State → Type 0) → Command → List Command → Result Value Kind → World State → Outcome → World State → Type 0
GoesOnAfter Next command commands (Ok last) between told after = Next last between told after
GoesOnAfter Next command commands (Err kind) between told after =
    (commands ≡ []) × (told ≡ told_at command.line kind) × (after ≡ between)

-- these commands stand at a place, one after the other, and are begun in order. The value is the last one so far
abbrev pub RunsCommands : {State : Type 0} → (Command → RunStep (World State) Value) → List Command → Place → Value → World State → Outcome → World State → Type 0
RunsCommands Does [] place last before told after =
    (end : Option (At TclKind)) × StandsCommand place (stops end) × (told ≡ told_end last end) × (after ≡ before)
RunsCommands {State = S} Does (command ∷ commands) place last before told after =
    (next : Place) × StandsCommand place (found command next)
    × ((outcome : Result Value Kind) × (between : World S) × Does command before outcome between
    × GoesOnAfter (RunsCommands Does commands next) command commands outcome between told after)

-- a whole text, its lines counted from 1; without commands it gives the empty text
abbrev pub RunsText : {State : Type 0} → (Command → RunStep (World State) Value) → List ℕ → World State → Outcome → World State → Type 0
RunsText Does text before told after =
    (commands : List Command) × RunsCommands Does commands (record { text = text; line = 1 }) (value.Text []) before told after

-- ---- levels

-- the most levels that are open at one place
abbrev pub most_levels : ℕ
most_levels = 100

-- what is told within a level, without its line: the line is the outermost command's
abbrev pub without_line : Outcome → Result Value Kind
without_line (Ok last) = Ok last
without_line (Err fault) = Err fault.kind

-- a script within a level
abbrev pub RunsWithin : {State : Type 0} → Level State → List ℕ → RunStep (World State) Value
RunsWithin level script before given after =
    (told : Outcome) × RunsText (RunsCommand level) script before told after × (given ≡ without_line told)

-- a bracket, whose level is open already: an index stands for itself in its brackets, and is no command
abbrev pub RunsBracket : {State : Type 0} → Level State → List ℕ → Bool → RunStep (World State) Value
RunsBracket level script true before given after = Answers (Ok (value.Text (91 ∷ (script ++ 93 ∷ [])))) before given after
RunsBracket level script false before given after = RunsWithin level script before given after

-- what was opened, at the level that it opens
abbrev pub RunsOpened : {State : Type 0} → Level State → Opened → RunStep (World State) Value
RunsOpened level (in_bracket script) before given after = RunsBracket level script (is_index script) before given after
RunsOpened level (in_body script) before given after = RunsWithin level script before given after

-- what is given where so many levels are left to be opened, inside so many parentheses, which have a level each
abbrev pub Enters : {State : Type 0} → Host State → ℕ → ℕ → ℕ → Opened → RunStep (World State) Value
Enters host line zero inside opened before given after = Fails TooDeep before given after
Enters host line (suc left) zero opened before given after =
    RunsOpened (record { host = host; line = line; left = left; Opens = Enters host line left }) opened before given after
Enters host line (suc left) (suc inside) opened before given after = Enters host line left inside opened before given after

-- the level of an outermost command of a line
abbrev pub outermost : {State : Type 0} → Host State → ℕ → Level State
outermost host line = record { host = host; line = line; left = most_levels; Opens = Enters host line most_levels }

-- ---- scripts

-- the run of a script: the world before, the value of its last command or its first fault, and the world after
abbrev pub RunsScript : {State : Type 0} → Host State → List ℕ → World State → Outcome → World State → Type 0
RunsScript host script before told after =
    RunsText (λ (command : Command). RunsCommand (outermost host command.line) command) script before told after

-- what is told of a file: that it was run, or its first fault
abbrev pub without_value : Outcome → Result Unit (At Kind)
without_value (Ok last) = Ok tt
without_value (Err fault) = Err fault

-- a file is run on a host, from no variable and no command on: what is told, and the host that is left
abbrev pub Runs : {State : Type 0} → Host State → List ℕ → State → Result Unit (At Kind) → State → Type 0
Runs {State = S} host script before given after =
    (told : Outcome) × (world : World S)
    × RunsScript host script (record { variables = []; host = before; begun = 0 }) told world
    × (given ≡ without_value told) × (after ≡ world.host)
