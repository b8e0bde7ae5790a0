-- What a script runs on: its variables, the commands that it began, and a host, which answers every command that is not
-- built in. This project's own. A host is known by its answers: what it may answer in a state to the line, the name and
-- the words after the name, and the state that it is then left in. Where it refuses, it is left as it was.
use Rattle.std.specs.Prelude.{◌≡◌, ℕ, List, Result, Ok, Err}
use Rattle.source_types.specs.declared.kinds.Kind.{Kind}
use Rattle.timing_types.specs.declared.objects.Object.{Object}
use Rattle.timing_types.specs.declared.objects.Value.{Value}
use Rattle.timing_types.specs.declared.objects.Value.TheVariants as value
use Rattle.tcl_model.specs.ExpressionRun.{RunStep}
use Rattle.tcl_model.specs.Variables.{Variable, with_variable}

-- its answers, and the Tcl list of the names of objects
pub record Host (State : Type 0) : Type 1 where
  pub Answers : ℕ → List ℕ → List Value → RunStep State Value
  pub names : State → List Object → List ℕ

-- what a run changes: the variables, the host, and how many commands it began
pub record World (State : Type 0) : Type 0 where
  pub variables : List Variable
  pub host : State
  pub begun : ℕ

-- a value as a text: a list of objects counts as the list of its names
abbrev pub text_in : {State : Type 0} → Host State → State → Value → List ℕ
text_in host state (value.Text text) = text
text_in host state (value.Objects objects) = host.names state objects

abbrev pub text_outcome : {State : Type 0} → Host State → State → Result Value Kind → Result (List ℕ) Kind
text_outcome host state (Ok given) = Ok (text_in host state given)
text_outcome host state (Err fault) = Err fault

-- what a step gives, as a text
abbrev pub AsText : {State : Type 0} → Host State → RunStep (World State) Value → RunStep (World State) (List ℕ)
AsText host Gives before given after =
    (outcome : Result Value Kind) × Gives before outcome after × (given ≡ text_outcome host after.host outcome)

-- a variable is set to a value, which is given
abbrev pub SetsTo : {State : Type 0} → List ℕ → Value → RunStep (World State) Value
SetsTo name new before given after =
    (given ≡ Ok new) × (after ≡ record before { variables = with_variable before.variables name new })

-- an answer and the state that it leaves, which is the state before where it is a refusal
abbrev pub Answered : {State : Type 0} → RunStep State Value → RunStep State Value
Answered Answers before (Ok answer) after = Answers before (Ok answer) after
Answered Answers before (Err fault) after = Answers before (Err fault) after × (after ≡ before)

-- a call of the host: nothing else of the world changes
abbrev pub Calls : {State : Type 0} → Host State → ℕ → List ℕ → List Value → RunStep (World State) Value
Calls host line name words before given after =
    Answered (host.Answers line name words) before.host given after.host × (after ≡ record before { host = after.host })
