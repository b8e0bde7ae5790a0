-- What the functions of a run answer, over the worlds of the definitions. This project's own. A run's own part and the
-- state of its host are a world; what a function answers is what a step gives from a world to another.
use Rattle.std.specs.Prelude.{◌≡◌, ◌<◌, ◌≤◌, ◌+◌, ◌++◌, ℕ, zero, suc, List, [], ◌∷◌, Result, Ok, Err}
use Rattle.sdc_base.specs.Gives.{Meets}
use Rattle.sdc_base.specs.declared.memory.At.{At}
use Rattle.sdc_base.specs.declared.memory.Stop.{Stop}
use Rattle.sdc_base.specs.declared.memory.Stop.TheVariants as stop
use Rattle.source_types.specs.declared.kinds.Kind.{Kind}
use Rattle.source_types.specs.declared.kinds.Kind.TheVariants.{Tcl}
use Rattle.source_types.specs.declared.kinds.TclKind.{TclKind}
use Rattle.source_types.specs.declared.kinds.TclKind.TheVariants.{TooDeep, TooManyCommands}
use Rattle.timing_types.specs.declared.objects.Value.{Value}
use Rattle.timing_types.specs.declared.objects.Value.TheVariants as value
use Rattle.tcl_model.specs.ExpressionRun.{RunStep}
use Rattle.tcl_model.specs.HostCalls.{Host, World}
use Rattle.tcl_model.specs.ScriptRun.{Enters, most_commands}
use Rattle.tcl_model.specs.WordValues as values
use Rattle.tcl_eval.specs.declared.running.progress.Level.{Level}
use Rattle.tcl_eval.specs.declared.running.progress.Progress.{Progress}

-- the world of a run
abbrev pub world : {State : Type 0} → Progress → State → World State
world run state = record { variables = run.variables; host = state; begun = run.begun }

-- a level over a host
abbrev pub level_of : {State : Type 0} → Host State → Level → values.Level State
level_of host level = record { host = host; line = level.line; left = level.left; Opens = Enters host level.line level.left }

-- a step gives from a world to another what is answered
abbrev pub Does : {State A : Type 0} → RunStep (World State) A → World State → Result A (Stop Kind) → World State → Type 0
Does RunSteps before result after = Meets result (λ given. RunSteps before given after)

-- an answer of a rule of Tcl as one of a run
abbrev pub as_answer : {A : Type 0} → Result A (Stop TclKind) → Result A (Stop Kind)
as_answer (Ok value) = Ok value
as_answer (Err (stop.Refused kind)) = Err (stop.Refused (Tcl kind))
as_answer (Err stop.NoMemory) = Err stop.NoMemory

-- an answer of a script's own command, of a line: its value is let go, and its fault has the line
abbrev pub outside_answer : {A : Type 0} → ℕ → Result A (Stop Kind) → Result Unit (Stop (At Kind))
outside_answer line (Ok value) = Ok tt
outside_answer line (Err (stop.Refused kind)) = Err (stop.Refused (record { line = line; kind = kind }))
outside_answer line (Err stop.NoMemory) = Err stop.NoMemory

-- a command begins: it is counted, where not too many were begun
abbrev pub Begins : Progress → Result Unit Kind → Progress → Type 0
Begins old (Ok done) new = (old.begun < most_commands) × (new ≡ record old { begun = old.begun + 1 })
Begins old (Err kind) new = (most_commands ≤ old.begun) × (kind ≡ Tcl TooManyCommands) × (new ≡ old)

-- what an index gives inside so many parentheses, where so many levels are left
abbrev pub index_outcome : ℕ → ℕ → List ℕ → Result Value Kind
index_outcome zero inside script = Err (Tcl TooDeep)
index_outcome (suc left) zero script = Ok (value.Text (91 ∷ (script ++ 93 ∷ [])))
index_outcome (suc left) (suc inside) script = index_outcome left inside script
