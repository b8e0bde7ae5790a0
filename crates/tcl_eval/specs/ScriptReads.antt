-- What a reader of commands finds at its place, over the grammar of commands. This project's own.
use Rattle.std.specs.Prelude.{◌≡◌, List, [], ◌∷◌, ℕ, Option, Some, None, Result, Ok, Err}
use Rattle.sdc_base.specs.declared.memory.At.{At}
use Rattle.source_types.specs.declared.commands.Command.{Command}
use Rattle.source_types.specs.declared.kinds.Kind.{Kind}
use Rattle.source_types.specs.declared.kinds.Kind.TheVariants.{Tcl}
use Rattle.source_types.specs.declared.kinds.TclKind.{TclKind}
use Rattle.timing_types.specs.declared.objects.Value.{Value}
use Rattle.tcl_model.specs.Commands.{Place, StandsCommand}
use Rattle.tcl_model.specs.HostCalls.{Host, World}
use Rattle.text_model.specs.Row.{found, stops}
use Rattle.tcl_model.specs.ScriptRun.{RunsCommand, outermost}

-- the beginning of a script
abbrev pub beginning : List ℕ → Place
beginning script = record { text = script; line = 1 }

-- what stands at a place: a command with the place after it, or none, or a fault
abbrev pub CommandFrom : Place → Result (Option Command) (At TclKind) → Place → Type 0
CommandFrom place (Ok None) next = StandsCommand place (stops None)
CommandFrom place (Ok (Some command)) next = StandsCommand place (found command next)
CommandFrom place (Err fault) next = StandsCommand place (stops (Some fault))

-- the same within a level, where a fault has no line
abbrev pub CommandWithin : Place → Result (Option Command) Kind → Place → Type 0
CommandWithin place (Ok command) next = CommandFrom place (Ok command) next
CommandWithin place (Err kind) next = (fault : At TclKind) × CommandFrom place (Err fault) next × (kind ≡ Tcl fault.kind)

-- the same of a script's own commands
abbrev pub CommandOutside : Place → Result (Option Command) (At Kind) → Place → Type 0
CommandOutside place (Ok command) next = CommandFrom place (Ok command) next
CommandOutside place (Err fault) next =
    (read : At TclKind) × CommandFrom place (Err read) next × (fault ≡ record { line = read.line; kind = Tcl read.kind })

-- a script's own command is run: its value is let go, and its fault has its line
abbrev pub RunsOutside : {State : Type 0} → Host State → Command → World State → Result Unit (At Kind) → World State → Type 0
RunsOutside host command before (Ok done) after = (v : Value) × RunsCommand (outermost host command.line) command before (Ok v) after
RunsOutside host command before (Err fault) after =
    (kind : Kind) × RunsCommand (outermost host command.line) command before (Err kind) after × (fault ≡ record { line = command.line; kind = kind })

-- the first of some values, and the others
abbrev pub Parts : List Value → Option (Value × List Value) → Type 0
Parts values None = values ≡ []
Parts values (Some (first, others)) = values ≡ first ∷ others
