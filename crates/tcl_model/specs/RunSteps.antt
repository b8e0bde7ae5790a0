-- Steps of a run, one after the other. This project's own way to write what a script does.
-- A turn relates a state before, a value or a fault, and the state after. It reads: a step and then the next one, which
-- is not reached where the first one has a fault.
use Rattle.std.specs.Prelude.{◌≡◌, Bool, true, false, Result, Ok, Err}
use Rattle.source_types.specs.declared.kinds.Kind.{Kind}
use Rattle.source_types.specs.declared.kinds.Kind.TheVariants.{Tcl}
use Rattle.source_types.specs.declared.kinds.TclKind.{TclKind}
use Rattle.tcl_model.specs.ExpressionRun.{RunStep}

-- this is given, and the state stays
abbrev pub Answers : {State A : Type 0} → Result A Kind → RunStep State A
Answers outcome before given after = (given ≡ outcome) × (after ≡ before)

abbrev pub Fails : {State A : Type 0} → TclKind → RunStep State A
Fails kind before given after = (given ≡ Err (Tcl kind)) × (after ≡ before)

-- on with a value, or the fault that stands in its place
abbrev pub OnWith : {State A B : Type 0} → (A → RunStep State B) → Result A Kind → RunStep State B
OnWith Next (Ok value) before given after = Next value before given after
OnWith Next (Err fault) before given after = (given ≡ Err fault) × (after ≡ before)

-- a step, and then another with what it gave
abbrev pub Then : {State A B : Type 0} → RunStep State A → (A → RunStep State B) → RunStep State B
Then {State = S} {A = T} First Next before given after =
    (outcome : Result T Kind) × (between : S) × First before outcome between × OnWith Next outcome between given after

-- one step or the other
abbrev pub Chosen : {State A : Type 0} → Bool → RunStep State A → RunStep State A → RunStep State A
Chosen true First Other before given after = First before given after
Chosen false First Other before given after = Other before given after

-- an outcome of a rule of Tcl as one of a run
abbrev pub tcl_outcome : {A : Type 0} → Result A TclKind → Result A Kind
tcl_outcome (Ok value) = Ok value
tcl_outcome (Err kind) = Err (Tcl kind)

-- a rule of Tcl that only looks
abbrev pub Looks : {State A : Type 0} → (Result A TclKind → Type 0) → RunStep State A
Looks {A = T} Rule before given after =
    (outcome : Result T TclKind) × Rule outcome × Answers (tcl_outcome outcome) before given after
