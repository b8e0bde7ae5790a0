-- The host of a mode file's script: what it answers to each command, and what it leaves (SDC 2.1). It knows
-- `create_clock`, `set_clock_groups`, `set_units` and `get_clocks`; every other name is out of profile, which is this
-- project's own. It reads: by the clocks and groups so far, what a command gives and what stands after it, or its
-- fault.
use Rattle.std.specs.Prelude.{◌≡◌, ◌++◌, ℕ, Bool, List, [], ◌∷◌, codes, Option, Some, None, Result, Ok, Err, if◌then◌else◌}
use Rattle.timing_types.specs.declared.clocks.Clock.{Clock}
use Rattle.source_types.specs.declared.kinds.Kind.TheVariants.{Sdc}
use Rattle.source_types.specs.declared.kinds.SdcKind.{SdcKind}
use Rattle.source_types.specs.declared.kinds.SdcKind.TheVariants.{OutOfProfile}
use Rattle.timing_types.specs.declared.objects.Object.{Object}
use Rattle.timing_types.specs.declared.objects.Value.{Value}
use Rattle.timing_types.specs.declared.objects.Value.TheVariants as value
use Rattle.tcl_model.specs.BuiltIns.{no_text}
use Rattle.mode_model.specs.ClockCommands.{clock_of, clocks_named, groups_of, is_unit, object_names, value_texts}
use Rattle.mode_model.specs.ClockFile.{SoFar}
use Rattle.tcl_model.specs.ExpressionRun.{RunStep}
use Rattle.tcl_model.specs.HostCalls.{Host}
use Rattle.text_model.specs.Words.{same_text}

-- what a command gives and what stands after it, or its fault
abbrev pub Answer : Type 0
Answer = Result (Value × SoFar) SdcKind

abbrev pub gives_clocks : SoFar → Option (List Object) → Answer
gives_clocks so_far None = Err OutOfProfile
gives_clocks so_far (Some objects) = Ok (value.Objects objects, so_far)

abbrev pub adds_clock : SoFar → Result Clock SdcKind → Answer
adds_clock so_far (Ok clock) = Ok (no_text, record so_far { clocks = so_far.clocks ++ clock ∷ [] })
adds_clock so_far (Err kind) = Err kind

abbrev pub adds_groups : SoFar → Option (List (List ℕ)) → Answer
adds_groups so_far None = Err OutOfProfile
adds_groups so_far (Some groups) = Ok (no_text, record so_far { groups = so_far.groups ++ groups ∷ [] })

abbrev pub keeps_where : SoFar → Bool → Answer
keeps_where so_far read = if read then Ok (no_text, so_far) else Err OutOfProfile

-- a command on a line, by its name and the words after it
abbrev pub answer : SoFar → ℕ → List ℕ → List Value → Answer
answer so_far line name words =
    if same_text name (codes "create_clock") then adds_clock so_far (clock_of so_far.clocks line words)
    else (if same_text name (codes "set_clock_groups") then adds_groups so_far (groups_of so_far.clocks words)
    else (if same_text name (codes "set_units") then keeps_where so_far (is_unit (value_texts so_far.clocks words))
    else (if same_text name (codes "get_clocks") then gives_clocks so_far (clocks_named so_far.clocks words)
    else Err OutOfProfile)))

-- this is given and left; what is refused leaves all as it was
abbrev pub IsAnswered : Answer → RunStep SoFar Value
IsAnswered (Ok told) before given after = (given ≡ Ok told.0) × (after ≡ told.1)
IsAnswered (Err kind) before given after = (given ≡ Err (Sdc kind)) × (after ≡ before)

-- the host of a mode file
abbrev pub mode_host : Host SoFar
mode_host = record {
  Answers = λ line name words before. IsAnswered (answer before line name words) before;
  names = λ so_far objects. object_names so_far.clocks objects;
}
