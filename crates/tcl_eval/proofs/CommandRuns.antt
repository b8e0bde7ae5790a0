-- Commands that are run one after the other: whatever those after give, all give.
use Rattle.std.proofs.Common.{◌≡◌, ◌<◌, ◌-◌, ℕ, zero, suc, List, [], ◌∷◌, Option, Some, None, Result, Ok, Err, refl, sym, ap, subst, arith}
use Rattle.sdc_base.specs.declared.memory.At.{At}
use Rattle.sdc_base.specs.Gives.{Meets}
use Rattle.sdc_base.specs.declared.memory.Stop.{Stop}
use Rattle.sdc_base.specs.declared.memory.Stop.TheVariants as stop
use Rattle.source_types.specs.declared.commands.Command.{Command}
use Rattle.source_types.specs.declared.kinds.Kind.{Kind}
use Rattle.source_types.specs.declared.kinds.Kind.TheVariants.{Tcl}
use Rattle.source_types.specs.declared.kinds.TclKind.{TclKind}
use Rattle.timing_types.specs.declared.objects.Value.{Value}
use Rattle.tcl_model.specs.BuiltIns.{no_text}
use Rattle.tcl_model.specs.Commands.{Place, StandsCommand}
use Rattle.tcl_model.specs.ExpressionRun.{RunStep}
use Rattle.tcl_model.specs.HostCalls.{Host, World}
use Rattle.text_model.specs.Row.{found, stops}
use Rattle.tcl_model.specs.ScriptRun.{Enters, Runs, RunsCommand, RunsCommands, RunsWithin, Outcome, outermost, told_at}
use Rattle.tcl_model.specs.WordValues.{Level, in_body}
use Rattle.tcl_eval.specs.declared.running.progress.Level as progress
use Rattle.tcl_eval.specs.declared.running.progress.Progress.{Progress}
use Rattle.tcl_eval.specs.ScriptReads.{CommandOutside, CommandWithin, RunsOutside, beginning}
use Rattle.tcl_eval.specs.Worlds.{Does, level_of, outside_answer, world}

-- whatever is told after a place, is told from the beginning on
abbrev pub RunsOn : {State : Type 0} → (Command → RunStep (World State) Value) → Place → Value → World State → Place → Value → World State → Type 0
RunsOn {State = S} Step first none start place last now = (commands : List Command) (told : Outcome) (after : World S)
    → RunsCommands Step commands place last now told after → (all : List Command) × RunsCommands Step all first none start told after

pub begun : {State : Type 0} (Step : Command → RunStep (World State) Value) (place : Place) (last : Value) (now : World State) → RunsOn Step place last now place last now
begun Step place last now = λ commands told after h. (commands, h)

pub one_run : {State : Type 0} (Step : Command → RunStep (World State) Value) (first : Place) (none : Value) (start : World State) (place : Place) (last : Value) (now : World State) (command : Command) (next : Place) (v : Value) (after : World State)
    → RunsOn Step first none start place last now → StandsCommand place (found command next) → Step command now (Ok v) after → RunsOn Step first none start next v after
one_run Step first none start place last now command next v after on stands ran = λ commands told end h. on (command ∷ commands) told end (next, stands, (Ok v, after, ran, h))

pub all_run : {State : Type 0} (Step : Command → RunStep (World State) Value) (first : Place) (none : Value) (start : World State) (place : Place) (last : Value) (now : World State)
    → RunsOn Step first none start place last now → StandsCommand place (stops None) → (all : List Command) × RunsCommands Step all first none start (Ok last) now
all_run Step first none start place last now on stands = on [] (Ok last) now (None, stands, refl, refl)

pub one_refused : {State : Type 0} (Step : Command → RunStep (World State) Value) (first : Place) (none : Value) (start : World State) (place : Place) (last : Value) (now : World State) (command : Command) (next : Place) (kind : Kind) (after : World State)
    → RunsOn Step first none start place last now → StandsCommand place (found command next) → Step command now (Err kind) after → (all : List Command) × RunsCommands Step all first none start (told_at command.line kind) after
one_refused Step first none start place last now command next kind after on stands ran = on (command ∷ []) (told_at command.line kind) after (next, stands, (Err kind, after, ran, (refl, refl, refl)))

pub none_read : {State : Type 0} (Step : Command → RunStep (World State) Value) (first : Place) (none : Value) (start : World State) (place : Place) (last : Value) (now : World State) (fault : At TclKind)
    → RunsOn Step first none start place last now → StandsCommand place (stops (Some fault)) → (all : List Command) × RunsCommands Step all first none start (told_at fault.line (Tcl fault.kind)) now
none_read Step first none start place last now fault on stands = on [] (told_at fault.line (Tcl fault.kind)) now (Some fault, stands, refl, refl)

-- ---- within a level

-- a level of a host, by what is left
abbrev pub level_at : {State : Type 0} → Host State → ℕ → ℕ → Level State
level_at host line left = record { host = host; line = line; left = left; Opens = Enters host line left }

entered : {State : Type 0} (host : Host State) (line left : ℕ) (inner : progress.Level) (script : List ℕ) (before : World State) (given : Result Value Kind) (after : World State)
    → 0 < left → inner.line ≡ line → inner.left ≡ left - 1 → RunsWithin (level_of host inner) script before given after → Enters host line left 0 (in_body script) before given after
entered host line zero inner script before given after some at e h = absurd (omega (arith, some))
entered host line (suc left) inner script before given after some at e h =
    let same : inner.left ≡ left = omega (arith, e) in
    subst (λ n. RunsWithin (level_at host line n) script before given after) same
    (subst (λ m. RunsWithin (level_at host m inner.left) script before given after) at h)

pub body_run : {State : Type 0} (host : Host State) (line left : ℕ) (inner : progress.Level) (script : List ℕ) (start : World State) (place : Place) (last : Value) (now : World State)
    → 0 < left → inner.line ≡ line → inner.left ≡ left - 1 → RunsOn (RunsCommand (level_of host inner)) (beginning script) no_text start place last now → StandsCommand place (stops None)
    → Enters host line left 0 (in_body script) start (Ok last) now
body_run host line left inner script start place last now some at e on stands =
    entered host line left inner script start (Ok last) now some at e
    (Ok last, all_run (RunsCommand (level_of host inner)) (beginning script) no_text start place last now on stands, refl)

pub body_refused : {State : Type 0} (host : Host State) (line left : ℕ) (inner : progress.Level) (script : List ℕ) (start : World State) (place : Place) (last : Value) (now : World State) (command : Command) (next : Place) (s : Stop Kind) (after : World State)
    → 0 < left → inner.line ≡ line → inner.left ≡ left - 1 → RunsOn (RunsCommand (level_of host inner)) (beginning script) no_text start place last now → StandsCommand place (found command next)
    → Does {A = Value} (RunsCommand (level_of host inner) command) now (Err s) after → Does {A = Value} (Enters host line left 0 (in_body script)) start (Err s) after
body_refused host line left inner script start place last now command next (stop.Refused kind) after some at e on stands ran =
    entered host line left inner script start (Err kind) after some at e
    (told_at command.line kind, one_refused (RunsCommand (level_of host inner)) (beginning script) no_text start place last now command next kind after on stands ran, refl)
body_refused host line left inner script start place last now command next stop.NoMemory after some at e on stands ran = tt

pub body_unread : {State : Type 0} (host : Host State) (line left : ℕ) (inner : progress.Level) (script : List ℕ) (start : World State) (place next : Place) (last : Value) (now : World State) (s : Stop Kind)
    → 0 < left → inner.line ≡ line → inner.left ≡ left - 1 → RunsOn (RunsCommand (level_of host inner)) (beginning script) no_text start place last now
    → Meets {T = Option Command} (Err s) (λ given. CommandWithin place given next) → Does {A = Value} (Enters host line left 0 (in_body script)) start (Err s) now
body_unread host line left inner script start place next last now (stop.Refused kind) some at e on h =
    entered host line left inner script start (Err kind) now some at e
    (told_at h.0.line (Tcl h.0.kind), none_read (RunsCommand (level_of host inner)) (beginning script) no_text start place last now h.0 on h.1, ap (λ k. Err k) h.2)
body_unread host line left inner script start place next last now stop.NoMemory some at e on h = tt

-- ---- a script

abbrev pub Outside : {State : Type 0} → Host State → Command → RunStep (World State) Value
Outside host command = RunsCommand (outermost host command.line) command

outside_level : {State : Type 0} (host : Host State) (line left : ℕ) (level : progress.Level) → level.line ≡ line → level.left ≡ left → level_of host level ≡ level_at host line left
outside_level host line left level at e = rw (at, e) refl

pub outside_run : {State : Type 0} (host : Host State) (command : Command) (level : progress.Level) (before after : World State) (r : Result Value (Stop Kind))
    → level.line ≡ command.line → level.left ≡ 100 → Does (RunsCommand (level_of host level) command) before r after
    → Meets (outside_answer command.line r) (λ given. RunsOutside host command before given after)
outside_run host command level before after (Ok v) at e h =
    (v, subst (λ l. RunsCommand l command before (Ok v) after) (outside_level host command.line 100 level at e) h)
outside_run host command level before after (Err (stop.Refused kind)) at e h =
    (kind, subst (λ l. RunsCommand l command before (Err kind) after) (outside_level host command.line 100 level at e) h, refl)
outside_run host command level before after (Err stop.NoMemory) at e h = tt

-- no variable, and no command begun
abbrev pub fresh : {State : Type 0} → State → World State
fresh state = record { variables = []; host = state; begun = 0 }

abbrev pub ScriptOn : {State : Type 0} → Host State → List ℕ → State → Place → World State → Type 0
ScriptOn host script start place now = (last : Value) × RunsOn (Outside host) (beginning script) no_text (fresh start) place last now

pub script_begun : {State : Type 0} (host : Host State) (script : List ℕ) (start : State) (place : Place) (run : Progress)
    → place ≡ beginning script → run.variables ≡ [] → run.begun ≡ 0 → ScriptOn host script start place (world run start)
script_begun host script start place run e none zero_begun = (
  no_text,
  subst (λ p. RunsOn (Outside host) (beginning script) no_text (fresh start) p no_text (world run start)) (sym e)
      (subst (λ vs. RunsOn (Outside host) (beginning script) no_text (fresh start) (beginning script) no_text (record { variables = vs; host = start; begun = run.begun })) (sym none)
      (subst (λ n. RunsOn (Outside host) (beginning script) no_text (fresh start) (beginning script) no_text (record { variables = []; host = start; begun = n })) (sym zero_begun)
      (begun (Outside host) (beginning script) no_text (fresh start)))),
)

pub script_more : {State : Type 0} (host : Host State) (script : List ℕ) (start : State) (place : Place) (now : World State) (command : Command) (next : Place) (done : Unit) (after : World State)
    → ScriptOn host script start place now → StandsCommand place (found command next) → RunsOutside host command now (Ok done) after → ScriptOn host script start next after
script_more host script start place now command next done after on stands ran =
    (ran.0, one_run (Outside host) (beginning script) no_text (fresh start) place on.0 now command next ran.0 after on.1 stands ran.1)

pub script_run : {State : Type 0} (host : Host State) (script : List ℕ) (start : State) (place : Place) (now : World State)
    → ScriptOn host script start place now → StandsCommand place (stops None) → Runs host script start (Ok tt) now.host
script_run host script start place now on stands =
    (Ok on.0, now, all_run (Outside host) (beginning script) no_text (fresh start) place on.0 now on.1 stands, refl, refl)

pub script_refused : {State : Type 0} (host : Host State) (script : List ℕ) (start : State) (place : Place) (now : World State) (command : Command) (next : Place) (s : Stop (At Kind)) (after : World State)
    → ScriptOn host script start place now → StandsCommand place (found command next) → Meets {T = Unit} (Err s) (λ given. RunsOutside host command now given after)
    → Meets {T = Unit} (Err s) (λ given. Runs host script start given after.host)
script_refused host script start place now command next (stop.Refused fault) after on stands ran =
    (told_at command.line ran.0, after, one_refused (Outside host) (beginning script) no_text (fresh start) place on.0 now command next ran.0 after on.1 stands ran.1, ap (λ f. Err f) ran.2, refl)
script_refused host script start place now command next stop.NoMemory after on stands ran = tt

pub script_unread : {State : Type 0} (host : Host State) (script : List ℕ) (start : State) (place next : Place) (now : World State) (s : Stop (At Kind))
    → ScriptOn host script start place now → Meets {T = Option Command} (Err s) (λ given. CommandOutside place given next)
    → Meets {T = Unit} (Err s) (λ given. Runs host script start given now.host)
script_unread host script start place next now (stop.Refused fault) on h =
    (told_at h.0.line (Tcl h.0.kind), now, none_read (Outside host) (beginning script) no_text (fresh start) place on.0 now h.0 on.1 h.1, ap (λ f. Err f) h.2, refl)
script_unread host script start place next now stop.NoMemory on h = tt
