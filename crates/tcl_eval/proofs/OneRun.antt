-- A run over a host that gives one answer to each call has one outcome: by its steps, from the built-in commands up.
-- What a text's commands are is one; that fact is of the grammar.
use Rattle.std.proofs.Common.{◌≡◌, inl, inr, ℕ, zero, suc, Bool, true, false, List, [], ◌∷◌, map, Option, Some, None, Result, Ok, Err, sym, ◌∙◌, ap, subst}
use Rattle.sdc_base.specs.declared.memory.At.{At}
use Rattle.source_types.specs.declared.built_ins.Branch.{Branch}
use Rattle.source_types.specs.declared.built_ins.Branches.{Branches}
use Rattle.source_types.specs.declared.built_ins.CommandName.{CommandName}
use Rattle.source_types.specs.declared.built_ins.CommandName.TheVariants as command
use Rattle.source_types.specs.declared.commands.Command.{Command}
use Rattle.source_types.specs.declared.kinds.Kind.{Kind}
use Rattle.source_types.specs.declared.kinds.TclKind.{TclKind}
use Rattle.timing_types.specs.declared.objects.Value.{Value}
use Rattle.timing_types.specs.declared.objects.Value.TheVariants as value
use Rattle.tcl_model.specs.Branches.{branches_of}
use Rattle.tcl_model.specs.BuiltIns.{Concats, Counts, HasItems, Indexes, joined_objects}
use Rattle.text_model.specs.Bytes.{is_index}
use Rattle.tcl_model.specs.Commands.{Place, StandsCommand}
use Rattle.tcl_model.specs.ExpressionRun.{RunStep}
use Rattle.tcl_model.specs.HostCalls.{Host, SetsTo, World, text_in}
use Rattle.tcl_model.specs.NamedCommands.{Chooses, Holds, Repeats, RunsEach, RunsFirst, RunsNamed, RunsOtherwise, RunsValues, Sets, named, spaced}
use Rattle.text_model.specs.Row.{found, stops}
use Rattle.tcl_model.specs.ScriptRun.{Enters, GoesOnAfter, RunsBracket, RunsCommand, RunsCommands, RunsOpened, RunsText, RunsWithin, Outcome, most_commands, most_levels, one_more, outermost, told_end, without_line, without_value}
use Rattle.tcl_model.specs.WordValues.{Level, Opened, in_body, in_bracket}
use Rattle.text_model.proofs.RowFacts.{not_both, same_end, same_place, same_thing}
use Rattle.tcl_words.proofs.OneOutcome.{commands_once}
use Rattle.tcl_eval.specs.Laws.{HasOneRun, HostIsOne, IsOne}
use Rattle.tcl_eval.proofs.OneSteps.{LevelIsOne, answers_one, apart, both, calls_one, chosen_one, concatenates_one, counts_one, evaluates_one, indexes_one, items_one, looks_one, then_one, words_one}

-- ---- commands that are built in

set_one : {S : Type 0} (host : Host S) (words : List Value) → IsOne (Sets host words)
set_one host [] before a b x y t u = both t.0 t.1 u.0 u.1
set_one host (name ∷ []) before a b x y t u = both t.0 t.1 u.0 u.1
set_one host (name ∷ new ∷ []) before a b x y t u = both t.0 t.1 u.0 u.1
set_one host (name ∷ new ∷ third ∷ others) before a b x y t u = both t.0 t.1 u.0 u.1

sets_one : {S : Type 0} (name : List ℕ) (new : Value) → IsOne {S = World S} (SetsTo name new)
sets_one name new before a b x y t u = both t.0 t.1 u.0 u.1

each_one : {S : Type 0} (level : Level S) → LevelIsOne level → (name body : List ℕ) (items : List Value) → IsOne (RunsEach level name body items)
each_one level l name body [] before a b x y t u = both t.0 t.1 u.0 u.1
each_one level l name body (item ∷ items) before a b x y t u =
    then_one _ _ (sets_one name item)
    (λ new. then_one _ _ (l.opens 0 (in_body body)) (λ last. each_one level l name body items)) before a b x y t u

foreach_one : {S : Type 0} (level : Level S) → LevelIsOne level → (words : List Value) → IsOne (Repeats level words)
foreach_one level l [] before a b x y t u = both t.0 t.1 u.0 u.1
foreach_one level l (name ∷ []) before a b x y t u = both t.0 t.1 u.0 u.1
foreach_one level l (name ∷ list ∷ []) before a b x y t u = both t.0 t.1 u.0 u.1
foreach_one level l (name ∷ list ∷ body ∷ []) before a b x y t u =
    then_one _ _ (looks_one (HasItems list) (items_one list))
    (each_one level l (text_in level.host before.host name) (text_in level.host before.host body)) before a b x y t u
foreach_one level l (name ∷ list ∷ body ∷ fourth ∷ others) before a b x y t u = both t.0 t.1 u.0 u.1

otherwise_one : {S : Type 0} (level : Level S) → LevelIsOne level → (body : Option (List ℕ)) → IsOne (RunsOtherwise level body)
otherwise_one level l None before a b x y t u = both t.0 t.1 u.0 u.1
otherwise_one level l (Some body) before a b x y t u = l.opens 0 (in_body body) before a b x y t u

holds_one : {S : Type 0} (level : Level S) → LevelIsOne level → (condition : List ℕ) → IsOne (Holds level condition)
holds_one level l condition = then_one _ _ (evaluates_one level l condition) (λ result. answers_one _)

first_one : {S : Type 0} (level : Level S) → LevelIsOne level → (branches : List Branch) (otherwise : Option (List ℕ)) → IsOne (RunsFirst level branches otherwise)
first_one level l [] otherwise before a b x y t u = otherwise_one level l otherwise before a b x y t u
first_one level l (branch ∷ branches) otherwise before a b x y t u =
    then_one _ _ (holds_one level l branch.condition)
    (chosen_one _ _ (l.opens 0 (in_body branch.body)) (first_one level l branches otherwise)) before a b x y t u

if_one : {S : Type 0} (level : Level S) → LevelIsOne level → (said : Option Branches) → IsOne (Chooses level said)
if_one level l None before a b x y t u = both t.0 t.1 u.0 u.1
if_one level l (Some said) before a b x y t u = first_one level l said.branches said.otherwise before a b x y t u

-- ---- commands

named_one : {S : Type 0} (level : Level S) → LevelIsOne level → (which : CommandName) (name : List ℕ) (words : List Value) → IsOne (RunsNamed level which name words)
named_one level l command.Set name words before a b x y t u = set_one level.host words before a b x y t u
named_one level l command.List name words before a b x y t u = both t.0 t.1 u.0 u.1
named_one level l command.Concat name words before a b x y t u =
    looks_one (Concats (text_in level.host before.host) words)
    (concatenates_one (joined_objects words) (map (text_in level.host before.host) words)) before a b x y t u
named_one level l command.Lindex name words before a b x y t u =
    looks_one (Indexes (text_in level.host before.host) words) (indexes_one (text_in level.host before.host) words) before a b x y t u
named_one level l command.Llength name words before a b x y t u = looks_one (Counts words) (counts_one words) before a b x y t u
named_one level l command.Expr name words before a b x y t u =
    then_one _ _ (evaluates_one level l (spaced (map (text_in level.host before.host) words))) (λ result. answers_one _) before a b x y t u
named_one level l command.Foreach name words before a b x y t u = foreach_one level l words before a b x y t u
named_one level l command.If name words before a b x y t u =
    if_one level l (branches_of (map (text_in level.host before.host) words)) before a b x y t u
named_one level l command.Other name words before a b x y t u = calls_one level.host l.host level.line name words before a b x y t u

values_one : {S : Type 0} (level : Level S) → LevelIsOne level → (words : List Value) → IsOne (RunsValues level words)
values_one level l [] before a b x y t u = both t.0 t.1 u.0 u.1
values_one level l (first ∷ words) before a b x y t u =
    named_one level l (named (text_in level.host before.host first)) (text_in level.host before.host first) words before a b x y t u

command_one : {S : Type 0} (level : Level S) → LevelIsOne level → (this : Command) → IsOne (RunsCommand level this)
command_one level l this before a b x y (inl t) (inl u) =
    then_one _ _ (words_one level l this.words) (values_one level l) (one_more before) a b x y t.1 u.1
command_one level l this before a b x y (inl t) (inr u) = absurd (apart most_commands before.begun u.0 t.0)
command_one level l this before a b x y (inr t) (inl u) = absurd (apart most_commands before.begun t.0 u.0)
command_one level l this before a b x y (inr t) (inr u) = both t.1.0 t.1.1 u.1.0 u.1.1

-- ---- texts

-- a text is told one outcome and leaves one world
abbrev IsToldOne : {S : Type 0} → (World S → Outcome → World S → Type 0) → Type 0
IsToldOne {S = S} Tells = (before : World S) (a b : Outcome) (x y : World S) → Tells before a x → Tells before b y → (a ≡ b) × (x ≡ y)

end_same : (place : Place) (e f : Option (At TclKind)) → StandsCommand place (stops e) → StandsCommand place (stops f) → e ≡ f
end_same place e f p q = same_end e f (commands_once place (stops e) (stops f) p q)

-- after a command with an outcome: either both go on or both end
after_one : {S : Type 0} (This Other : Value → World S → Outcome → World S → Type 0) (this : Command) (xs ys : List Command)
    → ((last : Value) (before : World S) (a b : Outcome) (x y : World S) → This last before a x → Other last before b y → (a ≡ b) × (x ≡ y))
    → (outcome : Result Value Kind) (between : World S) (a b : Outcome) (x y : World S)
    → GoesOnAfter This this xs outcome between a x → GoesOnAfter Other this ys outcome between b y → (a ≡ b) × (x ≡ y)
after_one This Other this xs ys n (Ok last) between a b x y t u = n last between a b x y t u
after_one This Other this xs ys n (Err kind) between a b x y t u = both t.1 t.2 u.1 u.2

commands_one : {S : Type 0} (Does : Command → RunStep (World S) Value) → ((this : Command) → IsOne (Does this))
    → (xs ys : List Command) (place : Place) (last : Value) (before : World S) (a b : Outcome) (x y : World S)
    → RunsCommands Does xs place last before a x → RunsCommands Does ys place last before b y → (a ≡ b) × (x ≡ y)
commands_one Does d [] [] place last before a b x y t u =
    (t.2 ∙ ap (told_end last) (end_same place t.0 u.0 t.1 u.1) ∙ sym u.2, t.3 ∙ sym u.3)
commands_one Does d [] (q ∷ ys) place last before a b x y t u =
    absurd (not_both q u.0 t.0 (commands_once place (found q u.0) (stops t.0) u.1 t.1))
commands_one Does d (p ∷ xs) [] place last before a b x y t u =
    absurd (not_both p t.0 u.0 (commands_once place (found p t.0) (stops u.0) t.1 u.1))
commands_one {S = S} Does d (p ∷ xs) (q ∷ ys) place last before a b x y t u =
    let front = commands_once place (found p t.0) (found q u.0) t.1 u.1 in
    let same : p ≡ q = same_thing p q t.0 u.0 front in
    let next : t.0 ≡ u.0 = same_place p q t.0 u.0 front in
    let other : Does p before u.2.0 u.2.1 = subst (λ (c : Command). Does c before u.2.0 u.2.1) (sym same) u.2.2 in
    let done = d p before t.2.0 u.2.0 t.2.1 u.2.1 t.2.2 other in
    let One : Value → World S → Outcome → World S → Type 0 = RunsCommands Does xs t.0 in
    let Two : Value → World S → Outcome → World S → Type 0 = RunsCommands Does ys t.0 in
    let placed : GoesOnAfter Two q ys u.2.0 u.2.1 b y = subst (λ (n : Place). GoesOnAfter (RunsCommands Does ys n) q ys u.2.0 u.2.1 b y) (sym next) u.2.3 in
    let named : GoesOnAfter Two p ys u.2.0 u.2.1 b y = subst (λ (c : Command). GoesOnAfter Two c ys u.2.0 u.2.1 b y) (sym same) placed in
    let here : GoesOnAfter Two p ys t.2.0 u.2.1 b y = subst (λ (o : Result Value Kind). GoesOnAfter Two p ys o u.2.1 b y) (sym done.0) named in
    let there : GoesOnAfter Two p ys t.2.0 t.2.1 b y = subst (λ (w : World S). GoesOnAfter Two p ys t.2.0 w b y) (sym done.1) here in
    after_one One Two p xs ys (λ value. commands_one Does d xs ys t.0 value) t.2.0 t.2.1 a b x y t.2.3 there

text_run_one : {S : Type 0} (Does : Command → RunStep (World S) Value) → ((this : Command) → IsOne (Does this))
    → (text : List ℕ) → IsToldOne (RunsText Does text)
text_run_one Does d text before a b x y t u =
    commands_one Does d t.0 u.0 (record { text = text; line = 1 }) (value.Text []) before a b x y t.1 u.1

-- ---- levels

within_one : {S : Type 0} (level : Level S) → LevelIsOne level → (script : List ℕ) → IsOne (RunsWithin level script)
within_one level l script before a b x y t u =
    let same = text_run_one (RunsCommand level) (command_one level l) script before t.0 u.0 x y t.1 u.1 in
    (t.2 ∙ ap without_line same.0 ∙ sym u.2, same.1)

bracket_one : {S : Type 0} (level : Level S) → LevelIsOne level → (script : List ℕ) (index : Bool) → IsOne (RunsBracket level script index)
bracket_one level l script true before a b x y t u = both t.0 t.1 u.0 u.1
bracket_one level l script false before a b x y t u = within_one level l script before a b x y t u

opened_one : {S : Type 0} (level : Level S) → LevelIsOne level → (opened : Opened) → IsOne (RunsOpened level opened)
opened_one level l (in_bracket script) before a b x y t u = bracket_one level l script (is_index script) before a b x y t u
opened_one level l (in_body script) before a b x y t u = within_one level l script before a b x y t u

enters_one : {S : Type 0} (host : Host S) → HostIsOne host → (line left inside : ℕ) (opened : Opened) → IsOne (Enters host line left inside opened)
enters_one host h line zero inside opened before a b x y t u = both t.0 t.1 u.0 u.1
enters_one host h line (suc left) zero opened before a b x y t u =
    opened_one (record { host = host; line = line; left = left; Opens = Enters host line left })
    (record { host = h; opens = enters_one host h line left }) opened before a b x y t u
enters_one host h line (suc left) (suc inside) opened before a b x y t u = enters_one host h line left inside opened before a b x y t u

outermost_one : {S : Type 0} (host : Host S) → HostIsOne host → (line : ℕ) → LevelIsOne (outermost host line)
outermost_one host h line = record { host = h; opens = enters_one host h line most_levels }

-- ---- scripts

pub run_once : {S : Type 0} (host : Host S) → HostIsOne host → (script : List ℕ) → HasOneRun host script
run_once {S = S} host h script before a b x y t u =
    let same = text_run_one (λ (this : Command). RunsCommand (outermost host this.line) this)
    (λ this. command_one (outermost host this.line) (outermost_one host h this.line) this) script
    (record { variables = []; host = before; begun = 0 }) t.0 u.0 t.1 u.1 t.2 u.2 in
    (t.3 ∙ ap without_value same.0 ∙ sym u.3, t.4 ∙ ap (λ (w : World S). w.host) same.1 ∙ sym u.4)
