-- The commands by their names (Tcl): those that are built in, one rule each, and all others, which are calls of the
-- host. Here stand `set`, and `expr`, `foreach` and `if`, which run expressions and bodies; a body opens a level as a
-- bracket does. It reads: by the values of a command's words, what it gives and what it does to the world.
use Rattle.std.specs.Prelude.{◌++◌, ℕ, Bool, List, [], ◌∷◌, map, Option, Some, None, Ok, codes, if◌then◌else◌}
use Rattle.source_types.specs.declared.built_ins.Branch.{Branch}
use Rattle.source_types.specs.declared.built_ins.Branches.{Branches}
use Rattle.source_types.specs.declared.built_ins.CommandName.{CommandName}
use Rattle.source_types.specs.declared.built_ins.CommandName.TheVariants as command
use Rattle.source_types.specs.declared.commands.Word.{Word}
use Rattle.source_types.specs.declared.expressions.Scalar.{Scalar}
use Rattle.source_types.specs.declared.kinds.TclKind.TheVariants.{WrongArgs}
use Rattle.timing_types.specs.declared.objects.Value.{Value}
use Rattle.timing_types.specs.declared.objects.Value.TheVariants as value
use Rattle.tcl_model.specs.Branches.{branches_of}
use Rattle.tcl_model.specs.BuiltIns.{Concats, Counts, HasItems, Indexes, list_made, no_text}
use Rattle.tcl_model.specs.ExpressionRun.{RunsExpression, RunStep}
use Rattle.tcl_model.specs.ExpressionValue.{text_of, truth_of}
use Rattle.tcl_model.specs.HostCalls.{AsText, Calls, Host, SetsTo, World, text_in}
use Rattle.tcl_model.specs.RunSteps.{Answers, Chosen, Fails, Looks, Then, tcl_outcome}
use Rattle.tcl_model.specs.Variables.{variable_value}
use Rattle.text_model.specs.Words.{same_text}
use Rattle.tcl_model.specs.WordValues.{Level, RunsWord, in_body}

-- ---- variables

-- `set name ?value?`
abbrev pub Sets : {State : Type 0} → Host State → List Value → RunStep (World State) Value
Sets host [] before given after = Fails WrongArgs before given after
Sets host (name ∷ []) before given after =
    Answers (tcl_outcome (variable_value before.variables (text_in host before.host name))) before given after
Sets host (name ∷ new ∷ []) before given after = SetsTo (text_in host before.host name) new before given after
Sets host (name ∷ new ∷ third ∷ others) before given after = Fails WrongArgs before given after

-- ---- expressions

-- a word of an expression inside so many parentheses, as a text
abbrev pub ReadsWord : {State : Type 0} → Level State → ℕ → Word → RunStep (World State) (List ℕ)
ReadsWord level inside word = AsText level.host (RunsWord level inside word.parts)

-- a text as an expression
abbrev pub EvaluatesText : {State : Type 0} → Level State → List ℕ → RunStep (World State) Scalar
EvaluatesText level text = RunsExpression (ReadsWord level) level.left text

-- texts, each after a blank
abbrev pub after_blanks : List (List ℕ) → List ℕ
after_blanks [] = []
after_blanks (text ∷ texts) = 32 ∷ (text ++ after_blanks texts)

-- texts, joined by blanks
abbrev pub spaced : List (List ℕ) → List ℕ
spaced [] = []
spaced (text ∷ texts) = text ++ after_blanks texts

-- `expr a..`, by the texts of its words
abbrev pub GivesExpression : {State : Type 0} → Level State → List (List ℕ) → RunStep (World State) Value
GivesExpression level texts = Then (EvaluatesText level (spaced texts)) (λ result. Answers (Ok (value.Text (text_of result))))

-- ---- bodies

-- the body, with the variable set to each item in turn
abbrev pub RunsEach : {State : Type 0} → Level State → List ℕ → List ℕ → List Value → RunStep (World State) Value
RunsEach level name body [] before given after = Answers (Ok no_text) before given after
RunsEach level name body (item ∷ items) before given after =
    Then (SetsTo name item) (λ new. Then (level.Opens 0 (in_body body)) (λ last. RunsEach level name body items)) before given after

-- `foreach name list body`
abbrev pub Repeats : {State : Type 0} → Level State → List Value → RunStep (World State) Value
Repeats level (name ∷ list ∷ body ∷ []) before given after =
    Then (Looks (HasItems list)) (RunsEach level (text_in level.host before.host name) (text_in level.host before.host body)) before given after
Repeats level [] before given after = Fails WrongArgs before given after
Repeats level (name ∷ []) before given after = Fails WrongArgs before given after
Repeats level (name ∷ list ∷ []) before given after = Fails WrongArgs before given after
Repeats level (name ∷ list ∷ body ∷ fourth ∷ others) before given after = Fails WrongArgs before given after

-- a condition: a text that is evaluated as by `expr`, and is true where it is not 0
abbrev pub Holds : {State : Type 0} → Level State → List ℕ → RunStep (World State) Bool
Holds level condition = Then (EvaluatesText level condition) (λ result. Answers (tcl_outcome (truth_of result)))

-- the last body, where there is one
abbrev pub RunsOtherwise : {State : Type 0} → Level State → Option (List ℕ) → RunStep (World State) Value
RunsOtherwise level None before given after = Answers (Ok no_text) before given after
RunsOtherwise level (Some body) before given after = level.Opens 0 (in_body body) before given after

-- the body of the first branch whose condition holds
abbrev pub RunsFirst : {State : Type 0} → Level State → List Branch → Option (List ℕ) → RunStep (World State) Value
RunsFirst level [] otherwise before given after = RunsOtherwise level otherwise before given after
RunsFirst level (branch ∷ branches) otherwise before given after =
    Then (Holds level branch.condition)
    (λ holds. Chosen holds (level.Opens 0 (in_body branch.body)) (RunsFirst level branches otherwise)) before given after

-- `if`, by the branches that its words say
abbrev pub Chooses : {State : Type 0} → Level State → Option Branches → RunStep (World State) Value
Chooses level None before given after = Fails WrongArgs before given after
Chooses level (Some said) before given after = RunsFirst level said.branches said.otherwise before given after

-- ---- names

-- the command of a name
unfoldable pub named : List ℕ → CommandName
named name =
    if same_text name (codes "set") then command.Set
    else (if same_text name (codes "list") then command.List
    else (if same_text name (codes "concat") then command.Concat
    else (if same_text name (codes "lindex") then command.Lindex
    else (if same_text name (codes "llength") then command.Llength
    else (if same_text name (codes "expr") then command.Expr
    else (if same_text name (codes "foreach") then command.Foreach
    else (if same_text name (codes "if") then command.If
    else command.Other)))))))

-- a command of a name, by the values of the words after it
abbrev pub RunsNamed : {State : Type 0} → Level State → CommandName → List ℕ → List Value → RunStep (World State) Value
RunsNamed level command.Set name arguments before given after = Sets level.host arguments before given after
RunsNamed level command.List name arguments before given after =
    Answers (Ok (list_made (text_in level.host before.host) arguments)) before given after
RunsNamed level command.Concat name arguments before given after =
    Looks (Concats (text_in level.host before.host) arguments) before given after
RunsNamed level command.Lindex name arguments before given after =
    Looks (Indexes (text_in level.host before.host) arguments) before given after
RunsNamed level command.Llength name arguments before given after = Looks (Counts arguments) before given after
RunsNamed level command.Expr name arguments before given after =
    GivesExpression level (map (text_in level.host before.host) arguments) before given after
RunsNamed level command.Foreach name arguments before given after = Repeats level arguments before given after
RunsNamed level command.If name arguments before given after =
    Chooses level (branches_of (map (text_in level.host before.host) arguments)) before given after
RunsNamed level command.Other name arguments before given after = Calls level.host level.line name arguments before given after

-- a command by the values of all its words; it has one word at least, so the first case never comes
abbrev pub RunsValues : {State : Type 0} → Level State → List Value → RunStep (World State) Value
RunsValues level [] before given after = Answers (Ok no_text) before given after
RunsValues level (first ∷ arguments) before given after =
    let name = text_in level.host before.host first in RunsNamed level (named name) name arguments before given after
